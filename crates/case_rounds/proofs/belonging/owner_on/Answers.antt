use Rattle.std.proofs.Common.{◌∙◌, ◌⊎◌, inl, inr, ◌≤◌, suc, length, sym, arith}
use Rattle.std.proofs.lemmas.Bool.{cases_lt}
use Rattle.case_rounds.proofs.Owners.{owner_end}
use Rattle.case_rounds.proofs.belonging.owner_on.Goals as goal

pub returns : goal.returns
returns c =
    let nodes = c.args.nodes.now in
    let path = c.args.path.now in
    let k = c.loop-k.k in
    let past : length path ≤ k ⊎ length nodes ≤ suc k = elim (cases_lt k (length path)) [
      | inl low ↦ inr (omega (arith, low, c.loop-k-test.false, c.min-k-end.ensures))
      | inr high ↦ inl high
    ] in
    sym (owner_end nodes path c.args.deps.now k c.loop-k.owner past) ∙ c.loop-k.invariant
