use Rattle.std.proofs.Common.{◌≡◌, ◌∙◌, ◌+◌, refl, arith}
use Rattle.spl_terms.specs.InOrder.{variables}
use Rattle.spl_truth.specs.Unifiers.{entries_below}
use Rattle.unify.specs.Bindings.{substitution}
use Rattle.calculus.specs.Inferences.{clause_of}
use Rattle.superposition.proofs.Unified.{first_entries}
use Rattle.superposition.proofs.unifiers.restrictions.Goals as goal

pub returns : goal.returns
returns c =
    let pair = c.args.pair in
    let more = variables (clause_of pair.q.now) in
    let all : pair.both ≡ pair.first + more = omega (arith, c.requires.pair.first, c.requires.pair.both) in
    (entries_below pair.both (substitution c.args.bindings.now.1), refl, c.in_ok-s.ensures ∙ first_entries pair.first more pair.both (substitution c.args.bindings.now.1) all, c.in_ok-t.ensures)
