use Rattle.std.proofs.Common.{◌<◌, ◌∙◌, [], fold, sum_by, sym, ap, subst}
use Rattle.spl_terms.specs.Clauses.{atom_symbols, added, part_of}
use Rattle.spl_truth.specs.Truth.{apply}
use Rattle.proof_steps.proofs.JoinedParts.{at_entries, part_of-apply}
use Rattle.proof_steps.proofs.Paramodulation.{with_changed}
use Rattle.proof_steps.proofs.Pieces.{large_one}
use Rattle.proof_steps.proofs.paramodulants.part_of_both.Goals as goal

pub returns-then-not-branch : goal.returns-then-not-branch
returns-then-not-branch c =
    let a = c.args in
    let s = a.p.entries.now in
    let p = a.p.clause.now in
    let large = rw c.if-not-branch.true at c.in_ok-add_instances.ensures in
    let is = (λ k. fold added (c.new-kept.ensures k) (at_entries s (c.part.ensures k))) ∙ ap (fold added []) (sym (part_of-apply s p a.of)) in
    large_one (part_of (apply s p) a.of) (part_of (with_changed a.q.entries.now a.q.clause.now a.spot.now a.changed.now) a.of) (subst (λ l. 4096 < sum_by atom_symbols l) is large)
