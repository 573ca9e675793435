use Rattle.std.proofs.Common.{◌<◌, ◌∙◌, fold, sum_by, ap, subst}
use Rattle.spl_terms.specs.Clauses.{atom_symbols, added}
use Rattle.proof_steps.proofs.JoinedParts.{at_entries, large_first, large_second}
use Rattle.proof_steps.proofs.resolvents.kept_of.Goals as goal

pub returns-then-not-branch : goal.returns-then-not-branch
returns-then-not-branch c =
    let a = c.args in
    let large = rw c.if-not-branch.true at c.in_ok-add_instances.ensures in
    large_first (at_entries a.s.now a.first.now) (at_entries a.t.now a.second.now) (at_entries a.u.now a.third.now)
    (subst (λ kept. 4096 < sum_by atom_symbols (fold added kept (at_entries a.s.now a.first.now))) c.new-kept.ensures large)

pub returns-then-not-branch-2 : goal.returns-then-not-branch-2
returns-then-not-branch-2 c =
    let a = c.args in
    let first = rw c.if-not-branch.false at c.in_ok-add_instances.ensures in
    let large = rw c.if-not-branch-2.true at c.in_ok-add_instances-2.ensures in
    large_second (at_entries a.s.now a.first.now) (at_entries a.t.now a.second.now) (at_entries a.u.now a.third.now)
    (subst (λ kept. 4096 < sum_by atom_symbols (fold added kept (at_entries a.t.now a.second.now))) (first ∙ ap (λ kept. fold added kept (at_entries a.s.now a.first.now)) c.new-kept.ensures) large)
