use Rattle.std.proofs.Common.{◌≡◌, ◌∙◌}
use Rattle.spl_terms.specs.declared.clause.Clause.{Clause}
use Rattle.spl_terms.specs.Clauses.{distinct, in_order}
use Rattle.spl_truth.specs.Truth.{apply}
use Rattle.proof_steps.specs.Steps.{joined}
use Rattle.proof_steps.proofs.Distinct.{in_order-distinct, large_constraint, large_antecedent, large_succedent}
use Rattle.proof_steps.proofs.Paramodulation.{with_changed}
use Rattle.proof_steps.proofs.paramodulants.joined_instances.Goals as goal

pub returns-in_default : goal.returns-in_default
returns-in_default c =
    let a = c.args in
    large_constraint (joined (apply a.p.entries.now a.p.clause.now) (with_changed a.q.entries.now a.q.clause.now a.spot.now a.changed.now)) (rw c.in_default.is at c.in_ok-constraint.ensures)

pub returns-in_default-2 : goal.returns-in_default-2
returns-in_default-2 c =
    let a = c.args in
    large_antecedent (joined (apply a.p.entries.now a.p.clause.now) (with_changed a.q.entries.now a.q.clause.now a.spot.now a.changed.now)) (rw c.in_default-2.is at c.in_ok-antecedent.ensures)

pub returns-in_default-3 : goal.returns-in_default-3
returns-in_default-3 c =
    let a = c.args in
    large_succedent (joined (apply a.p.entries.now a.p.clause.now) (with_changed a.q.entries.now a.q.clause.now a.spot.now a.changed.now)) (rw c.in_default-3.is at c.in_ok-succedent.ensures)

pub returns : goal.returns
returns c =
    let a = c.args in
    let d : Clause = joined (apply a.p.entries.now a.p.clause.now) (with_changed a.q.entries.now a.q.clause.now a.spot.now a.changed.now) in
    let first : c.in-Some.constraint ≡ distinct d.constraint = rw c.in-Some.is at c.in_ok-constraint.ensures in
    let second : c.in-Some-2.antecedent ≡ distinct d.antecedent = rw c.in-Some-2.is at c.in_ok-antecedent.ensures in
    let third : c.in-Some-3.succedent ≡ distinct d.succedent = rw c.in-Some-3.is at c.in_ok-succedent.ensures in
    (λ k. in_order (record { constraint = first k; antecedent = second k; succedent = third k })) ∙ in_order-distinct d
