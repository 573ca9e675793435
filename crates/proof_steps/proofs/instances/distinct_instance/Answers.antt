use Rattle.std.proofs.Common.{◌≡◌, ◌∙◌}
use Rattle.spl_terms.specs.declared.clause.Clause.{Clause}
use Rattle.spl_terms.specs.Clauses.{distinct, in_order}
use Rattle.spl_truth.specs.Truth.{apply}
use Rattle.proof_steps.proofs.Distinct.{in_order-distinct, large_constraint, large_antecedent, large_succedent}
use Rattle.proof_steps.proofs.instances.distinct_instance.Goals as goal

pub returns-in_default : goal.returns-in_default
returns-in_default c = large_constraint (apply c.args.entries.now c.args.clause.now) (rw c.as_slice.ensures at (rw c.in_default.is at c.in_ok-constraint.ensures))

pub returns-in_default-2 : goal.returns-in_default-2
returns-in_default-2 c = large_antecedent (apply c.args.entries.now c.args.clause.now) (rw c.as_slice-2.ensures at (rw c.in_default-2.is at c.in_ok-antecedent.ensures))

pub returns-in_default-3 : goal.returns-in_default-3
returns-in_default-3 c = large_succedent (apply c.args.entries.now c.args.clause.now) (rw c.as_slice-3.ensures at (rw c.in_default-3.is at c.in_ok-succedent.ensures))

pub returns : goal.returns
returns c =
    let d : Clause = apply c.args.entries.now c.args.clause.now in
    let first : c.in-Some.constraint ≡ distinct d.constraint = rw c.as_slice.ensures at (rw c.in-Some.is at c.in_ok-constraint.ensures) in
    let second : c.in-Some-2.antecedent ≡ distinct d.antecedent = rw c.as_slice-2.ensures at (rw c.in-Some-2.is at c.in_ok-antecedent.ensures) in
    let third : c.in-Some-3.succedent ≡ distinct d.succedent = rw c.as_slice-3.ensures at (rw c.in-Some-3.is at c.in_ok-succedent.ensures) in
    (λ k. in_order (record { constraint = first k; antecedent = second k; succedent = third k })) ∙ in_order-distinct d
