use Rattle.std.proofs.Common.{◌≡◌, ◌<◌, ◌∙◌, sum_by, sym, ap, subst}
use Rattle.std.specs.Prelude.{remove}
use Rattle.spl_terms.specs.declared.clause.Clause.{Clause}
use Rattle.spl_terms.specs.Clauses.{atom_symbols, distinct, in_order}
use Rattle.spl_truth.specs.Truth.{apply}
use Rattle.proof_steps.specs.Steps.{resolvent}
use Rattle.proof_steps.proofs.Distinct.{in_order-distinct, large_constraint, large_antecedent, large_succedent}
use Rattle.proof_steps.proofs.JoinedParts.{constraint_is, antecedent_is, succedent_is}
use Rattle.proof_steps.proofs.resolvents.resolvent_instance.Goals as goal

pub returns-in_default : goal.returns-in_default
returns-in_default c =
    let a = c.args in
    let l = a.literals in
    let is = constraint_is l.i l.part l.j a.s.now a.t.now a.p.now a.q.now c.left_of.result.0.now c.left_of.result.1.now c.left_of.ensures in
    let large = rw c.as_slice.ensures at (rw c.in_default.is at c.in_ok-constraint.ensures) in
    large_constraint (resolvent l.i l.part l.j (apply a.s.now a.p.now) (apply a.t.now a.q.now)) (subst (λ xs. 4096 < sum_by atom_symbols (distinct xs)) (sym is) large)

pub returns-in_default-2 : goal.returns-in_default-2
returns-in_default-2 c =
    let a = c.args in
    let l = a.literals in
    let is = antecedent_is l.i l.part l.j a.s.now a.t.now a.p.now a.q.now c.left_of-2.result.0.now c.left_of-2.result.1.now c.left_of-2.ensures in
    let large = rw c.as_slice-2.ensures at (rw c.in_default-2.is at c.in_ok-antecedent.ensures) in
    large_antecedent (resolvent l.i l.part l.j (apply a.s.now a.p.now) (apply a.t.now a.q.now)) (subst (λ xs. 4096 < sum_by atom_symbols (distinct xs)) (sym is) large)

pub returns-in_default-3 : goal.returns-in_default-3
returns-in_default-3 c =
    let a = c.args in
    let l = a.literals in
    let is = succedent_is l.i l.part l.j a.s.now a.t.now a.p.now a.q.now c.around.result.0.now c.around.result.1.now (c.around.ensures ∙ ap (λ xs. remove xs l.i) c.as_slice-3.ensures) c.requires.negative in
    let large = rw c.as_slice-4.ensures at (rw c.in_default-3.is at c.in_ok-succedent.ensures) in
    large_succedent (resolvent l.i l.part l.j (apply a.s.now a.p.now) (apply a.t.now a.q.now)) (subst (λ xs. 4096 < sum_by atom_symbols (distinct xs)) (sym is) large)

pub returns : goal.returns
returns c =
    let a = c.args in
    let l = a.literals in
    let d : Clause = resolvent l.i l.part l.j (apply a.s.now a.p.now) (apply a.t.now a.q.now) in
    let one = rw c.as_slice.ensures at (rw c.in-Some.is at c.in_ok-constraint.ensures) in
    let two = rw c.as_slice-2.ensures at (rw c.in-Some-2.is at c.in_ok-antecedent.ensures) in
    let three = rw c.as_slice-4.ensures at (rw c.in-Some-3.is at c.in_ok-succedent.ensures) in
    let first : c.in-Some.constraint ≡ distinct d.constraint =
    one ∙ ap distinct (sym (constraint_is l.i l.part l.j a.s.now a.t.now a.p.now a.q.now c.left_of.result.0.now c.left_of.result.1.now c.left_of.ensures)) in
    let second : c.in-Some-2.antecedent ≡ distinct d.antecedent =
    two ∙ ap distinct (sym (antecedent_is l.i l.part l.j a.s.now a.t.now a.p.now a.q.now c.left_of-2.result.0.now c.left_of-2.result.1.now c.left_of-2.ensures)) in
    let third : c.in-Some-3.succedent ≡ distinct d.succedent =
    three ∙ ap distinct (sym (succedent_is l.i l.part l.j a.s.now a.t.now a.p.now a.q.now c.around.result.0.now c.around.result.1.now (c.around.ensures ∙ ap (λ xs. remove xs l.i) c.as_slice-3.ensures) c.requires.negative)) in
    (λ k. in_order (record { constraint = first k; antecedent = second k; succedent = third k })) ∙ in_order-distinct d
