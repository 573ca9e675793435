use Rattle.std.proofs.Common.{◌≡◌, ◌∙◌, true, false, ◌==◌, Some, option_and_then, sym, ap, arith}
use Rattle.std.specs.Prelude.{slice_get}
use Rattle.std.proofs.lemmas.Bool.{false_from_ne_true, eqb-true}
use Rattle.spl_terms.specs.Clauses.{in_order}
use Rattle.spl_truth.specs.Truth.{apply}
use Rattle.proof_steps.specs.Steps.{sides_of}
use Rattle.proof_steps.proofs.Rules.{equation-below}
use Rattle.proof_steps.proofs.Under.{factored-there}
use Rattle.proof_steps.proofs.equation_rules.equality_factored_under.Goals as goal

pub returns-then-not-equal_instances : goal.returns-then-not-equal_instances
returns-then-not-equal_instances c =
    let a = c.args in
    let differ : (a.i == a.j) ≡ false = false_from_ne_true (a.i == a.j) (λ e. omega (arith, eqb-true a.i a.j e, c.if-i-j.false)) in
    let first = ap (λ xs. option_and_then (sides_of a.i_right) (slice_get xs a.i)) (sym c.as_slice.ensures) ∙ c.in-Some.ensures in
    let second = ap (λ xs. option_and_then (sides_of a.j_right) (slice_get xs a.j)) (sym c.as_slice-2.ensures) ∙ c.in-Some-sides_at.ensures in
    sym (factored-there a.entries.now a.i a.i_right a.j a.j_right a.p.now c.in-Some.first.now c.in-Some.second.now c.in-Some-sides_at.other.now c.in-Some-sides_at.third.now false differ first second (sym c.if-not-equal_instances.true ∙ c.equal_instances.ensures))

pub with_sides_compared-requires : goal.with_sides_compared-requires
with_sides_compared-requires c =
    let a = c.args in
    equation-below a.i_right a.i a.p.now (c.in-Some.first.now, c.in-Some.second.now) (ap (λ xs. option_and_then (sides_of a.i_right) (slice_get xs a.i)) (sym c.as_slice.ensures) ∙ c.in-Some.ensures)

pub returns : goal.returns
returns c =
    let a = c.args in
    let differ : (a.i == a.j) ≡ false = false_from_ne_true (a.i == a.j) (λ e. omega (arith, eqb-true a.i a.j e, c.if-i-j.false)) in
    let first = ap (λ xs. option_and_then (sides_of a.i_right) (slice_get xs a.i)) (sym c.as_slice.ensures) ∙ c.in-Some.ensures in
    let second = ap (λ xs. option_and_then (sides_of a.j_right) (slice_get xs a.j)) (sym c.as_slice-2.ensures) ∙ c.in-Some-sides_at.ensures in
    ap (λ d. Some (in_order (apply a.entries.now d))) c.in_ok-with_sides_compared.ensures
    ∙ sym (factored-there a.entries.now a.i a.i_right a.j a.j_right a.p.now c.in-Some.first.now c.in-Some.second.now c.in-Some-sides_at.other.now c.in-Some-sides_at.third.now true differ first second (sym c.if-not-equal_instances.false ∙ c.equal_instances.ensures))
