use Rattle.std.proofs.Common.{◌≡◌, ◌∙◌, true, false, Some, option_and_then, sym, ap}
use Rattle.std.specs.Prelude.{slice_get}
use Rattle.spl_terms.specs.Terms.{replace}
use Rattle.spl_terms.specs.Clauses.{part_of, replace_in_atom}
use Rattle.spl_truth.specs.Truth.{entry}
use Rattle.proof_steps.specs.Spots.{term_under}
use Rattle.proof_steps.specs.Steps.{sides_of}
use Rattle.proof_steps.proofs.Rules.{sides_there, equation-below}
use Rattle.proof_steps.proofs.Paramodulation.{by_test}
use Rattle.proof_steps.proofs.paramodulants.changes.Goals as goal

pub returns-then-not-equal_instances : goal.returns-then-not-equal_instances
returns-then-not-equal_instances c =
    let a = c.args in
    let e = a.equation in
    let spot = a.spot.now in
    let q = a.q.clause.now in
    let x = c.in-Some-at.atom.now in
    let u = replace (entry c.in-Some-instance_term.entries.now) c.in-Some-instance_term.term.now in
    let sides : sides_there e.right e.i a.p.clause.now ≡ Some (c.in-Some.first.now, c.in-Some.second.now) = ap (λ xs. option_and_then (sides_of e.right) (slice_get xs e.i)) (sym c.as_slice.ensures) ∙ c.in-Some.ensures in
    let atom : slice_get (part_of q spot.part) spot.place ≡ Some x = ap (λ xs. slice_get xs spot.place) (sym c.part.ensures) ∙ sym c.in-Some-at.ensures in
    let term : term_under spot.path (replace_in_atom (entry a.q.entries.now) x) ≡ Some u = ap (λ l. term_under l (replace_in_atom (entry a.q.entries.now) x)) (sym c.as_slice-2.ensures) ∙ c.in-Some-instance_term.ensures in
    by_test e.i e.right spot a.p.entries.now a.q.entries.now a.p.clause.now q c.in-Some.first.now c.in-Some.second.now sides x atom u false term (sym c.if-not-equal_instances.true ∙ c.equal_instances.ensures)

pub returns : goal.returns
returns c =
    let a = c.args in
    let e = a.equation in
    let spot = a.spot.now in
    let q = a.q.clause.now in
    let x = c.in-Some-at.atom.now in
    let u = replace (entry c.in-Some-instance_term.entries.now) c.in-Some-instance_term.term.now in
    let sides : sides_there e.right e.i a.p.clause.now ≡ Some (c.in-Some.first.now, c.in-Some.second.now) = ap (λ xs. option_and_then (sides_of e.right) (slice_get xs e.i)) (sym c.as_slice.ensures) ∙ c.in-Some.ensures in
    let atom : slice_get (part_of q spot.part) spot.place ≡ Some x = ap (λ xs. slice_get xs spot.place) (sym c.part.ensures) ∙ sym c.in-Some-at.ensures in
    let term : term_under spot.path (replace_in_atom (entry a.q.entries.now) x) ≡ Some u = ap (λ l. term_under l (replace_in_atom (entry a.q.entries.now) x)) (sym c.as_slice-2.ensures) ∙ c.in-Some-instance_term.ensures in (
      by_test e.i e.right spot a.p.entries.now a.q.entries.now a.p.clause.now q c.in-Some.first.now c.in-Some.second.now sides x atom u true term (sym c.if-not-equal_instances.false ∙ c.equal_instances.ensures),
      equation-below e.right e.i a.p.clause.now (c.in-Some.first.now, c.in-Some.second.now) sides,
      atom,
    )
