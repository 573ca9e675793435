use Rattle.std.proofs.Common.{◌≡◌, ◌∙◌, ◌&&◌, true, Some, IfOk, sym, subst}
use Rattle.spl_terms.specs.Clauses.{in_order}
use Rattle.spl_truth.specs.Truth.{apply}
use Rattle.proof_steps.specs.Steps.{has_entries, may_resolve, resolvent, states, within}
use Rattle.proof_steps.proofs.JoinedParts.{resolution_made}
use Rattle.proof_steps.proofs.concluding.resolve.Goals as goal

pub returns : goal.returns
returns c =
    let a = c.args in
    let l = a.literals in
    let p = a.p.now in
    let q = a.q.now in
    let first = c.as_slice-first.ensures in
    let second = c.as_slice-second.ensures in
    let back = sym first in
    let back_too = sym second in
    let fit : (has_entries a.s.now.terms p.clause && has_entries a.t.now.terms q.clause) ≡ true = sym c.in_ok-both_fit.ensures ∙ c.if-not-branch.false in
    let may : may_resolve l.i l.part l.j (apply a.s.now.terms p.clause) (apply a.t.now.terms q.clause) ≡ true =
    (λ k. may_resolve l.i l.part l.j (apply (back k) p.clause) (apply (back_too k) q.clause)) ∙ sym c.may_resolve_instances.ensures ∙ c.if-not-may_resolve_instances.false in
    subst (λ o. IfOk c.ordered_resolvent.result (λ m. m ≡ within o))
    ((λ k. Some (states (in_order (resolvent l.i l.part l.j (apply (first k) p.clause) (apply (second k) q.clause))) (c.in_ok-deps.ensures.exact k)))
    ∙ resolution_made l.i l.part l.j a.s.now.terms a.t.now.terms p q fit may)
    c.ordered_resolvent.ensures
