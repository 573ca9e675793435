use Rattle.std.proofs.Common.{◌≡◌, ◌∙◌, None, option_map, IfOk, if◌then◌else◌, sym, ap, subst}
use Rattle.spl_terms.specs.Clauses.{in_order}
use Rattle.spl_truth.specs.Truth.{apply}
use Rattle.proof_steps.specs.Steps.{equality_factored, equality_factoring}
use Rattle.superposition.proofs.own.factored.Goals as goal

pub returns : goal.returns
returns c =
    let a = c.args in
    let same : equality_factored a.e.place a.e.right a.d.place a.d.right c.in_ok-first.first ≡ equality_factoring a.e.place a.e.right a.d.place a.d.right a.s.now.terms a.p.now =
    ap (equality_factored a.e.place a.e.right a.d.place a.d.right) c.in_ok-first.ensures
    ∙ sym (ap (λ b. if b then equality_factored a.e.place a.e.right a.d.place a.d.right (apply a.s.now.terms a.p.now) else None) c.requires) in
    subst (λ o. IfOk c.equality_factored.result (λ made. option_map in_order made ≡ o)) same c.equality_factored.ensures
