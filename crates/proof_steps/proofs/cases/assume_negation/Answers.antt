use Rattle.std.proofs.Common.{◌≡◌, ◌∙◌, [], ◌∷◌, Some, option_map, sym, ap, subst}
use Rattle.std.specs.Prelude.{IfOk}
use Rattle.spl_terms.specs.Clauses.{in_order}
use Rattle.proof_steps.specs.Steps.{states, side_of, assumption_of, within}
use Rattle.proof_steps.proofs.CaseLemmas.{negation_stated}
use Rattle.proof_steps.proofs.cases.assume_negation.Goals as goal

pub returns : goal.returns
returns c =
    let two : c.args.side ≡ 2 = c.if-side-ne2.false in
    let deps = c.in_ok-one.ensures ∙ ap (λ n. side_of c.args.split n ∷ []) two in
    let same =
    (λ i. option_map (λ d. states (in_order d) (deps i)) c.in_ok-clause.clause)
    ∙ negation_stated c.args.split c.args.number c.args.r.now c.in_ok-clause.clause c.in_ok-clause.ensures
    ∙ ap (λ n. assumption_of c.args.split n (Some c.args.number) c.args.r.now) (sym two) in
    subst (λ o. IfOk c.stated.result (λ made. made ≡ within o)) same c.stated.ensures
