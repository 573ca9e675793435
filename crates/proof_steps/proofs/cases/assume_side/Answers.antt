use Rattle.std.proofs.Common.{◌≡◌, ◌∙◌, [], ◌∷◌, option_map, subst}
use Rattle.std.specs.Prelude.{IfOk}
use Rattle.spl_terms.specs.Clauses.{in_order}
use Rattle.proof_steps.specs.Steps.{states, side_of, within}
use Rattle.proof_steps.proofs.CaseLemmas.{assumed_side}
use Rattle.proof_steps.proofs.cases.assume_side.Goals as goal

pub returns : goal.returns
returns c =
    let same = (λ i. option_map (λ d. states (in_order d) (c.in_ok-one.ensures i)) (c.in_ok-part.ensures i)) ∙ assumed_side c.args.side c.args.r.now.clause (side_of c.args.split c.args.side ∷ []) in
    subst (λ o. IfOk c.stated.result (λ made. made ≡ within o)) same c.stated.ensures
