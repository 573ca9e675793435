use Rattle.std.proofs.Common.{◌≡◌, ◌∙◌, true, option_map, sym, ap, subst}
use Rattle.std.specs.Prelude.{IfOk}
use Rattle.spl_terms.specs.Clauses.{in_order}
use Rattle.dep_sets.specs.Assumptions.{united}
use Rattle.proof_steps.specs.Steps.{states, side_of, closes, within}
use Rattle.proof_steps.proofs.CaseLemmas.{left_over}
use Rattle.proof_steps.proofs.cases.close_side.Goals as goal

pub returns : goal.returns
returns c =
    let a = side_of c.args.split c.args.side in
    let r = c.args.r.now in
    let deps = c.in_ok-deps.ensures.exact ∙ ap (λ x. united x r.deps) c.in_ok-without.ensures.exact in
    let closed : closes a c.args.e.now ≡ true = sym c.closes.ensures ∙ c.if-not-closes.false in
    let same =
    (λ i. option_map (λ d. states (in_order d) (deps i)) (c.in_ok-part_of_side.ensures i))
    ∙ left_over c.args.split c.args.side c.args.other r c.args.e.now c.requires closed in
    subst (λ o. IfOk c.stated.result (λ made. made ≡ within o)) same c.stated.ensures
