use Rattle.std.proofs.Common.{sym, ◌∙◌}
use Rattle.std.proofs.lemmas.Result.{IfOk-weaker}
use Rattle.unify.proofs.AnswerLemmas.{both, found_exact, found_general, one_equation, one_leads, misfit_leads}
use Rattle.unify.specs.FittingLaws.{misfits, misfit_exact}
use Rattle.unify.proofs.unifying.unify_bound.Goals as goal

pub solution-requires : goal.solution-requires
solution-requires c = one_equation _ _ _ _ _ c.requires.a_below c.requires.b_below c.new-equations.ensures c.in_ok-push.ensures

stand : goal.returns-clause-exact
stand c =
    both c.solution.result _ _ _
    (λ found leads fine. found_exact c.args.vars c.args.a.now c.args.b.now c.requires.a_below c.requires.b_below c.steps_lead_to_unifier.ensures found (one_leads _ _ _ _ _ c.new-equations.ensures c.in_ok-push.ensures leads) fine)
    c.solution.ensures.leads c.solution.ensures.triangular

pub returns-clause-exact : goal.returns-clause-exact
returns-clause-exact c = stand c

pub returns-clause-general : goal.returns-clause-general
returns-clause-general c =
    IfOk-weaker c.solution.result _ _
    (λ found h. found_general c.args.vars c.args.a.now c.args.b.now c.requires.a_below c.requires.b_below c.unifier_is_most_general.ensures found h)
    (stand c)

pub returns-then-not-fits-clause-exact : goal.returns-then-not-fits-clause-exact
returns-then-not-fits-clause-exact c = sym (misfit_exact c.args.vars c.args.a.now c.args.b.now c.requires.a_below c.requires.b_below c.unifier_is_most_general.ensures (sym c.fits.ensures ∙ c.if-not-fits.true))

pub returns-then-not-fits-clause-steps : goal.returns-then-not-fits-clause-steps
returns-then-not-fits-clause-steps c = misfit_leads c.args.vars c.args.a.now c.args.b.now c.requires.a_below c.requires.b_below c.unifier_is_most_general.ensures (sym c.fits.ensures ∙ c.if-not-fits.true) c.steps_lead_to_unifier.ensures

pub returns-then-not-fits-clause-general : goal.returns-then-not-fits-clause-general
returns-then-not-fits-clause-general c = misfits c.args.a.now c.args.b.now (sym c.fits.ensures ∙ c.if-not-fits.true)
