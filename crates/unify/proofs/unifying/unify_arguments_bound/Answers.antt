use Rattle.std.proofs.Common.{sym, ◌∙◌}
use Rattle.std.proofs.lemmas.Result.{IfOk-weaker}
use Rattle.spl_terms.specs.declared.term.Term.{App}
use Rattle.unify.proofs.AnswerLemmas.{both, found_exact, found_general, application_has, arguments_equations, arguments_lead, arguments_apart, as_many_fit}
use Rattle.unify.specs.FittingLaws.{misfits, misfit_exact}
use Rattle.unify.proofs.unifying.unify_arguments_bound.Goals as goal

pub returns-then-not-all_fit-clause-exact : goal.returns-then-not-all_fit-clause-exact
returns-then-not-all_fit-clause-exact c = λ head.
    sym
    (misfit_exact c.args.vars (App head c.args.left.now) (App head c.args.right.now) (application_has _ head _ c.requires.left_below) (application_has _ head _ c.requires.right_below) c.unifier_is_most_general.ensures
    (arguments_apart head c.args.left.now c.args.right.now _ c.all_fit.ensures c.if-not-all_fit.true))

pub returns-then-not-all_fit-clause-general : goal.returns-then-not-all_fit-clause-general
returns-then-not-all_fit-clause-general c = λ head.
    misfits (App head c.args.left.now) (App head c.args.right.now) (arguments_apart head c.args.left.now c.args.right.now _ c.all_fit.ensures c.if-not-all_fit.true)

pub push_arguments-requires : goal.push_arguments-requires
push_arguments-requires c = as_many_fit c.args.left.now c.args.right.now (sym c.all_fit.ensures ∙ c.if-not-all_fit.false)

pub solution-requires : goal.solution-requires
solution-requires c = arguments_equations _ _ _ _ _ c.requires.left_below c.requires.right_below c.new-equations.ensures c.in_ok-push_arguments.ensures

stand : goal.returns-clause-exact
stand c = λ head.
    both c.solution.result _ _ _
    (λ found leads fine. found_exact c.args.vars (App head c.args.left.now) (App head c.args.right.now) (application_has _ head _ c.requires.left_below) (application_has _ head _ c.requires.right_below) c.steps_lead_to_unifier.ensures found
    (arguments_lead head c.args.left.now c.args.right.now _ _ _ (as_many_fit c.args.left.now c.args.right.now (sym c.all_fit.ensures ∙ c.if-not-all_fit.false)) c.new-equations.ensures c.in_ok-push_arguments.ensures leads) fine)
    c.solution.ensures.leads c.solution.ensures.triangular

pub returns-clause-exact : goal.returns-clause-exact
returns-clause-exact c = stand c

pub returns-clause-general : goal.returns-clause-general
returns-clause-general c = λ head.
    IfOk-weaker c.solution.result _ _
    (λ found h. found_general c.args.vars (App head c.args.left.now) (App head c.args.right.now) (application_has _ head _ c.requires.left_below) (application_has _ head _ c.requires.right_below) c.unifier_is_most_general.ensures found h)
    (stand c head)
