use Rattle.unify.proofs.AnswerLemmas.{written_steps, written_general}
use Rattle.unify.proofs.unifying.unify.Goals as goal

pub returns-clause-steps : goal.returns-clause-steps
returns-clause-steps c = written_steps c.args.vars c.args.a.now c.args.b.now _ _ c.in-Some.is c.in_ok-bindings.ensures.exact _ c.in_ok-terms.ensures c.in_ok-bindings.ensures.steps

pub returns-clause-general : goal.returns-clause-general
returns-clause-general c = written_general c.args.vars c.args.a.now c.args.b.now _ _ c.in-Some.is c.in_ok-bindings.ensures.exact _ c.in_ok-terms.ensures c.in_ok-bindings.ensures.general
