use Rattle.unify.proofs.MatchLemmas.{found_before, bound_now, extended_once}
use Rattle.unify.proofs.matching.match_variable.Goals as goal

pub returns-in-Some-clause-found : goal.returns-in-Some-clause-found
returns-in-Some-clause-found c = found_before c.args.found.now.1 c.args.variable c.in-Some.term.now c.args.target.now _ c.in-Some.ensures c.equals.ensures

pub returns-in_ok-bind-in-None-clause-found : goal.returns-in_ok-bind-in-None-clause-found
returns-in_ok-bind-in-None-clause-found c = bound_now c.args.found.now.1 c.bind.new.self.1 c.args.variable c.args.target.now c.in-None.ensures (λ i. (c.in_ok-bind-in-None.ensures.ok i).1)

pub returns-in_ok-bind-in-None-clause-extended : goal.returns-in_ok-bind-in-None-clause-extended
returns-in_ok-bind-in-None-clause-extended c = extended_once _ _ c.args.variable c.args.target.now c.in_ok-bind-in-None.ensures.ok
