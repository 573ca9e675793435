use Rattle.std.proofs.Common.{◌∷◌, subst}
use Rattle.unify.specs.Solving.{Progressed}
use Rattle.unify.proofs.SolvingLemmas.{settled_bound, none_left}
use Rattle.unify.proofs.unifying.bind_next.Goals as goal

pub returns-in-Bound-clause-settled : goal.returns-in-Bound-clause-settled
returns-in-Bound-clause-settled c =
    settled_bound _ _ _ _ _ _ _ _ _ _ c.loop-left.invariant.0 c.loop-left.invariant.1 c.loop-left.invariant.3 c.in-Some.ensures
    (subst (λ p. Progressed c.loop-left.bindings.0 p c.loop-left.bindings.1 ((c.in-Some.left.now, c.in-Some.right.now) ∷ c.pop.new.self) c.take_equation.new.bindings.1 c.take_equation.new.equations) c.in-Bound.is c.in_ok-take_equation.ensures.progress)

pub returns-clause-settled : goal.returns-clause-settled
returns-clause-settled c = none_left _ _ _ _ c.loop-left.invariant.1 c.loop-left.invariant.3 c.in_default.ensures
