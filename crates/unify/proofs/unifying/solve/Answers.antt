use Rattle.std.proofs.Common.{◌<◌, subst, sym}
use Rattle.spl_truth.specs.BindingLaws.{unbound_below}
use Rattle.unify.specs.Bindings.{substitution}
use Rattle.unify.specs.Solving.{Settled}
use Rattle.unify.proofs.SolvingLemmas.{fewer_unbound}
use Rattle.unify.proofs.unifying.solve.Goals as goal

pub loop-smaller : goal.loop-smaller
loop-smaller c =
    subst (λ n. unbound_below n (substitution c.bind_next.new.bindings.1) < unbound_below c.loop.bindings.0 (substitution c.loop.bindings.1)) (sym c.in_ok-bind_next.ensures.as_many)
    (fewer_unbound _ _ _ _ _ c.loop.invariant.1
    (subst (λ p. Settled c.loop.bindings.0 p c.loop.bindings.1 c.loop.equations c.bind_next.new.bindings.1 c.bind_next.new.equations) c.in-Bound.is c.in_ok-bind_next.ensures.settled))
