use Rattle.std.proofs.Common.{◌≡◌}
use Rattle.spl_truth.specs.BindingLaws.{unbound_below}
use Rattle.unify.specs.Below.{EquationsBelow}
use Rattle.unify.specs.Bindings.{substitution, IsTriangular}
use Rattle.unify.specs.Solving.{Onward}
use Rattle.unify.proofs.unifying.solve.Given as goal

-- what is left leads where the whole does
abbrev pub invariant-loop : goal.invariant-loop
invariant-loop l =
    (l.bindings.0 ≡ l.initial.bindings.0) × IsTriangular l.bindings.0 l.bindings.1 × EquationsBelow l.bindings.0 l.equations × Onward l.initial.bindings.1 l.initial.equations l.bindings.1 l.equations

abbrev pub decreases-loop : goal.decreases-loop
decreases-loop l = unbound_below l.bindings.0 (substitution l.bindings.1)
