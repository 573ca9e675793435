use Rattle.std.proofs.Common.{◌≡◌}
use Rattle.spl_truth.specs.Unifiers.{left_symbols}
use Rattle.unify.specs.Below.{EquationsBelow}
use Rattle.unify.specs.Bindings.{substitution}
use Rattle.unify.specs.Solving.{Onward}
use Rattle.unify.proofs.unifying.bind_next.Given as goal

-- nothing was bound, and what is left leads where the whole does
abbrev pub invariant-loop-left : goal.invariant-loop-left
invariant-loop-left l =
    (l.bindings.0 ≡ l.initial.bindings.0) × (l.bindings.1 ≡ l.initial.bindings.1) × EquationsBelow l.bindings.0 l.equations × Onward l.initial.bindings.1 l.initial.equations l.bindings.1 l.equations

abbrev pub decreases-loop-left : goal.decreases-loop-left
decreases-loop-left l = left_symbols (substitution l.bindings.1) l.equations
