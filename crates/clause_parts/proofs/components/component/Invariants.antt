use Rattle.std.proofs.Common.{◌≡◌}
use Rattle.clause_parts.specs.Parts.{spread_times, component}
use Rattle.clause_parts.proofs.components.component.Given as goal

-- the rounds that are left make the component of these marks
abbrev pub invariant-loop-rounds : goal.invariant-loop-rounds
invariant-loop-rounds l = spread_times l.rounds l.lists l.marks ≡ component l.k l.lists

abbrev pub decreases-loop-rounds : goal.decreases-loop-rounds
decreases-loop-rounds l = l.rounds
