use Rattle.std.proofs.Common.{◌≤◌}
use Rattle.superposition.proofs.counting.symbols_of_atoms.Given as goal

abbrev pub invariant-loop-atom : goal.invariant-loop-atom
invariant-loop-atom l = l.count ≤ l.limit
