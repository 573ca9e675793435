use Rattle.std.proofs.Common.{◌≡◌, ◌++◌, drop}
use Rattle.clause_parts.specs.Marking.{marked_variables}
use Rattle.clause_parts.proofs.components.reached.Given as goal

abbrev pub invariant-loop-k : goal.invariant-loop-k
invariant-loop-k l = l.found.items ++ marked_variables (drop l.k l.marks) (drop l.k l.lists) ≡ marked_variables l.marks l.lists
