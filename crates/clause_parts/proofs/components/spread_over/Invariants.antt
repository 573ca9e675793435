use Rattle.std.proofs.Common.{◌≡◌, ◌++◌, drop}
use Rattle.clause_parts.specs.Marking.{spread_over}
use Rattle.clause_parts.proofs.components.spread_over.Given as goal

abbrev pub invariant-loop-k : goal.invariant-loop-k
invariant-loop-k l = l.made ++ spread_over l.variables (drop l.k l.lists) (drop l.k l.marks) ≡ spread_over l.variables l.lists l.marks
