use Rattle.std.proofs.Common.{◌≡◌, ◌++◌, not, map, drop}
use Rattle.clause_parts.proofs.parts.others.Given as goal

abbrev pub invariant-loop-mark : goal.invariant-loop-mark
invariant-loop-mark l = l.made ++ map not (drop l.mark-index l.marks) ≡ map not l.marks
