use Rattle.std.proofs.Common.{◌≡◌, ◌++◌, drop}
use Rattle.clause_parts.specs.Parts.{marked}
use Rattle.clause_parts.proofs.parts.marked.Given as goal

abbrev pub invariant-loop-k : goal.invariant-loop-k
invariant-loop-k l = l.made ++ marked (drop l.k l.marks) (drop l.k l.atoms) ≡ marked l.marks l.atoms
