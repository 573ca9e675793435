use Rattle.std.proofs.Common.{◌≡◌, ◌++◌, map, drop}
use Rattle.spl_terms.specs.Clauses.{atom_variables}
use Rattle.clause_parts.proofs.components.list_variables.Given as goal

abbrev pub invariant-loop-atom : goal.invariant-loop-atom
invariant-loop-atom l = l.lists ++ map atom_variables (drop l.atom-index l.atoms) ≡ l.initial.lists ++ map atom_variables l.atoms
