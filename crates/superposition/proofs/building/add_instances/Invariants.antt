use Rattle.std.proofs.Common.{◌≡◌, ◌++◌, take, map}
use Rattle.spl_terms.specs.Clauses.{replace_in_atom}
use Rattle.spl_truth.specs.Truth.{entry}
use Rattle.superposition.proofs.building.add_instances.Given as goal

abbrev pub invariant-loop-atom : goal.invariant-loop-atom
invariant-loop-atom l = l.made ≡ l.initial.made ++ map (replace_in_atom (entry l.entries)) (take l.atom-index l.atoms)
