use Rattle.std.proofs.Common.{◌≡◌, map, take}
use Rattle.spl_terms.specs.Clauses.{distinct, replace_in_atom}
use Rattle.spl_truth.specs.Truth.{entry}
use Rattle.reductions.proofs.condensing.distinct_instances.Given as goal

abbrev pub invariant-loop-atom : goal.invariant-loop-atom
invariant-loop-atom l = l.made ≡ distinct (map (replace_in_atom (entry l.entries)) (take l.atom-index l.atoms))
