use Rattle.std.proofs.Common.{List, ◌++◌, take, map}
use Rattle.spl_terms.specs.declared.atom.Atom.{Atom}
use Rattle.spl_terms.specs.Clauses.{replace_in_atom}
use Rattle.spl_truth.specs.Truth.{entry}
use Rattle.superposition.specs.Sizes.{entries_from, AreCounted}
use Rattle.superposition.proofs.sizing.count_instances.Given as goal

abbrev pub invariant-loop-atom : goal.invariant-loop-atom
invariant-loop-atom l =
    (earlier : List Atom) → AreCounted l.count l.initial.kept earlier → AreCounted l.total l.kept (earlier ++ map (replace_in_atom (entry (entries_from l.from l.past l.bindings.1))) (take l.atom-index l.atoms))
