use Rattle.std.proofs.Common.{◌≡◌, ◌++◌, drop}
use Rattle.std.specs.List.{enumerate_from}
use Rattle.superposition.specs.Words.{plain}
use Rattle.superposition.proofs.premises.atoms_in.Given as goal

abbrev pub invariant-loop-place : goal.invariant-loop-place
invariant-loop-place l = plain l.places.items ++ enumerate_from l.place (drop l.place l.atoms) ≡ enumerate_from 0 l.atoms
