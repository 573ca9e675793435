use Rattle.std.proofs.Common.{◌≡◌, ℕ, ◌<◌, [], Some}
use Rattle.std.specs.Prelude.{slice_get}
use Rattle.spl_terms.specs.declared.atom.Atom.{Atom}
use Rattle.reductions.specs.Rewriting.{IsIrreducibleAtom}
use Rattle.reductions.proofs.walking.find_in_atoms.Given as goal

abbrev pub invariant-loop-place : goal.invariant-loop-place
invariant-loop-place l = (l.path.items ≡ []) × ((k : ℕ) (a : Atom) → k < l.place → slice_get l.atoms k ≡ Some a → IsIrreducibleAtom l.r a)
