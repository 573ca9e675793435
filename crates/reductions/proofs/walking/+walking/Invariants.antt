use Rattle.std.proofs.Common.{◌≡◌, ℕ, ◌<◌, Some}
use Rattle.std.specs.Prelude.{slice_get}
use Rattle.spl_terms.specs.declared.term.Term.{Term}
use Rattle.reductions.specs.Rewriting.{IsIrreducible}
use Rattle.reductions.proofs.walking.+walking.Given as goal

abbrev pub invariant-find_in_arguments-loop-k : goal.invariant-find_in_arguments-loop-k
invariant-find_in_arguments-loop-k l = (l.path.items ≡ l.initial.path.items) × ((i : ℕ) (t : Term) → i < l.k → slice_get l.terms i ≡ Some t → IsIrreducible l.r t)
