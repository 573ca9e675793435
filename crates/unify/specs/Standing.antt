-- Bindings that stand for the unifier of two terms, which is written out only where it is asked for.
use Rattle.std.specs.Prelude.{◌≡◌, ℕ, List, Some}
use Rattle.spl_terms.specs.declared.term.Term.{Term}
use Rattle.spl_truth.specs.Unifiers.{entries_below, unifier}
use Rattle.unify.specs.Bindings.{substitution, IsTriangular}

-- the bindings are of the variables below vars and go from each to later ones; applied to one another, they are the
-- entries of the unifier of a and b
pub record StandForUnifier (vars : ℕ) (a b : Term) (bindings : ℕ × List (ℕ × Term)) : Type 0 where
  pub as_many : bindings.0 ≡ vars
  pub triangular : IsTriangular bindings.0 bindings.1
  pub exact : unifier vars a b ≡ Some (entries_below vars (substitution bindings.1))
