-- Matching: making one term an instance of another.
use Rattle.std.specs.Prelude.{◌≡◌, ℕ, false, List, length}
use Rattle.spl_terms.specs.declared.term.Term.{Term, Var}
use Rattle.spl_terms.specs.Terms.{replace}
use Rattle.spl_truth.specs.Truth.{entry}
use Rattle.spl_truth.specs.Unifiers.{occurs}

-- the entries make the target of the pattern, and an entry of a variable that doesn't occur in it is the variable itself
pub record IsMatcher (vars : ℕ) (pattern target : Term) (entries : List Term) : Type 0 where
  pub as_many : length entries ≡ vars
  pub makes : replace (entry entries) pattern ≡ target
  pub others : (v : ℕ) → occurs v pattern ≡ false → entry entries v ≡ Var v

-- no instance of the pattern is the target
abbrev pub HasNoMatcher : Term → Term → Type 0
HasNoMatcher pattern target = (g : ℕ → Term) → replace g pattern ≡ target → ⊥
