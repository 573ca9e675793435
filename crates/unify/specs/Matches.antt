-- Matching that goes on from bindings so far.
use Rattle.std.specs.Prelude.{◌≡◌, ℕ, Bool, true, false, List, ◌++◌, Some}
use Rattle.spl_terms.specs.declared.term.Term.{Term}
use Rattle.unify.specs.Bindings.{bound_to}

-- g has the terms that were bound
abbrev pub Agrees : (ℕ → Term) → List (ℕ × Term) → Type 0
Agrees g made = (v : ℕ) (t : Term) → bound_to made v ≡ Some t → g v ≡ t

-- what agrees with the new bindings is what agrees with the old ones and does what is asked; only variables that are
-- inside were bound
pub record IsFound (asked : (ℕ → Term) → Type 0) (inside : ℕ → Bool) (old new : List (ℕ × Term)) : Type 0 where
  pub onward : (g : ℕ → Term) → Agrees g old → asked g → Agrees g new
  pub old_kept : (g : ℕ → Term) → Agrees g new → Agrees g old
  pub done : (g : ℕ → Term) → Agrees g new → asked g
  pub others : (v : ℕ) → inside v ≡ false → bound_to new v ≡ bound_to old v

-- on true, the new bindings are what was asked for; on false, nothing that agrees with the old ones does what is asked
abbrev pub FoundOrNot : (asked : (ℕ → Term) → Type 0) → (inside : ℕ → Bool) → (old new : List (ℕ × Term)) → Bool → Type 0
FoundOrNot asked inside old new true = IsFound asked inside old new
FoundOrNot asked inside old new false = (g : ℕ → Term) → Agrees g old → asked g → ⊥

-- more bindings were made, for as many variables
pub record IsExtended (old new : ℕ × List (ℕ × Term)) : Type 0 where
  pub as_many : new.0 ≡ old.0
  pub more : List (ℕ × Term)
  pub made : new.1 ≡ more ++ old.1
