-- Laws with their proofs, not definitions that a reader must believe: what holds of all items at the first places.
use Rattle.std.specs.Prelude.{Contains}
use Rattle.std.specs.List.{slice_get}
use Rattle.std.proofs.Common.{◌≡◌, ◌∙◌, ℕ, zero, suc, ◌+◌, ◌<◌, ◌≤◌, inl, inr, List, [], ◌∷◌, length, Some, sym, ap, arith}
use Rattle.std.proofs.lemmas.Bool.{cases_lt}

pub contains_at : (xs : List ℕ) (n : ℕ) → (c : Contains xs n) → slice_get xs c.0 ≡ Some n
contains_at [] n c = absurd (omega (arith, c.1))
contains_at (x ∷ xs) n (zero, low, is) = ap Some is
contains_at (x ∷ xs) n (suc k, low, is) = contains_at xs n (k, omega (arith, low), is)

-- of the items at the first n of these places
abbrev pub AtFirst : {X : Type 0} → (X → Type 0) → List ℕ → List X → ℕ → Type 0
AtFirst {X} P places xs n = (i p : ℕ) (x : X) → i < n → slice_get places i ≡ Some p → slice_get xs p ≡ Some x → P x

pub first_more : {X : Type 0} (P : X → Type 0) (places : List ℕ) (xs : List X) (n p : ℕ) → slice_get places n ≡ Some p → ((x : X) → slice_get xs p ≡ Some x → P x) → AtFirst P places xs n → AtFirst P places xs (n + 1)
first_more P places xs n p here now h i q x low at found = elim (cases_lt i n) [
  | inl less ↦ h i q x less at found
  | inr more ↦
      let same : n ≡ i = omega (arith, low, more) in
      let e : Some p ≡ Some q = sym here ∙ (ap (slice_get places) same ∙ at) in
      let z : p ≡ q = cc in
      now x (ap (slice_get xs) z ∙ found)
]

pub first_all : {X : Type 0} (P : X → Type 0) (places : List ℕ) (xs : List X) (n : ℕ) → length places ≤ n → AtFirst P places xs n → (p : ℕ) (x : X) → Contains places p → slice_get xs p ≡ Some x → P x
first_all P places xs n long h p x c found = h c.0 p x (omega (arith, c.1, long)) (contains_at places p c) found
