-- Laws that carry proofs, and no definitions that a reader must believe: lines by their numbers.
use Rattle.std.proofs.Common.{◌≡◌, ◌∙◌, ◌⊎◌, inl, inr, ℕ, zero, suc, ◌<◌, ◌≤◌, List, [], ◌∷◌, ◌++◌, length, Some, refl, sym, ap, arith}
use Rattle.std.proofs.lemmas.Option.{slice_get_within}
use Rattle.std.specs.List.{slice_get}
use Rattle.proof_steps.specs.Steps.{numbered}

pub numbered_some : {A : Type 0} (xs : List A) (i : ℕ) (x : A) → numbered xs i ≡ Some x → 1 ≤ i
numbered_some xs zero x h = cc
numbered_some xs (suc k) x h = omega arith

pub numbered_within : {A : Type 0} (xs : List A) (i : ℕ) (x : A) → numbered xs i ≡ Some x → i ≤ length xs
numbered_within xs zero x h = omega arith
numbered_within xs (suc k) x h = let l = slice_get_within xs k x h in omega arith

-- where two lists agree up to a length, so do their numbers
pub numbered_same : {A : Type 0} (n : ℕ) (xs ys : List A) → ((k : ℕ) → k < n → slice_get ys k ≡ slice_get xs k) → (i : ℕ) → i ≤ n → numbered ys i ≡ numbered xs i
numbered_same n xs ys same zero within = refl
numbered_same n xs ys same (suc k) within = same k (omega arith)

pub numbered_there : {A : Type 0} (xs : List A) (i : ℕ) → 1 ≤ i → i ≤ length xs → (x : A) × (numbered xs i ≡ Some x)
numbered_there xs zero some there = absurd (omega arith)
numbered_there [] (suc k) some there = absurd (omega arith)
numbered_there (x ∷ xs) (suc zero) some there = (x, refl)
numbered_there (x ∷ xs) (suc (suc k)) some there = numbered_there xs (suc k) (omega arith) (omega arith)

pub numbered_once : {A : Type 0} (xs : List A) (n i : ℕ) (x y : A) → numbered xs n ≡ Some x → numbered xs i ≡ Some y → i ≡ n → y ≡ x
numbered_once xs n i x y found at e = let q : Some y ≡ Some x = sym at ∙ (ap (numbered xs) e ∙ found) in cc

pub get_last : {A : Type 0} (xs : List A) (y : A) (k : ℕ) (z : A) → slice_get (xs ++ y ∷ []) k ≡ Some z → (slice_get xs k ≡ Some z) ⊎ ((k ≡ length xs) × (y ≡ z))
get_last [] y zero z e = let h : y ≡ z = cc in inr (refl, h)
get_last [] y (suc k) z e = absurd (cc)
get_last (x ∷ xs) y zero z e = inl e
get_last (x ∷ xs) y (suc k) z e = elim (get_last xs y k z e) [ inl h ↦ inl h | inr h ↦ inr (ap suc h.0, h.1) ]
