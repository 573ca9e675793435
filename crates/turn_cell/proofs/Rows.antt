-- The row of seats that a new cell has.
use Rattle.std.proofs.Common.{◌≡◌, ⊎_elim, ◌⊎◌, ℕ, zero, suc, ◌+◌, ◌<◌, List, [], ◌∷◌, ◌++◌, length, get_or, set, refl, sym, ap, ◌∙◌, subst, inl, inr, arith, add-one}
use Rattle.std.specs.Prelude.{Option, Some, None, slice_get}
use Rattle.turn_cell.specs.Seats.{Cell, SeatSeen, new_seat}
use Rattle.turn_cell.specs.Rule.{Row}

abbrev option_or : {A : Type 0} → A → Option A → A
option_or d None = d
option_or d (Some x) = x

module _ {S : Type 0} where
  some_is : (a s : S) → Some a ≡ Some s → a ≡ s
  some_is a s e = ap (option_or a) e

  get_snoc : (xs : List S) (a s : S) (k : ℕ) → slice_get (xs ++ a ∷ []) k ≡ Some s → (slice_get xs k ≡ Some s) ⊎ ((k ≡ length xs) × (a ≡ s))
  get_snoc [] a s zero e = inr (refl, some_is a s e)
  get_snoc [] a s (suc k) e = absurd (cc)
  get_snoc (x ∷ xs) a s zero e = inl e
  get_snoc (x ∷ xs) a s (suc k) e = ⊎_elim (λ t. inl t) (λ t. inr (ap suc t.0, t.1)) (get_snoc xs a s k e)

  pub get_first : (xs : List S) (d : S) → 0 < length xs → d ≡ get_or xs 0 d → slice_get xs 0 ≡ Some d
  get_first [] d l e = absurd (omega arith)
  get_first (x ∷ xs) d l e = ap Some (sym e)

  pub get_only : (xs ys : List S) (a s : S) → xs ≡ ys ++ a ∷ [] → ys ≡ [] → slice_get xs 0 ≡ Some s → a ≡ s
  get_only xs ys a s e none f = some_is a s (subst (λ l. slice_get l 0 ≡ Some s) (e ∙ ap (λ l. l ++ a ∷ []) none) f)

  pub rows_more : (P : ℕ → S → Type 0) (xs : List S) (a b : S) → 0 < length xs → P 0 a → P (length xs) b → ((k : ℕ) (s : S) → slice_get xs (suc k) ≡ Some s → P (suc k) s)
      → (k : ℕ) (s : S) → slice_get (set xs 0 a ++ b ∷ []) k ≡ Some s → P k s
  rows_more P [] a b l pa pb others k s e = absurd (omega arith)
  rows_more P (x ∷ xs) a b l pa pb others zero s e = subst (P 0) (some_is a s e) pa
  rows_more P (x ∷ xs) a b l pa pb others (suc k) s e = ⊎_elim (λ t. others k s t)
      (λ (t : (k ≡ length xs) × (b ≡ s)). subst (λ (y : ℕ × S). P (suc y.0) y.1) (λ i. (sym t.0 i, t.1 i)) pb) (get_snoc xs b s k e)

module _ {E G : Type 0} where
  pub row_later : (here : Cell) (g : G) (n m k : ℕ) (s : SeatSeen E G) → 0 < k → s ≡ new_seat here (k + 1) g → Row here g n m k s
  row_later here g n m zero s l e = absurd (omega arith)
  row_later here g n m (suc k) s l e = e ∙ ap (λ j. new_seat here j g) (add-one (suc k))

  -- where every seat is made
  pub row_made : (here : Cell) (g : G) (n k : ℕ) (s : SeatSeen E G) → Row here g n 0 k s → s ≡ new_seat here (k + 1) g
  row_made here g n zero s r = r
  row_made here g n (suc k) s r = r ∙ ap (λ j. new_seat here j g) (sym (add-one (suc k)))
