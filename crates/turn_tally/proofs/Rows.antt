-- A row of seats, without the last and with it.
use Rattle.std.proofs.Common.{◌≡◌, ℕ, ◌+◌, List, [], ◌∷◌, ◌++◌, length, refl, sym, subst, inl, arith}
use Rattle.std.specs.Prelude.{Some, slice_get}
use mathlib.Core.Logic.{dite}
use native.Mathlib.Decide.{ℕ_discrete}
use Rattle.turn_cell.specs.Lists.{Among, HasAllSeats}
use Rattle.turn_cell.specs.ListLaws.{among_left, among_right}

module _ {S : Type 0} where
  get_last : (xs : List S) (a : S) → slice_get (xs ++ a ∷ []) (length xs) ≡ Some a
  get_last [] a = refl
  get_last (x ∷ xs) a = get_last xs a

  -- the last of a row, of which something is known at each place
  pub last_of : (all xs : List S) (a : S) (n : ℕ) (P : ℕ → S → Type 0) → all ≡ xs ++ a ∷ [] → n ≡ length xs → ((k : ℕ) (s : S) → slice_get all k ≡ Some s → P k s) → P n a
  last_of all xs a n P is len h = subst (λ k. P k a) (sym len) (h (length xs) a (subst (λ l. slice_get l (length xs) ≡ Some a) (sym is) (get_last xs a)))

-- one seat more
pub all_more : (all m : ℕ) (xs ys zs : List ℕ) → all ≡ m + 1 → zs ≡ xs ++ ys → HasAllSeats m xs → ys ≡ (m + 1) ∷ [] → HasAllSeats all zs
all_more all m xs ys zs more is h one n low high = subst (Among n) (sym is) (dite (ℕ_discrete n (m + 1))
    (λ e. among_right n xs ys (subst (Among n) (sym one) (inl e)))
    (λ e. among_left n xs ys (h n low (omega arith))))
