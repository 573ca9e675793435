-- Sets of assumptions that are compared place by place.
use Rattle.std.proofs.Common.{◌≡◌, ◌∙◌, ℕ, zero, suc, ◌+◌, List, [], ◌∷◌, ◌++◌, take, Some, sym, ap, add-one}
use Rattle.std.specs.List.{slice_get}
use Rattle.dep_sets.specs.declared.deps.Assumption.{Assumption}

take_next : (xs : List Assumption) (n : ℕ) (x : Assumption) → slice_get xs n ≡ Some x → take (suc n) xs ≡ take n xs ++ x ∷ []
take_next [] n x e = absurd (cc)
take_next (y ∷ xs) zero x e = let h : y ≡ x = cc in ap (λ z. z ∷ []) h
take_next (y ∷ xs) (suc n) x e = ap (λ l. y ∷ l) (take_next xs n x e)

pub next_same : (xs ys : List Assumption) (n : ℕ) (x y : Assumption) → take n xs ≡ take n ys → slice_get xs n ≡ Some x → slice_get ys n ≡ Some y → x ≡ y → take (n + 1) xs ≡ take (n + 1) ys
next_same xs ys n x y before at_x at_y same = rw add-one (take_next xs n x at_x ∙ (λ k. before k ++ same k ∷ []) ∙ sym (take_next ys n y at_y))
