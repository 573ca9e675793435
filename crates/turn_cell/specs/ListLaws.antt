-- Laws with their proofs, not definitions that a reader must believe: numbers in two lists behind each other.
use Rattle.std.proofs.Common.{◌⊎◌, ℕ, List, [], ◌∷◌, ◌++◌, ⊎_elim, inl, inr}
use Rattle.turn_cell.specs.Lists.{Among}

pub among-append : (n : ℕ) (xs ys : List ℕ) → Among n (xs ++ ys) → Among n xs ⊎ Among n ys
among-append n [] ys a = inr a
among-append n (x ∷ xs) ys (inl e) = inl (inl e)
among-append n (x ∷ xs) ys (inr a) = ⊎_elim (λ l. inl (inr l)) (λ r. inr r) (among-append n xs ys a)

pub among_left : (n : ℕ) (xs ys : List ℕ) → Among n xs → Among n (xs ++ ys)
among_left n [] ys a = absurd a
among_left n (x ∷ xs) ys (inl e) = inl e
among_left n (x ∷ xs) ys (inr a) = inr (among_left n xs ys a)

pub among_right : (n : ℕ) (xs ys : List ℕ) → Among n ys → Among n (xs ++ ys)
among_right n [] ys a = a
among_right n (x ∷ xs) ys a = inr (among_right n xs ys a)
