-- Laws with their proofs, not definitions that a reader must believe: what stands in a list.
use Rattle.std.proofs.Common.{◌≡◌, ◌⊎◌, inl, inr, zero, suc, List, [], ◌∷◌, ◌++◌, map, refl}
use Rattle.case_view.specs.Views.{IsIn}

pub in_either : {A : Type 0} (xs ys : List A) (x : A) → IsIn (xs ++ ys) x → IsIn xs x ⊎ IsIn ys x
in_either [] ys x h = inr h
in_either (z ∷ zs) ys x (zero, at) = inl (0, at)
in_either (z ∷ zs) ys x (suc k, at) = elim (in_either zs ys x (k, at)) [ inl h ↦ inl (suc h.0, h.1) | inr h ↦ inr h ]

pub in_one : {A : Type 0} (y x : A) → IsIn (y ∷ []) x → y ≡ x
in_one y x (zero, at) = let q : y ≡ x = cc in q
in_one y x (suc k, at) = absurd (cc)

pub in_none : {A : Type 0} (x : A) → IsIn [] x → ⊥
in_none x (k, at) = absurd (cc)

pub in_mapped : {A B : Type 0} (f : A → B) (xs : List A) (y : B) → IsIn (map f xs) y → (x : A) × IsIn xs x × (f x ≡ y)
in_mapped f [] y (k, at) = absurd (cc)
in_mapped f (x ∷ xs) y (zero, at) = let same : f x ≡ y = cc in (x, (0, refl), same)
in_mapped f (x ∷ xs) y (suc k, at) = let r = in_mapped f xs y (k, at) in (r.0, (suc r.1.0, r.1.1), r.2)
