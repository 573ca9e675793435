-- Laws with their proofs, not definitions that a reader must believe: lists whose elements are changed in place, one after another.
use Rattle.std.proofs.Common.{◌≡◌, ℕ, zero, suc, ◌+◌, ◌<◌, List, [], ◌∷◌, ◌++◌, length, map, take, drop, set, get_or, add-one, refl, sym, ap, ◌∙◌, arith}

changed_one_more : {A : Type 0} (f : A → A) (old : List A) (i : ℕ) (d : A) → i < length old → set (map f (take i old) ++ drop i old) i (f (get_or (map f (take i old) ++ drop i old) i d)) ≡ map f (take (suc i) old) ++ drop (suc i) old
changed_one_more f [] i d h = absurd (omega arith)
changed_one_more f (y ∷ ys) zero d h = refl
changed_one_more f (y ∷ ys) (suc i) d h = ap (λ l. f y ∷ l) (changed_one_more f ys i d (omega arith))

-- one more item is changed, where the first ones were
pub changed_in_place : {A : Type 0} (f : A → A) (old now : List A) (i : ℕ) (d y : A) → i < length old → now ≡ map f (take i old) ++ drop i old → y ≡ f (get_or now i d) → set now i y ≡ map f (take (i + 1) old) ++ drop (i + 1) old
changed_in_place {A = A} f old now i d y h e p =
    ap (set now i) p
    ∙ ap (λ (l : List A). set l i (f (get_or l i d))) e
    ∙ changed_one_more f old i d h
    ∙ ap (λ (j : ℕ). map f (take j old) ++ drop j old) (sym (add-one i))
