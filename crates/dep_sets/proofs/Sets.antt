-- The loop of a merge, and the last place of a path.
use Rattle.std.proofs.Common.{◌≡◌, ℕ, ◌+◌, ◌-◌, ◌<◌, ◌≤◌, ◌⊎◌, inl, inr, Bool, true, false, List, [], ◌∷◌, ◌++◌, length, take, drop, get_or, zero, suc, refl, sym, ap, ◌∙◌, subst, arith, add-one, add-zero, zero-add, drop-cons, append_assoc, append-nil, length-drop, Some, None}
use Rattle.std.proofs.lemmas.List.{take_all, drop_all}
use mir.Val.{bool_byte}
use Rattle.dep_sets.specs.declared.deps.Assumption.{Assumption}
use Rattle.dep_sets.specs.Assumptions.{is_same_assumption, is_before, IsAscending, contains_assumption, united, place_after, deepest_place}
use Rattle.dep_sets.specs.SetLaws.{ascending_tail, united_ascending, united_contains, united_none, merge_left, merge_right, merge_both, without_ascending, without_contains}

-- ---- the loop of a merge

pub drop_ascending : (i : ℕ) (xs : List Assumption) → IsAscending xs → IsAscending (drop i xs)
drop_ascending zero xs h = h
drop_ascending (suc i) [] h = tt
drop_ascending (suc i) (a ∷ xs) h = drop_ascending i xs (ascending_tail a xs h)

-- the assumption at a place, before the rest
drop_at : (i : ℕ) (xs : List Assumption) (d : Assumption) → i < length xs → drop i xs ≡ get_or xs i d ∷ drop (i + 1) xs
drop_at i xs d h = rw (add-one, drop-cons xs i d)

append_step : (done : List Assumption) (a : Assumption) (rest more all : List Assumption) → rest ≡ a ∷ more → done ++ rest ≡ all → (done ++ a ∷ []) ++ more ≡ all
append_step done a rest more all h k = append_assoc done (a ∷ []) more ∙ ap (λ z. done ++ z) (sym h) ∙ k

pub merge_step_left : (done left right : List Assumption) (i j : ℕ) (d : Assumption) → IsAscending left → IsAscending right → i < length left → j < length right → is_before (get_or left i d) (get_or right j d) ≡ true
    → done ++ united (drop i left) (drop j right) ≡ united left right → (done ++ get_or left i d ∷ []) ++ united (drop (i + 1) left) (drop j right) ≡ united left right
merge_step_left done left right i j d h k m n p s =
    let a = get_or left i d in
    let b = get_or right j d in
    let e = drop_at i left d m in
    let f = drop_at j right d n in
    let step : united (drop i left) (drop j right) ≡ a ∷ united (drop (i + 1) left) (drop j right) =
    ap (λ z. united z (drop j right)) e ∙ ap (united (a ∷ drop (i + 1) left)) f
    ∙ merge_left a b (drop (i + 1) left) (drop (j + 1) right) (subst IsAscending e (drop_ascending i left h)) (subst IsAscending f (drop_ascending j right k)) p
    ∙ ap (λ z. a ∷ united (drop (i + 1) left) z) (sym f) in
    append_step done a (united (drop i left) (drop j right)) (united (drop (i + 1) left) (drop j right)) (united left right) step s

merge_step_cases : (a b : Assumption) (left xs ys : List Assumption) (i n : ℕ) (t : Bool) → drop i left ≡ a ∷ xs → xs ≡ drop (i + 1) left → IsAscending (a ∷ xs) → is_before a b ≡ false → is_same_assumption a b ≡ t → n ≡ bool_byte t
    → united (a ∷ xs) (b ∷ ys) ≡ b ∷ united (drop (i + n) left) ys
merge_step_cases a b left xs ys i n true e f h p q r =
    merge_both a b xs ys h p q ∙ ap (λ z. b ∷ united z ys) f ∙ ap (λ m. b ∷ united (drop (i + m) left) ys) (sym r)
merge_step_cases a b left xs ys i n false e f h p q r =
    merge_right a b xs ys h p q ∙ ap (λ z. b ∷ united z ys) (sym e) ∙ ap (λ m. b ∷ united (drop m left) ys) (let s : i ≡ i + n = omega (arith, r) in s)

pub merge_step_right : (done left right : List Assumption) (i j n : ℕ) (d : Assumption) → IsAscending left → IsAscending right → i < length left → j < length right → is_before (get_or left i d) (get_or right j d) ≡ false
    → n ≡ bool_byte (is_same_assumption (get_or left i d) (get_or right j d)) → done ++ united (drop i left) (drop j right) ≡ united left right → (done ++ get_or right j d ∷ []) ++ united (drop (i + n) left) (drop (j + 1) right) ≡ united left right
merge_step_right done left right i j n d h k m o p r s =
    let a = get_or left i d in
    let b = get_or right j d in
    let e = drop_at i left d m in
    let f = drop_at j right d o in
    let step : united (drop i left) (drop j right) ≡ b ∷ united (drop (i + n) left) (drop (j + 1) right) =
    ap (λ z. united z (drop j right)) e ∙ ap (united (a ∷ drop (i + 1) left)) f
    ∙ merge_step_cases a b left (drop (i + 1) left) (drop (j + 1) right) i n _ e refl (subst IsAscending e (drop_ascending i left h)) p refl r in
    append_step done b (united (drop i left) (drop j right)) (united (drop (i + n) left) (drop (j + 1) right)) (united left right) step s

-- one of the lists is used up, so the rest of the other follows
pub merge_end : (done xs ys all : List Assumption) → IsAscending xs → (xs ≡ []) ⊎ (ys ≡ []) → done ++ united xs ys ≡ all → (done ++ xs) ++ ys ≡ all
merge_end done [] ys all h e s = ap (λ z. z ++ ys) (append-nil done) ∙ s
merge_end done (x ∷ xs) [] all h e s = append-nil (done ++ x ∷ xs) ∙ ap (λ z. done ++ z) (sym (united_none (x ∷ xs) h)) ∙ s
merge_end done (x ∷ xs) (y ∷ ys) all h (inl e) s = absurd (cc e)
merge_end done (x ∷ xs) (y ∷ ys) all h (inr e) s = absurd (cc e)

-- what is left of both lists follows, of which one is used up
pub merge_rest : (done left right all : List Assumption) (i j : ℕ) → IsAscending left → (length left ≤ i) ⊎ (length right ≤ j) → done ++ united (drop i left) (drop j right) ≡ all
    → (done ++ take (length left - i) (drop i left)) ++ take (length right - j) (drop j right) ≡ all
merge_rest done left right all i j h e s =
    let used : (drop i left ≡ []) ⊎ (drop j right ≡ []) = elim e [ inl k ↦ inl (drop_all i left k) | inr k ↦ inr (drop_all j right k) ] in
    let p = take_all (length left - i) (drop i left) (omega (arith, length-drop i left)) in
    let q = take_all (length right - j) (drop j right) (omega (arith, length-drop j right)) in
    rw (p, q) (merge_end done (drop i left) (drop j right) all (drop_ascending i left h) used s)

-- the place in the first list moves by one at most
pub place_within : (i n size : ℕ) (t : Bool) → i < size → n ≡ bool_byte t → i + n ≤ size
place_within i n size true h k = omega (arith, k)
place_within i n size false h k = omega (arith, k)

-- ---- the last place of a path

deepest_place_drop : (deps : List Assumption) (i k : ℕ) (path : List Assumption) → deepest_place deps (drop i path) ≡ Some k → deepest_place deps path ≡ Some (k + i)
deepest_place_drop deps zero k path h = h ∙ ap Some (sym (add-zero k))
deepest_place_drop deps (suc i) k [] h = absurd (cc h)
deepest_place_drop deps (suc i) k (a ∷ path) h =
    let more : suc (k + i) ≡ k + suc i = omega arith in
    ap (place_after (contains_assumption deps a)) (deepest_place_drop deps i k path h) ∙ ap Some more

pub deepest_place_found : (deps path : List Assumption) (i : ℕ) (d : Assumption) → i < length path → contains_assumption deps (get_or path i d) ≡ true → deepest_place deps (drop (i + 1) path) ≡ None → deepest_place deps path ≡ Some i
deepest_place_found deps path i d h k m =
    let first : deepest_place deps (drop i path) ≡ Some 0 = ap (deepest_place deps) (drop_at i path d h) ∙ rw (k, m) in
    deepest_place_drop deps i 0 path first ∙ ap Some (zero-add i)

pub ruleset set_laws = (united_ascending, united_contains, without_ascending, without_contains)
