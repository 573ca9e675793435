-- Laws that carry proofs, and no definitions that a reader must believe: ascending lists of assumptions, and what the operations of sets keep and contain.
use Rattle.std.proofs.Common.{◌≡◌, ◌-◌, ◌≤◌, inl, inr, Bool, true, false, not, cond, ◌||◌, ◌&&◌, List, [], ◌∷◌, length, suc, filter, refl, sym, ap, ◌∙◌, subst, arith}
use Rattle.dep_sets.specs.declared.deps.Assumption.{Assumption}
use Rattle.dep_sets.specs.Assumptions.{is_same_assumption, is_before, IsBefore, IsAscending, contains_assumption, with_assumption, united, without_assumption}
use Rattle.std.proofs.lemmas.Bool.{cases_Bool, false≢true}
use Rattle.dep_sets.specs.OrderLaws.{no_first, no_second, is_before_true, is_before_false, is_same_false, before-is_before, before-else, same_equal, same-is_same, before_trans}

-- each of these is after the assumption
abbrev pub AllAfter : Assumption → List Assumption → Type 0
AllAfter a [] = Unit {0}
AllAfter a (b ∷ more) = IsBefore a b × AllAfter a more

pub after_trans : (a b : Assumption) (xs : List Assumption) → IsBefore a b → AllAfter b xs → AllAfter a xs
after_trans a b [] h k = tt
after_trans a b (c ∷ xs) h k = (before_trans a b c h k.0, after_trans a b xs h k.1)

pub ascending_after : (a : Assumption) (xs : List Assumption) → IsAscending (a ∷ xs) → AllAfter a xs
ascending_after a [] h = tt
ascending_after a (b ∷ xs) h = (h.0, after_trans a b xs h.0 (ascending_after b xs h.1))

pub ascending_tail : (a : Assumption) (xs : List Assumption) → IsAscending (a ∷ xs) → IsAscending xs
ascending_tail a [] h = tt
ascending_tail a (b ∷ xs) h = h.1

pub ascending_cons : (a : Assumption) (xs : List Assumption) → AllAfter a xs → IsAscending xs → IsAscending (a ∷ xs)
ascending_cons a [] h k = tt
ascending_cons a (b ∷ xs) h k = (h.0, k)

-- ---- one more assumption

pub with_front : (a : Assumption) (xs : List Assumption) → AllAfter a xs → with_assumption a xs ≡ a ∷ xs
with_front a [] h = refl
with_front a (b ∷ xs) h = rw (is_before_true a b h.0)

pub with_later : (a b : Assumption) (xs : List Assumption) → IsBefore b a → with_assumption a (b ∷ xs) ≡ b ∷ with_assumption a xs
with_later a b xs h = rw (is_before_false a b h, is_same_false a b h)

pub with_after : (a b : Assumption) (xs : List Assumption) → IsBefore a b → AllAfter a xs → AllAfter a (with_assumption b xs)
with_after a b [] h k = (h, tt)
with_after a b (c ∷ xs) h k =
    elim (is_before b c) as (λ t. AllAfter a (cond t (b ∷ c ∷ xs) (cond (is_same_assumption b c) (c ∷ xs) (c ∷ with_assumption b xs)))) [
      | true ↦ (h, k)
      | false ↦ elim (is_same_assumption b c) as (λ t. AllAfter a (cond t (c ∷ xs) (c ∷ with_assumption b xs))) [ true ↦ k | false ↦ (k.0, with_after a b xs h k.1) ]
    ]

with_ascending_cases : (a b : Assumption) (xs : List Assumption) (s t : Bool) → is_before a b ≡ s → is_same_assumption a b ≡ t → IsAscending (b ∷ xs) → IsAscending (with_assumption a xs) → IsAscending (cond s (a ∷ b ∷ xs) (cond t (b ∷ xs) (b ∷ with_assumption a xs)))
with_ascending_cases a b xs true t p q h k = (before-is_before a b p, h)
with_ascending_cases a b xs false true p q h k = h
with_ascending_cases a b xs false false p q h k =
    ascending_cons b (with_assumption a xs) (with_after b a xs (before-else a b p q) (ascending_after b xs h)) k

pub with_ascending : (a : Assumption) (xs : List Assumption) → IsAscending xs → IsAscending (with_assumption a xs)
with_ascending a [] h = tt
with_ascending a (b ∷ xs) h =
    with_ascending_cases a b xs _ _ refl refl h (with_ascending a xs (ascending_tail b xs h))

or_swap : (p q r : Bool) → (p || (q || r)) ≡ (q || (p || r))
or_swap true true r = refl
or_swap true false r = refl
or_swap false q r = refl

or_twice : (p r : Bool) → (p || r) ≡ (p || (p || r))
or_twice true r = refl
or_twice false r = refl

or_group : (p q r : Bool) → (p || (q || r)) ≡ ((p || q) || r)
or_group true q r = refl
or_group false q r = refl

with_contains_cases : (x a b : Assumption) (xs : List Assumption) (s t : Bool) → is_same_assumption a b ≡ t → contains_assumption (with_assumption a xs) x ≡ (is_same_assumption x a || contains_assumption xs x)
    → contains_assumption (cond s (a ∷ b ∷ xs) (cond t (b ∷ xs) (b ∷ with_assumption a xs))) x ≡ (is_same_assumption x a || contains_assumption (b ∷ xs) x)
with_contains_cases x a b xs true t q k = refl
with_contains_cases x a b xs false true q k =
    let same = same-is_same a b q in
    subst (λ z. (is_same_assumption x b || contains_assumption xs x) ≡ (is_same_assumption x z || (is_same_assumption x b || contains_assumption xs x))) (sym same) (or_twice (is_same_assumption x b) (contains_assumption xs x))
with_contains_cases x a b xs false false q k =
    ap (λ z. is_same_assumption x b || z) k ∙ or_swap (is_same_assumption x b) (is_same_assumption x a) (contains_assumption xs x)

pub with_contains : (x a : Assumption) (xs : List Assumption) → contains_assumption (with_assumption a xs) x ≡ (is_same_assumption x a || contains_assumption xs x)
with_contains x a [] = refl
with_contains x a (b ∷ xs) = with_contains_cases x a b xs (is_before a b) _ refl (with_contains x a xs)

-- ---- the union

pub united_after : (a : Assumption) (xs ys : List Assumption) → AllAfter a xs → AllAfter a ys → AllAfter a (united xs ys)
united_after a [] ys h k = k
united_after a (x ∷ xs) ys h k = with_after a x (united xs ys) h.0 (united_after a xs ys h.1 k)

pub united_ascending : (xs ys : List Assumption) → IsAscending ys → IsAscending (united xs ys)
united_ascending [] ys h = h
united_ascending (x ∷ xs) ys h = with_ascending x (united xs ys) (united_ascending xs ys h)

pub united_contains : (x : Assumption) (xs ys : List Assumption) → contains_assumption (united xs ys) x ≡ (contains_assumption xs x || contains_assumption ys x)
united_contains x [] ys = refl
united_contains x (a ∷ xs) ys =
    with_contains x a (united xs ys) ∙ ap (λ z. is_same_assumption x a || z) (united_contains x xs ys) ∙ or_group (is_same_assumption x a) (contains_assumption xs x) (contains_assumption ys x)

pub united_none : (xs : List Assumption) → IsAscending xs → united xs [] ≡ xs
united_none [] h = refl
united_none (a ∷ xs) h =
    ap (with_assumption a) (united_none xs (ascending_tail a xs h)) ∙ with_front a xs (ascending_after a xs h)

-- the front of the second list comes first where all of the first list is after it
pub united_front : (b : Assumption) (xs ys : List Assumption) → AllAfter b xs → united xs (b ∷ ys) ≡ b ∷ united xs ys
united_front b [] ys h = refl
united_front b (x ∷ xs) ys h = ap (with_assumption x) (united_front b xs ys h.1) ∙ with_later x b (united xs ys) h.0

-- the three steps of a merge
pub merge_left : (a b : Assumption) (xs ys : List Assumption) → IsAscending (a ∷ xs) → IsAscending (b ∷ ys) → is_before a b ≡ true → united (a ∷ xs) (b ∷ ys) ≡ a ∷ united xs (b ∷ ys)
merge_left a b xs ys h k p =
    let before = before-is_before a b p in
    with_front a (united xs (b ∷ ys)) (united_after a xs (b ∷ ys) (ascending_after a xs h) (before, after_trans a b ys before (ascending_after b ys k)))

pub merge_right : (a b : Assumption) (xs ys : List Assumption) → IsAscending (a ∷ xs) → is_before a b ≡ false → is_same_assumption a b ≡ false → united (a ∷ xs) (b ∷ ys) ≡ b ∷ united (a ∷ xs) ys
merge_right a b xs ys h p q =
    let after = before-else a b p q in
    united_front b (a ∷ xs) ys (after, after_trans b a xs after (ascending_after a xs h))

pub merge_both : (a b : Assumption) (xs ys : List Assumption) → IsAscending (a ∷ xs) → is_before a b ≡ false → is_same_assumption a b ≡ true → united (a ∷ xs) (b ∷ ys) ≡ b ∷ united xs ys
merge_both a b xs ys h p q =
    let after : AllAfter b xs = subst (λ z. AllAfter z xs) (same-is_same a b q) (ascending_after a xs h) in
    ap (with_assumption a) (united_front b xs ys after) ∙ rw (p, q)

-- ---- without one assumption

filter_after : (a : Assumption) (p : Assumption → Bool) (xs : List Assumption) → AllAfter a xs → AllAfter a (filter p xs)
filter_after a p [] h = tt
filter_after a p (b ∷ xs) h =
    elim (p b) as (λ t. AllAfter a (cond t (b ∷ filter p xs) (filter p xs))) [ true ↦ (h.0, filter_after a p xs h.1) | false ↦ filter_after a p xs h.1 ]

filter_ascending : (p : Assumption → Bool) (xs : List Assumption) → IsAscending xs → IsAscending (filter p xs)
filter_ascending p [] h = tt
filter_ascending p (b ∷ xs) h =
    let rest = filter_ascending p xs (ascending_tail b xs h) in
    elim (p b) as (λ t. IsAscending (cond t (b ∷ filter p xs) (filter p xs))) [
      | true ↦ ascending_cons b (filter p xs) (filter_after b p xs (ascending_after b xs h)) rest
      | false ↦ rest
    ]

pub without_ascending : (a : Assumption) (xs : List Assumption) → IsAscending xs → IsAscending (without_assumption a xs)
without_ascending a xs h = filter_ascending (λ b. not (is_same_assumption a b)) xs h

pub length-without : (a : Assumption) (xs : List Assumption) → length (without_assumption a xs) ≤ length xs
length-without a [] = omega arith
length-without a (b ∷ xs) =
    elim (is_same_assumption a b) as (λ t. length (cond (not t) (b ∷ without_assumption a xs) (without_assumption a xs)) ≤ suc (length xs)) [
      | true ↦ omega (arith, length-without a xs)
      | false ↦ omega (arith, length-without a xs)
    ]

and_or : (p q r : Bool) → (p && q) ≡ false → (p && (q || r)) ≡ (p && r)
and_or true true r h = absurd (cc h)
and_or true false r h = refl
and_or false q r h = refl

and_or_kept : (p q r : Bool) → (q ≡ true → p ≡ true) → (q || (p && r)) ≡ (p && (q || r))
and_or_kept true q r h = refl
and_or_kept false true r h = absurd (cc (h refl))
and_or_kept false false r h = refl

-- no assumption is the same as b and, at once, not the same as a, where a and b are the same
same_both : (x a b : Assumption) → is_same_assumption a b ≡ true → (not (is_same_assumption a x) && is_same_assumption x b) ≡ false
same_both x a b h = elim (cases_Bool (is_same_assumption x b)) [
  | inl t ↦ no_first (not (is_same_assumption a x)) (is_same_assumption x b) (ap not (same_equal a x (same-is_same a b h ∙ sym (same-is_same x b t))))
  | inr f ↦ no_second (not (is_same_assumption a x)) (is_same_assumption x b) f
]

same_neither : (x a b : Assumption) → is_same_assumption a b ≡ false → is_same_assumption x b ≡ true → not (is_same_assumption a x) ≡ true
same_neither x a b h k = elim (cases_Bool (is_same_assumption a x)) [
  | inl t ↦ absurd (false≢true (sym h ∙ same_equal a b (same-is_same a x t ∙ same-is_same x b k)))
  | inr f ↦ ap not f
]

without_contains_cases : (x a b : Assumption) (xs : List Assumption) (t : Bool) → is_same_assumption a b ≡ t → contains_assumption (without_assumption a xs) x ≡ (not (is_same_assumption a x) && contains_assumption xs x)
    → contains_assumption (cond (not t) (b ∷ without_assumption a xs) (without_assumption a xs)) x ≡ (not (is_same_assumption a x) && (is_same_assumption x b || contains_assumption xs x))
without_contains_cases x a b xs true q k =
    k ∙ sym (and_or (not (is_same_assumption a x)) (is_same_assumption x b) (contains_assumption xs x) (same_both x a b q))
without_contains_cases x a b xs false q k =
    ap (λ z. is_same_assumption x b || z) k
    ∙ and_or_kept (not (is_same_assumption a x)) (is_same_assumption x b) (contains_assumption xs x) (same_neither x a b q)

and_false : (p : Bool) → (p && false) ≡ false
and_false true = refl
and_false false = refl

pub without_contains : (x a : Assumption) (xs : List Assumption) → contains_assumption (without_assumption a xs) x ≡ (not (is_same_assumption a x) && contains_assumption xs x)
without_contains x a [] = sym (and_false (not (is_same_assumption a x)))
without_contains x a (b ∷ xs) = without_contains_cases x a b xs _ refl (without_contains x a xs)
