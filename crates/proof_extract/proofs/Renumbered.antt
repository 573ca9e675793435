-- Sets of assumptions, renumbered by a map that keeps the order of some numbers.
use Rattle.std.proofs.Common.{◌≡◌, ℕ, ◌<◌, inl, inr, Bool, true, false, not, cond, ◌||◌, List, [], ◌∷◌, drop, Some, zero, suc, refl, sym, ap, ◌∙◌, subst, arith}
use Rattle.std.proofs.lemmas.Bool.Decides.{nat_tests}
use Rattle.std.specs.List.{AllByRecursion, slice_get}
use Rattle.dep_sets.specs.declared.deps.Assumption.{Assumption}
use Rattle.dep_sets.specs.Assumptions.{is_same_assumption, is_before, IsBefore, IsAscending, contains_assumption, with_assumption, united, without_assumption}
use Rattle.dep_sets.specs.OrderLaws.{is_before_true, is_before_false, is_same_false, is_same_before, before-is_before, before-else, same-is_same}
use Rattle.dep_sets.specs.SetLaws.{ascending_tail, ascending_after, with_front}
use Rattle.proof_extract.specs.Extracting.{renumbered_assumption, renumbered_deps}

-- the map keeps the order of the numbers of which P holds
abbrev pub KeepsOrder : (ℕ → Type 0) → (ℕ → ℕ) → Type 0
KeepsOrder P f = (m n : ℕ) → P m → P n → m < n → f m < f n

-- P holds of the clause that was split for each of these assumptions
abbrev pub AreOver : (ℕ → Type 0) → List Assumption → Type 0
AreOver P deps = AllByRecursion (λ a. P a.split) deps

-- ---- what is in a set

pub over_with : (P : ℕ → Type 0) (a : Assumption) (xs : List Assumption) → P a.split → AreOver P xs → AreOver P (with_assumption a xs)
over_with P a [] h k = (h, tt)
over_with P a (b ∷ xs) h k =
    elim (is_before a b) as (λ t. AreOver P (cond t (a ∷ b ∷ xs) (cond (is_same_assumption a b) (b ∷ xs) (b ∷ with_assumption a xs)))) [
      | true ↦ (h, k)
      | false ↦ elim (is_same_assumption a b) as (λ t. AreOver P (cond t (b ∷ xs) (b ∷ with_assumption a xs))) [ true ↦ k | false ↦ (k.0, over_with P a xs h k.1) ]
    ]

pub over_united : (P : ℕ → Type 0) (xs ys : List Assumption) → AreOver P xs → AreOver P ys → AreOver P (united xs ys)
over_united P [] ys h k = k
over_united P (a ∷ xs) ys h k = over_with P a (united xs ys) h.0 (over_united P xs ys h.1 k)

pub over_without : (P : ℕ → Type 0) (a : Assumption) (xs : List Assumption) → AreOver P xs → AreOver P (without_assumption a xs)
over_without P a [] h = tt
over_without P a (b ∷ xs) h =
    elim (is_same_assumption a b) as (λ t. AreOver P (cond (not t) (b ∷ without_assumption a xs) (without_assumption a xs))) [
      | true ↦ over_without P a xs h.1
      | false ↦ (h.0, over_without P a xs h.1)
    ]

-- ---- renumbered

module _ (P : ℕ → Type 0) (f : ℕ → ℕ) (keeps : KeepsOrder P f) where
  renumbered_before : (a b : Assumption) → P a.split → P b.split → IsBefore a b → IsBefore (renumbered_assumption f a) (renumbered_assumption f b)
  renumbered_before a b p q (inl h) = inl (keeps a.split b.split p q h)
  renumbered_before a b p q (inr h) = inr (ap f h.0, h.1)

  -- both tests say the same of renumbered assumptions
  record SameTests (a b : Assumption) : Type 0 where
    before : is_before (renumbered_assumption f a) (renumbered_assumption f b) ≡ is_before a b
    same : is_same_assumption (renumbered_assumption f a) (renumbered_assumption f b) ≡ is_same_assumption a b

  not_before : (a b : Assumption) → a ≡ b → is_before a b ≡ false
  not_before a b e = subst (λ z. is_before a z ≡ false) e (grind (arith, nat_tests))

  is_same : (a b : Assumption) → a ≡ b → is_same_assumption a b ≡ true
  is_same a b e = subst (λ z. is_same_assumption a z ≡ true) e (grind (arith, nat_tests))

  tests_at : (a b : Assumption) → P a.split → P b.split → (s t : Bool) → is_before a b ≡ s → is_same_assumption a b ≡ t → SameTests a b
  tests_at a b p q true t u v =
      let h = before-is_before a b u in
      let k = renumbered_before a b p q h in
      record { before = is_before_true _ _ k ∙ sym u; same = is_same_before _ _ k ∙ sym (is_same_before a b h) }
  tests_at a b p q false true u v =
      let h = same-is_same a b v in
      let k = ap (renumbered_assumption f) h in
      record { before = not_before _ _ k ∙ sym u; same = is_same _ _ k ∙ sym v }
  tests_at a b p q false false u v =
      let h = before-else a b u v in
      let k = renumbered_before b a q p h in
      record { before = is_before_false _ _ k ∙ sym u; same = is_same_false _ _ k ∙ sym v }

  tests : (a b : Assumption) → P a.split → P b.split → SameTests a b
  tests a b p q = tests_at a b p q (is_before a b) (is_same_assumption a b) refl refl

  pub renumbered_ascending : (xs : List Assumption) → AreOver P xs → IsAscending xs → IsAscending (renumbered_deps f xs)
  renumbered_ascending [] h k = tt
  renumbered_ascending (a ∷ []) h k = tt
  renumbered_ascending (a ∷ b ∷ xs) h k = (renumbered_before a b h.0 h.1.0 k.0, renumbered_ascending (b ∷ xs) h.1 k.1)

  with_cases : (a b : Assumption) (xs : List Assumption) (s t : Bool) → renumbered_deps f (cond s (a ∷ b ∷ xs) (cond t (b ∷ xs) (b ∷ with_assumption a xs)))
      ≡ cond s (renumbered_assumption f a ∷ renumbered_assumption f b ∷ renumbered_deps f xs) (cond t (renumbered_assumption f b ∷ renumbered_deps f xs) (renumbered_assumption f b ∷ renumbered_deps f (with_assumption a xs)))
  with_cases a b xs true t = refl
  with_cases a b xs false true = refl
  with_cases a b xs false false = refl

  renumbered_with : (a : Assumption) (xs : List Assumption) → P a.split → AreOver P xs → renumbered_deps f (with_assumption a xs) ≡ with_assumption (renumbered_assumption f a) (renumbered_deps f xs)
  renumbered_with a [] h k = refl
  renumbered_with a (b ∷ xs) h k =
      let e = tests a b h k.0 in
      rw (e.before, e.same, ← renumbered_with a xs h k.1) (with_cases a b xs (is_before a b) (is_same_assumption a b))

  pub renumbered_united : (xs ys : List Assumption) → AreOver P xs → AreOver P ys → renumbered_deps f (united xs ys) ≡ united (renumbered_deps f xs) (renumbered_deps f ys)
  renumbered_united [] ys h k = refl
  renumbered_united (a ∷ xs) ys h k =
      renumbered_with a (united xs ys) h.0 (over_united P xs ys h.1 k) ∙ ap (with_assumption (renumbered_assumption f a)) (renumbered_united xs ys h.1 k)

  without_cases : (b : Assumption) (xs ys : List Assumption) (t : Bool) → renumbered_deps f xs ≡ ys → renumbered_deps f (cond (not t) (b ∷ xs) xs) ≡ cond (not t) (renumbered_assumption f b ∷ ys) ys
  without_cases b xs ys true e = e
  without_cases b xs ys false e = ap (λ z. renumbered_assumption f b ∷ z) e

  pub renumbered_without : (a : Assumption) (xs : List Assumption) → P a.split → AreOver P xs → renumbered_deps f (without_assumption a xs) ≡ without_assumption (renumbered_assumption f a) (renumbered_deps f xs)
  renumbered_without a [] h k = refl
  renumbered_without a (b ∷ xs) h k =
      without_cases b (without_assumption a xs) (without_assumption (renumbered_assumption f a) (renumbered_deps f xs)) (is_same_assumption a b) (renumbered_without a xs h k.1)
      ∙ ap (λ t. cond (not t) (renumbered_assumption f b ∷ without_assumption (renumbered_assumption f a) (renumbered_deps f xs)) (without_assumption (renumbered_assumption f a) (renumbered_deps f xs))) (sym (tests a b h k.0).same)

  pub renumbered_contains : (a : Assumption) (xs : List Assumption) → P a.split → AreOver P xs → contains_assumption (renumbered_deps f xs) (renumbered_assumption f a) ≡ contains_assumption xs a
  renumbered_contains a [] h k = refl
  renumbered_contains a (b ∷ xs) h k =
      ap (λ t. t || contains_assumption (renumbered_deps f xs) (renumbered_assumption f a)) (tests a b h k.0).same
      ∙ ap (λ z. is_same_assumption a b || z) (renumbered_contains a xs h k.1)

  -- the renumbered assumptions from place j on, one more than those from the next place on
  pub renumbered_from : (xs : List Assumption) (j k : ℕ) (a : Assumption) → AreOver P xs → IsAscending xs → slice_get xs j ≡ Some a → k ≡ suc j → united (renumbered_assumption f a ∷ []) (renumbered_deps f (drop k xs)) ≡ renumbered_deps f (drop j xs)
  renumbered_from xs j k a h up e n = subst (λ i. united (renumbered_assumption f a ∷ []) (renumbered_deps f (drop i xs)) ≡ renumbered_deps f (drop j xs)) (sym n) (go xs j h up e)
    where
      go : (xs : List Assumption) (j : ℕ) → AreOver P xs → IsAscending xs → slice_get xs j ≡ Some a → united (renumbered_assumption f a ∷ []) (renumbered_deps f (drop (suc j) xs)) ≡ renumbered_deps f (drop j xs)
      go [] j h up e = absurd (cc)
      go (b ∷ xs) zero h up e =
          let same : b ≡ a = cc in
          subst (λ z. with_assumption (renumbered_assumption f z) (renumbered_deps f xs) ≡ renumbered_deps f (b ∷ xs)) same (with_front (renumbered_assumption f b) (renumbered_deps f xs) (ascending_after (renumbered_assumption f b) (renumbered_deps f xs) (renumbered_ascending (b ∷ xs) h up)))
      go (b ∷ xs) (suc j) h up e = go xs j h.1 (ascending_tail b xs up) e
