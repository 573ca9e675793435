-- Lists that are changed in place.
use Rattle.std.proofs.Common.{◌≡◌, ◌⊎◌, inl, inr, ℕ, zero, suc, ◌+◌, ◌<◌, ◌≤◌, Bool, true, false, if◌then◌else◌, List, [], ◌∷◌, ◌++◌, fold, length, map, take, drop, set, get_or, add-one, IsSomeAnd, Some, arith, refl, sym, ap, subst, ◌∙◌}
use Rattle.std.specs.List.{swap, slice_get, list_any}
use Rattle.std.proofs.lemmas.List.{take-set-le, take_more_set, drop-set-lt, length-set}
use Rattle.std.proofs.lemmas.List.Edits.{swap_is}
use Rattle.spl_terms.specs.declared.atom.Atom.{Atom}
use Rattle.spl_terms.specs.ListLaws.{get-there}
use Rattle.spl_terms.specs.Clauses.{is_same, added}

drop-there : {A : Type 0} (xs : List A) (i : ℕ) (x : A) → slice_get xs i ≡ Some x → drop i xs ≡ x ∷ drop (suc i) xs
drop-there [] i x e = absurd (cc)
drop-there (y ∷ ys) zero x e = let h : y ≡ x = cc in ap (λ z. z ∷ ys) h
drop-there (y ∷ ys) (suc i) x e = drop-there ys i x e

-- the item at place i comes to place k, behind which nothing was kept
module _ {A : Type 0} (xs : List A) (k i : ℕ) (x : A) where
  read : (ys : List A) (j : ℕ) → slice_get ys j ≡ Some x → get_or ys j x ≡ x
  read [] j e = refl
  read (y ∷ ys) zero e = cc
  read (y ∷ ys) (suc j) e = read ys j e

  equal_or_less : k ≤ i → (k ≡ i) ⊎ (k < i)
  equal_or_less h = grind arith

  take-swap : k ≤ i → i < length xs → slice_get xs i ≡ Some x → take (k + 1) (swap xs k i) ≡ take k xs ++ x ∷ []
  take-swap h l e =
      let moved : swap xs k i ≡ set (set xs k x) i (get_or xs k x) = sym (swap_is xs k i x (omega arith) l) ∙ ap (λ z. set (set xs k z) i (get_or xs k x)) (read xs i e) in
      ap (take (k + 1)) moved ∙ elim (equal_or_less h) [
        | inr less ↦ take-set-le (k + 1) (set xs k x) i (get_or xs k x) (omega arith) ∙ take_more_set xs k x (omega arith)
        | inl same ↦ subst (λ (j : ℕ). take (k + 1) (set (set xs k x) j (get_or xs k x)) ≡ take k xs ++ x ∷ []) same
            (take_more_set (set xs k x) k (get_or xs k x) (omega (arith, length-set xs k x))
            ∙ (let t = take-set-le k xs k x (omega arith) in let g = read xs k (subst (λ (j : ℕ). slice_get xs j ≡ Some x) (sym same) e) in cc))
      ]

  drop-swap : k ≤ i → i < length xs → drop (i + 1) (swap xs k i) ≡ drop (i + 1) xs
  drop-swap h l =
      ap (drop (i + 1)) (sym (swap_is xs k i x (omega arith) l))
      ∙ drop-set-lt (i + 1) (set xs k (get_or xs i x)) i (get_or xs k x) (omega arith)
      ∙ drop-set-lt (i + 1) xs k (get_or xs i x) (omega arith)

-- one more atom is looked at: a repeated one stays behind, another one is kept
module _ (xs made : List Atom) (k i : ℕ) (test : Bool) where
  abbrev pub Tests : Type 0
  Tests = IsSomeAnd (slice_get xs i) (λ a. test ≡ list_any (λ b. is_same a b) (take k xs))

  step : (x : Atom) → slice_get xs i ≡ Some x → fold added (take k xs) (drop i xs) ≡ made → fold added (added (take k xs) x) (drop (i + 1) xs) ≡ made
  step x e h = ap (λ (j : ℕ). fold added (added (take k xs) x) (drop j xs)) (add-one i) ∙ ap (fold added (take k xs)) (sym (drop-there xs i x e)) ∙ h

  pub repeated_stays : i < length xs → Tests → test ≡ true → fold added (take k xs) (drop i xs) ≡ made → fold added (take k xs) (drop (i + 1) xs) ≡ made
  repeated_stays l t e h =
      let x = get-there xs i l in
      let is : test ≡ list_any (λ b. is_same x.0 b) (take k xs) = rw x.1 at t in
      ap (λ b. fold added (if b then take k xs else take k xs ++ x.0 ∷ []) (drop (i + 1) xs)) (sym e ∙ is) ∙ step x.0 x.1 h

  pub other_kept : k ≤ i → i < length xs → Tests → test ≡ false → fold added (take k xs) (drop i xs) ≡ made → fold added (take (k + 1) (swap xs k i)) (drop (i + 1) (swap xs k i)) ≡ made
  other_kept m l t e h =
      let x = get-there xs i l in
      let is : test ≡ list_any (λ b. is_same x.0 b) (take k xs) = rw x.1 at t in
      let p = take-swap xs k i x.0 m l x.1 in
      let q = drop-swap xs k i x.0 m l in
      (λ j. fold added (p j) (q j))
      ∙ ap (λ b. fold added (if b then take k xs else take k xs ++ x.0 ∷ []) (drop (i + 1) xs)) (sym e ∙ is) ∙ step x.0 x.1 h
