-- Searching among nodes that rise, and the list of all places.
use Rattle.std.specs.Prelude.{Contains}
use Rattle.std.specs.List.Sorted.{IsBinarySearchResult}
use Rattle.std.specs.Ordering.{nat_cmp}
use Rattle.std.specs.Result.{is_ok, MatchResult}
use Rattle.std.proofs.Math.ListN.{get_or}
use Rattle.std.proofs.Common.{◌≡◌, ℕ, zero, suc, ◌+◌, ◌<◌, ◌≤◌, inl, inr, false, eqb, List, [], ◌∷◌, ◌++◌, length, Result, Ok, Err, refl, sym, ◌∙◌, ap, arith, eq-eqb}
use Rattle.std.proofs.lemmas.Bool.{ne_eqb, or_from, cases_lt}
use Rattle.std.proofs.lemmas.List.Folds.{list_any_at}
use Rattle.std.proofs.lemmas.List.Elements.{Contains-append_left, Contains-append_right, Contains-append_cases}
use Rattle.std.proofs.lemmas.List.Sorted.{searched}
use Rattle.std.proofs.lemmas.Option.{slice_get-get_or}
use Rattle.case_view.specs.Views.{IsRising}
use Rattle.case_view.specs.Walks.{is_among}

none_among : (xs : List ℕ) (n : ℕ) → ((k : ℕ) → k < length xs → get_or xs k 0 ≡ n → ⊥) → is_among xs n ≡ false
none_among [] n h = refl
none_among (x ∷ xs) n h = or_from (eqb n x) (is_among xs n) (ne_eqb n x (λ q. h 0 (omega arith) (sym q))) (none_among xs n (λ k low e. h (suc k) (omega (arith, low)) e))

pub among_found : (xs : List ℕ) (n : ℕ) (r : Result ℕ ℕ) → IsRising xs → IsBinarySearchResult (λ y. nat_cmp y n) xs r → is_ok r ≡ is_among xs n
among_found xs n r rises h = by_result r (searched xs n r h (λ i j ij low. rises i j (get_or xs i 0) (get_or xs j 0) ij (slice_get-get_or xs i 0 (omega (arith, ij, low))) (slice_get-get_or xs j 0 low)))
  where
    by_result : (r : Result ℕ ℕ) → MatchResult r (λ i. (i < length xs) × (get_or xs i 0 ≡ n)) (λ i. (i ≤ length xs) × ((k : ℕ) → k < i → get_or xs k 0 < n) × ((k : ℕ) → i ≤ k → k < length xs → n < get_or xs k 0)) → is_ok r ≡ is_among xs n
    by_result (Ok i) (low, is) = sym (list_any_at (λ x. eqb n x) xs i 0 low (eq-eqb n (get_or xs i 0) (sym is)))
    by_result (Err i) (in_range, before, after) = sym (none_among xs n (λ k low e. elim (cases_lt k i) [
      | inl less ↦ (let p = before k less in omega (arith, p, e))
      | inr more ↦ (let p = after k more low in omega (arith, p, e))
    ]))

-- ---- all places

abbrev pub places_to : ℕ → List ℕ
places_to zero = []
places_to (suc n) = places_to n ++ n ∷ []

to_next : (n : ℕ) → places_to n ++ n ∷ [] ≡ places_to (n + 1)
to_next n = let e : suc n ≡ n + 1 = omega arith in ap places_to e

pub places_more : (n : ℕ) (old new : List ℕ) → old ≡ places_to n → new ≡ old ++ n ∷ [] → new ≡ places_to (n + 1)
places_more n old new before now = now ∙ (ap (λ xs. xs ++ n ∷ []) before ∙ to_next n)

one_of : (n m : ℕ) → Contains (n ∷ []) m → n ≡ m
one_of n m (zero, low, is) = is
one_of n m (suc k, low, is) = absurd (omega (arith, low))

pub places_within : (n m : ℕ) → Contains (places_to n) m → m < n
places_within zero m (k, low, is) = absurd (omega (arith, low))
places_within (suc n) m h = elim (Contains-append_cases (places_to n) (n ∷ []) m h) [
  | inl old ↦ omega (arith, places_within n m old)
  | inr new ↦ omega (arith, one_of n m new)
]

pub places_all : (n m : ℕ) → m < n → Contains (places_to n) m
places_all zero m low = absurd (omega (arith, low))
places_all (suc n) m low = elim (cases_lt m n) [
  | inl less ↦ Contains-append_left (places_to n) (n ∷ []) m (places_all n m less)
  | inr more ↦ Contains-append_right (places_to n) (n ∷ []) m (0, omega arith, omega (arith, low, more))
]
