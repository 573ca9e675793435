-- Lists whose elements are taken one by one.
use Rattle.std.proofs.Common.{◌≡◌, ℕ, zero, suc, ◌+◌, ◌<◌, Bool, true, false, if◌then◌else◌, List, [], ◌∷◌, ◌++◌, length, drop, get_or, Some, refl, sym, ap, ◌∙◌, subst, arith, append_assoc}
use Rattle.std.specs.Prelude.{filter, slice_get}
use Rattle.std.specs.List.{AllByRecursion, enumerate_from}

drop_next : {X : Type 0} (xs : List X) (k : ℕ) (x : X) → k < length xs → x ≡ get_or xs k x → drop k xs ≡ x ∷ drop (suc k) xs
drop_next [] k x h e = absurd (omega arith)
drop_next (y ∷ xs) zero x h e = ap (λ z. z ∷ xs) (sym e)
drop_next (y ∷ xs) (suc k) x h e = drop_next xs k x (omega arith) e

pub drop_at : {X : Type 0} (xs : List X) (k : ℕ) (x : X) → k < length xs → x ≡ get_or xs k x → drop k xs ≡ x ∷ drop (k + 1) xs
drop_at xs k x h e = let s : suc k ≡ k + 1 = omega arith in subst (λ m. drop k xs ≡ x ∷ drop m xs) s (drop_next xs k x h e)

pub each_at : {X : Type 0} (P : X → Type 0) (xs : List X) (k : ℕ) (x : X) → AllByRecursion P xs → k < length xs → x ≡ get_or xs k x → P x
each_at P [] k x h l e = absurd (omega arith)
each_at P (y ∷ xs) zero x h l e = subst P (sym e) h.0
each_at P (y ∷ xs) (suc k) x h l e = each_at P xs k x h.1 (omega arith) e

-- ---- kept elements

kept_first : {X : Type 0} (f : X → Bool) (x : X) (rest : List X) → filter f (x ∷ []) ++ filter f rest ≡ filter f (x ∷ rest)
kept_first f x rest = by_test (f x)
  where
    by_test : (b : Bool) → (if b then x ∷ [] else []) ++ filter f rest ≡ (if b then x ∷ filter f rest else filter f rest)
    by_test true = refl
    by_test false = refl

-- what was kept so far, and then what is kept of the next element and those after it
pub kept_next : {X : Type 0} (f : ℕ × X → Bool) (xs : List X) (k : ℕ) (x : X) (old new : List (ℕ × X)) → k < length xs → x ≡ get_or xs k x → new ≡ old ++ filter f ((k, x) ∷ []) →
    new ++ filter f (enumerate_from (k + 1) (drop (k + 1) xs)) ≡ old ++ filter f (enumerate_from k (drop k xs))
kept_next f xs k x old new h e is =
    ap (λ l. l ++ filter f (enumerate_from (k + 1) (drop (k + 1) xs))) is
    ∙ append_assoc old (filter f ((k, x) ∷ [])) (filter f (enumerate_from (k + 1) (drop (k + 1) xs)))
    ∙ ap (λ l. old ++ l) (kept_first f (k, x) (enumerate_from (k + 1) (drop (k + 1) xs)))
    ∙ ap (λ l. old ++ filter f (enumerate_from k l)) (sym (drop_at xs k x h e))

pub each_kept : {X : Type 0} (P : X → Type 0) (f : X → Bool) (xs : List X) → AllByRecursion P xs → AllByRecursion P (filter f xs)
each_kept P f [] h = tt
each_kept P f (x ∷ xs) h = by_test (f x) (each_kept P f xs h.1)
  where
    by_test : (b : Bool) → AllByRecursion P (filter f xs) → AllByRecursion P (if b then x ∷ filter f xs else filter f xs)
    by_test true more = (h.0, more)
    by_test false more = more

pub each_numbered : {X : Type 0} (P : X → Type 0) (n : ℕ) (xs : List X) → ((k : ℕ) (x : X) → slice_get xs k ≡ Some x → P x) → AllByRecursion (λ x. P x.1) (enumerate_from n xs)
each_numbered P n [] h = tt
each_numbered P n (x ∷ xs) h = (h 0 x refl, each_numbered P (n + 1) xs (λ k y e. h (suc k) y e))

pub each_placed : {X : Type 0} (P : ℕ × X → Type 0) (n : ℕ) (xs : List X) → ((k : ℕ) (x : X) → slice_get xs k ≡ Some x → P (n + k, x)) → AllByRecursion P (enumerate_from n xs)
each_placed P n [] h = tt
each_placed P n (x ∷ xs) h =
    let here : n + 0 ≡ n = omega arith in
    (subst (λ m. P (m, x)) here (h 0 x refl), each_placed P (n + 1) xs (λ k y e. (let there : n + suc k ≡ (n + 1) + k = omega arith in subst (λ m. P (m, y)) there (h (suc k) y e))))
