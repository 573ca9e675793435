-- How often numbers stand in lists.
use Rattle.std.proofs.Common.{◌≡◌, ℕ, ◌+◌, ◌≤◌, ◌<◌, Bool, true, false, ◌&&◌, ◌||◌, ◌==◌, nat_le, if◌then◌else◌, List, [], ◌∷◌, ◌++◌, length, refl, sym, ap, ◌∙◌, arith}
use Rattle.std.specs.List.{list_all, list_any}
use Rattle.std.proofs.lemmas.Bool.{eqb-true, le-leb, leb-true, false≢true, and_parts}
use Rattle.std.proofs.lemmas.List.Sums.{sum_by-append, sum_by-cons, count_by-le-length}
use Rattle.spl_truth.specs.Orders.{times, contains_each}

pub times-append : (v : ℕ) (xs ys : List ℕ) → times v (xs ++ ys) ≡ times v xs + times v ys
times-append v xs ys = sum_by-append (λ x. if v == x then 1 else 0) xs ys

pub times-cons : (v x : ℕ) (xs : List ℕ) → times v (x ∷ xs) ≡ (if v == x then 1 else 0) + times v xs
times-cons v x xs = sum_by-cons (λ x. if v == x then 1 else 0) x xs

pub times-within : (v : ℕ) (xs : List ℕ) → times v xs ≤ length xs
times-within v xs = count_by-le-length (λ w. v == w) xs

one : (b : Bool) → b ≡ true → (let none : ℕ = 0 in (if b then 1 else none) ≡ 1)
one b e = ap (λ c. let none : ℕ = 0 in (if c then 1 else none)) e

none : (b : Bool) → b ≡ false → (let none : ℕ = 0 in (if b then 1 else none) ≡ 0)
none b e = ap (λ c. let none : ℕ = 0 in (if c then 1 else none)) e

pub has_times : (v : ℕ) (vs : List ℕ) → list_any (λ w. v == w) vs ≡ true → 0 < times v vs
has_times v [] e = absurd (false≢true e)
has_times v (x ∷ xs) e = by_test (v == x) refl (has_times v xs) e
  where
    by_test : (b : Bool) → (v == x) ≡ b → (list_any (λ w. v == w) xs ≡ true → 0 < times v xs) → (b || list_any (λ w. v == w) xs) ≡ true → 0 < times v (x ∷ xs)
    by_test true p more h = omega (arith, times-cons v x xs, one (v == x) p)
    by_test false p more h = omega (arith, times-cons v x xs, more h)

pub none_times : (v : ℕ) (vs : List ℕ) → list_any (λ w. v == w) vs ≡ false → times v vs ≡ 0
none_times v [] e = refl
none_times v (x ∷ xs) e = by_test (v == x) refl (none_times v xs) e
  where
    by_test : (b : Bool) → (v == x) ≡ b → (list_any (λ w. v == w) xs ≡ false → times v xs ≡ 0) → (b || list_any (λ w. v == w) xs) ≡ false → times v (x ∷ xs) ≡ 0
    by_test true p more h = absurd (false≢true (sym h))
    by_test false p more h = omega (arith, times-cons v x xs, none (v == x) p, more h)

-- ---- each number as often

passes_at : (p : ℕ → Bool) (xs : List ℕ) (v : ℕ) → list_all p xs ≡ true → list_any (λ w. v == w) xs ≡ true → p v ≡ true
passes_at p [] v e h = absurd (false≢true h)
passes_at p (x ∷ xs) v e h = by_test (v == x) refl (passes_at p xs v (and_parts _ _ e).1) h
  where
    by_test : (b : Bool) → (v == x) ≡ b → (list_any (λ w. v == w) xs ≡ true → p v ≡ true) → (b || list_any (λ w. v == w) xs) ≡ true → p v ≡ true
    by_test true q more k = ap p (eqb-true v x q) ∙ (and_parts _ _ e).0
    by_test false q more k = more k

all_pass : (p : ℕ → Bool) (xs : List ℕ) → ((v : ℕ) → p v ≡ true) → list_all p xs ≡ true
all_pass p [] h = refl
all_pass p (x ∷ xs) h = λ i. h x i && all_pass p xs h i

pub contains_at : (vs ws : List ℕ) → contains_each vs ws ≡ true → (v : ℕ) → times v ws ≤ times v vs
contains_at vs ws e v = by_test (list_any (λ w. v == w) ws) refl
  where
    by_test : (b : Bool) → list_any (λ w. v == w) ws ≡ b → times v ws ≤ times v vs
    by_test true h = leb-true _ _ (passes_at (λ v. nat_le (times v ws) (times v vs)) ws v e h)
    by_test false h = omega (arith, none_times v ws h)

pub contains_all : (vs ws : List ℕ) → ((v : ℕ) → times v ws ≤ times v vs) → contains_each vs ws ≡ true
contains_all vs ws h = all_pass (λ v. nat_le (times v ws) (times v vs)) ws (λ v. le-leb (times v ws) (times v vs) (h v))
