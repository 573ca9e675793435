-- Laws with their proofs, not definitions that a reader must believe: elements by their numbers, in lists that grow.
use Rattle.std.proofs.Common.{◌≡◌, ℕ, zero, suc, ◌+◌, ◌-◌, ◌<◌, ◌≤◌, List, [], ◌∷◌, ◌++◌, length, map, take, Some, option_map, refl, sym, ap, ◌∙◌, arith, slice_get}
use Rattle.std.proofs.lemmas.Option.{none-some, slice_get-map, slice_get_within}
use Rattle.spl_terms.specs.Lists.{numbered}

-- ---- the first element, and those behind it

abbrev first_or : {A : Type 0} → A → List A → A
first_or d [] = d
first_or d (x ∷ xs) = x

abbrev behind_first : {A : Type 0} → List A → List A
behind_first [] = []
behind_first (x ∷ xs) = xs

pub same_first : {A : Type 0} (x y : A) (xs ys : List A) → x ∷ xs ≡ y ∷ ys → x ≡ y
same_first x y xs ys e = ap (first_or x) e

pub same_rest : {A : Type 0} (x y : A) (xs ys : List A) → x ∷ xs ≡ y ∷ ys → xs ≡ ys
same_rest x y xs ys e = ap behind_first e

-- ---- elements by their places, from 0

pub get-left : {A : Type 0} (xs ys : List A) (k : ℕ) → k < length xs → slice_get (xs ++ ys) k ≡ slice_get xs k
get-left [] ys k h = absurd (omega (arith, h))
get-left (x ∷ xs) ys zero h = refl
get-left (x ∷ xs) ys (suc k) h = get-left xs ys k (omega (arith, h))

pub get-right : {A : Type 0} (xs ys : List A) (k : ℕ) → slice_get (xs ++ ys) (length xs + k) ≡ slice_get ys k
get-right [] ys k = ap (slice_get ys) (let e : 0 + k ≡ k = omega arith in e)
get-right (x ∷ xs) ys k = ap (slice_get (x ∷ (xs ++ ys))) (let e : suc (length xs) + k ≡ suc (length xs + k) = omega arith in e) ∙ get-right xs ys k

pub get-behind : {A : Type 0} (xs ys : List A) (k : ℕ) → length xs ≤ k → slice_get (xs ++ ys) k ≡ slice_get ys (k - length xs)
get-behind xs ys k h =
    let place : length xs + (k - length xs) ≡ k = omega (arith, h) in
    ap (slice_get (xs ++ ys)) (sym place) ∙ get-right xs ys (k - length xs)

pub get-there : {A : Type 0} (xs : List A) (k : ℕ) → k < length xs → (x : A) × (slice_get xs k ≡ Some x)
get-there [] k h = absurd (omega (arith, h))
get-there (x ∷ xs) zero h = (x, refl)
get-there (x ∷ xs) (suc k) h = get-there xs k (omega (arith, h))

-- ---- elements by their numbers, from 1

pub numbered-get : {A : Type 0} (xs : List A) (n : ℕ) → 1 ≤ n → numbered xs n ≡ slice_get xs (n - 1)
numbered-get xs zero h = absurd (omega (arith, h))
numbered-get xs (suc k) h = ap (slice_get xs) (let e : k ≡ suc k - 1 = omega arith in e)

pub numbered-within : {A : Type 0} (xs : List A) (n : ℕ) (x : A) → numbered xs n ≡ Some x → (1 ≤ n) × (n ≤ length xs)
numbered-within xs zero x e = absurd (none-some x e)
numbered-within xs (suc k) x e = (omega arith, omega (arith, slice_get_within xs k x e))

pub numbered-there : {A : Type 0} (xs : List A) (n : ℕ) → 1 ≤ n → n ≤ length xs → (x : A) × (numbered xs n ≡ Some x)
numbered-there xs zero h k = absurd (omega (arith, h))
numbered-there xs (suc n) h k = get-there xs n (omega (arith, k))

pub numbered-map : {A B : Type 0} (f : A → B) (xs : List A) (n : ℕ) → numbered (map f xs) n ≡ option_map f (numbered xs n)
numbered-map f xs zero = refl
numbered-map f xs (suc k) = slice_get-map f xs k

-- the elements keep their numbers where more come behind them
pub numbered-left : {A : Type 0} (xs ys : List A) (n : ℕ) → n ≤ length xs → numbered (xs ++ ys) n ≡ numbered xs n
numbered-left xs ys zero h = refl
numbered-left xs ys (suc k) h = get-left xs ys k (omega (arith, h))

pub numbered-more : {A : Type 0} (xs ys : List A) (n : ℕ) (x : A) → numbered xs n ≡ Some x → numbered (xs ++ ys) n ≡ Some x
numbered-more xs ys n x e = numbered-left xs ys n (numbered-within xs n x e).1 ∙ e

pub numbered-right : {A : Type 0} (xs ys : List A) (n : ℕ) → 1 ≤ n → numbered (xs ++ ys) (length xs + n) ≡ numbered ys n
numbered-right xs ys zero h = absurd (omega (arith, h))
numbered-right xs ys (suc k) h =
    ap (numbered (xs ++ ys)) (let e : length xs + suc k ≡ suc (length xs + k) = omega arith in e) ∙ get-right xs ys k

-- one more comes behind the others, with the next number
pub numbered-end : {A : Type 0} (xs : List A) (x : A) → numbered (xs ++ x ∷ []) (length xs + 1) ≡ Some x
numbered-end xs x = numbered-right xs (x ∷ []) 1 (omega arith)

-- the first elements have the numbers that they have among all
pub numbered-take : {A : Type 0} (xs : List A) (m n : ℕ) → n ≤ m → numbered (take m xs) n ≡ numbered xs n
numbered-take xs m zero h = refl
numbered-take xs m (suc k) h = get-take xs m k (omega (arith, h))
  where
    get-take : {A : Type 0} (xs : List A) (m k : ℕ) → k < m → slice_get (take m xs) k ≡ slice_get xs k
    get-take xs zero k h = absurd (omega (arith, h))
    get-take [] (suc m) k h = refl
    get-take (x ∷ xs) (suc m) zero h = refl
    get-take (x ∷ xs) (suc m) (suc k) h = get-take xs m k (omega (arith, h))
