-- The values of short numbers, and how they are told.
use Rattle.std.proofs.Common.{◌≡◌, ℕ, ◌<◌, ◌≤◌, ◌^◌, Bool, true, false, nat_le, List, [], ◌∷◌, length, map, take, drop, get_or, ◌-◌, subst, Option, Some, None, refl, sym, ap, ◌∙◌, arith}
use Rattle.std.specs.Prelude.{SomeIff, option_and_then}
use Rattle.std.specs.List.{list_all}
use Rattle.std.specs.Char.{digit_value, is_digit}
use Rattle.std.specs.String.{string_bytes}
use Rattle.std.specs.declared.string.String.{String}
use Rattle.std.specs.declared.alloc.Global.{Global}
use Rattle.std.proofs.Math.Nat.{pow-le-pow_right}
use Rattle.std.proofs.Math.Seq.{take-length}
use Rattle.std.proofs.lemmas.Int.Digits.{digits_value-lt}
use Rattle.std.proofs.lemmas.Bool.{and_from, and_parts, lt-ltb, ltb-true}
use Rattle.std.specs.Str.Parse.{AllDigits, IsNumeral, digits_value}
use Rattle.prover_top.specs.declared.words.Given.{Given}
use Rattle.prover_top.specs.Words.{is_short, is_numeral, number_of, with_option, options_of}

pub short_value : (ds : List ℕ) → AllDigits 10 ds → length ds ≤ 7 → digits_value 10 ds < 4294967296
short_value ds h k =
    let most : 10 ^ length ds ≤ 10000000 = pow-le-pow_right (omega arith) k in
    omega (arith, digits_value-lt 10 ds h, most)

digits_true : (ds : List ℕ) → AllDigits 10 ds → list_all (λ d. is_digit d 10) ds ≡ true
digits_true [] h = refl
digits_true (d ∷ ds) h = and_from _ _ (lt-ltb (digit_value d) 10 h.0) (digits_true ds h.1)

true_digits : (ds : List ℕ) → list_all (λ d. is_digit d 10) ds ≡ true → AllDigits 10 ds
true_digits [] e = tt
true_digits (d ∷ ds) e = let p = and_parts _ _ e in (ltb-true (digit_value d) 10 p.0, true_digits ds p.1)

short_true : (n : ℕ) → 0 < n → n ≤ 7 → is_short n ≡ true
short_true n h k = grind arith

true_short : (n : ℕ) → is_short n ≡ true → (0 < n) × (n ≤ 7)
true_short n e =
    let p = and_parts (nat_le 1 n) (nat_le n 7) e in
    let x : 1 ≤ n = grind arith in
    let y : n ≤ 7 = grind arith in
    (omega arith, y)

pub number_from : (word : List ℕ) (r : Option ℕ) → SomeIff r (IsNumeral 10 word × (length word ≤ 7)) (digits_value 10 word) → r ≡ number_of word
number_from word (Some x) h =
    let fits : is_numeral word ≡ true = rw (short_true (length word) h.0.0.0 h.0.1, digits_true word h.0.0.1) in
    rw fits (ap Some h.1)
number_from word None h = by_test (is_numeral word) refl
  where
    by_test : (b : Bool) → is_numeral word ≡ b → None ≡ number_of word
    by_test true e =
        let p = and_parts _ _ e in
        let q = true_short (length word) p.0 in
        absurd (h ((q.0, true_digits word p.1), q.1))
    by_test false e = rw e

-- one more option and its value
options_step : (given next : Given) (option value : List ℕ) (more : List (List ℕ)) (r : Option Given) → with_option given option value ≡ Some next → r ≡ options_of next more → r ≡ options_of given (option ∷ value ∷ more)
options_step given next option value more r e h = h ∙ sym (ap (option_and_then (λ n. options_of n more)) e)

-- what is behind the first element
abbrev pub behind : {A : Type 0} → List A → List A
behind xs = take (length xs - 1) (drop 1 xs)

behind_is : {A : Type 0} (x : A) (xs : List A) → behind (x ∷ xs) ≡ xs
behind_is x xs =
    let e : length (x ∷ xs) - 1 ≡ length xs = omega arith in
    subst (λ n. take n xs ≡ xs) (sym e) (take-length xs)

-- the first two words are an option and its value
pub options_at : (given next : Given) (words : List (String Global)) (o v : String Global) (option value : List ℕ) (r : Option Given) →
    1 ≤ length words → 1 ≤ length (behind words) → o ≡ get_or words 0 o → v ≡ get_or (behind words) 0 v → option ≡ string_bytes o → value ≡ string_bytes v →
    with_option given option value ≡ Some next → r ≡ options_of next (map string_bytes (behind (behind words))) → r ≡ options_of given (map string_bytes words)
options_at given next [] o v option value r a b d e f g h j = absurd (omega arith)
options_at given next (x ∷ []) o v option value r a b d e f g h j =
    let none : 1 ≤ length (behind (x ∷ [])) → ⊥ = subst (λ l. 1 ≤ length l → ⊥) (sym (behind_is x [])) (λ p. omega arith) in
    absurd (none b)
options_at given next (x ∷ y ∷ more) o v option value r a b d e f g h j =
    let rest : behind (x ∷ y ∷ more) ≡ y ∷ more = behind_is x (y ∷ more) in
    let last : behind (behind (x ∷ y ∷ more)) ≡ more = ap behind rest ∙ behind_is y more in
    let is_y : v ≡ y = e ∙ ap (λ l. get_or l 0 v) rest in
    options_step given next (string_bytes x) (string_bytes y) (map string_bytes more) r
    (ap (with_option given (string_bytes x)) (sym (g ∙ ap string_bytes is_y)) ∙ ap (λ w. with_option given w value) (sym (f ∙ ap string_bytes d)) ∙ h)
    (j ∙ ap (λ l. options_of next (map string_bytes l)) last)
