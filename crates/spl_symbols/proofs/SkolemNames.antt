-- A Skolem name may be declared, and among more numbers than there are symbols one has a name that isn't.
use Rattle.std.proofs.Common.{◌≡◌, ℕ, zero, suc, ◌+◌, ◌%◌, ◌^◌, ◌<◌, ◌≤◌, Bool, true, false, not, ◌&&◌, ◌==◌, cond, nat_lt, List, [], ◌∷◌, ◌++◌, length, get_or, Some, None, is_some, option_map, option_and_then, refl, sym, ap, ◌∙◌, arith}
use Rattle.std.specs.Fmt.{decimal}
use Rattle.std.specs.List.{list_all, position_or_len, slice_get}
use Rattle.std.specs.Str.{bytes_eq}
use Rattle.std.proofs.lemmas.Bool.{and_from, and_parts, ne_eqb, false≢true, ltb-true}
use Rattle.std.proofs.lemmas.Bool.Decides.{nat_tests}
use Rattle.std.proofs.lemmas.Fmt.{decimal_by_steps, decimal_injective}
use Rattle.std.proofs.lemmas.List.{append_cancel_left}
use Rattle.std.proofs.lemmas.List.Sums.{passes_at_first}
use Rattle.std.proofs.lemmas.Slice.Eq.{bytes_eq-Decides}
use Rattle.indexmap.proofs.IndexTableLemmas.Probe.{pigeonhole}
use Rattle.dfg_tokens.specs.Tokens.{is_letter}
use Rattle.dfg_tokens.specs.Names.{is_reserved_word, is_name}
use Rattle.spl_terms.specs.declared.term.Symbol.{Symbol}
use Rattle.spl_terms.specs.declared.term.Kind.TheVariants.{Function}
use Rattle.spl_symbols.specs.Symbols.{Declared, found}
use Rattle.spl_symbols.specs.Skolems.{skolem_prefix, skolem_name}

-- ---- letters

digit_letter : (d : ℕ) → d < 10 → is_letter (48 + d) ≡ true
digit_letter d h = grind (arith, nat_tests)

letters_more : (ds : List ℕ) (b : ℕ) → list_all is_letter ds ≡ true → is_letter b ≡ true → list_all is_letter (ds ++ b ∷ []) ≡ true
letters_more [] b e h = and_from (is_letter b) true h refl
letters_more (c ∷ ds) b e h = let q = and_parts (is_letter c) (list_all is_letter ds) e in and_from (is_letter c) (list_all is_letter (ds ++ b ∷ [])) q.0 (letters_more ds b q.1 h)

decimal_letters : (n : ℕ) → n < 2 ^ 64 → list_all is_letter (decimal n) ≡ true
decimal_letters n h =
    decimal_by_steps (λ m ds. list_all is_letter ds ≡ true)
    (λ m less. and_from (is_letter (48 + m)) true (digit_letter m less) refl)
    (λ m ds more e. letters_more ds (48 + m % 10) e (digit_letter (m % 10) (omega arith)))
    n h

named : (name : List ℕ) → list_all is_letter name ≡ true → (length name ≡ 0 → ⊥) → is_reserved_word name ≡ false → is_name name ≡ true
named name letters some free =
    and_from (not (length name == 0) && list_all is_letter name) (not (is_reserved_word name))
    (and_from (not (length name == 0)) (list_all is_letter name) (ap not (ne_eqb (length name) 0 some)) letters)
    (ap not free)

pub may_be_named : (arity k : ℕ) → k < 2 ^ 64 → is_name (skolem_name arity k) ≡ true
may_be_named zero k h = named (skolem_name 0 k) (decimal_letters k h) (λ e. omega (arith, e)) refl
may_be_named (suc arity) k h = named (skolem_name (suc arity) k) (decimal_letters k h) (λ e. omega (arith, e)) refl

-- ---- a number whose name is new

module _ (ds : List Declared) (arity from : ℕ) where
  abbrev name_at : ℕ → List ℕ
  name_at i = skolem_name arity (from + i)

  abbrev place_at : ℕ → ℕ
  place_at i = position_or_len (λ (d : Declared). bytes_eq (name_at i) d.name) ds

  within : (i : ℕ) → is_some (found (name_at i) ds) ≡ true → place_at i < length ds
  within i e = by_test (nat_lt (place_at i) (length ds)) refl e
    where
      by_test : (b : Bool) → nat_lt (place_at i) (length ds) ≡ b → is_some {T = Symbol} (option_and_then (λ j. option_map (λ (d : Declared). record { number = j; kind = d.kind }) (slice_get ds j)) (cond b (Some (place_at i)) None)) ≡ true → place_at i < length ds
      by_test true t k = ltb-true (place_at i) (length ds) t
      by_test false t k = absurd (false≢true k)

  abbrev nobody : Declared
  nobody = record { name = []; arity = 0; kind = Function }

  -- the name that stands at its place
  own_name : (i : ℕ) → place_at i < length ds → name_at i ≡ (get_or ds (place_at i) nobody).name
  own_name i h = (bytes_eq-Decides (name_at i) (get_or ds (place_at i) nobody).name).0 (passes_at_first (λ (d : Declared). bytes_eq (name_at i) d.name) ds nobody h)

  same_number : from ≤ 2 ^ 62 → (i j : ℕ) → i < 65537 → j < 65537 → name_at i ≡ name_at j → i ≡ j
  same_number small i j hi hj e =
      let k : from + i ≡ from + j = decimal_injective (from + i) (from + j) (omega arith) (omega arith) (append_cancel_left (skolem_prefix arity) (decimal (from + i)) (decimal (from + j)) e) in
      omega arith

  -- not all of 65,537 names are declared
  pub one_is_new : from ≤ 2 ^ 62 → length ds ≤ 65536 → ((j : ℕ) → from ≤ j → j < from + 65537 → is_some (found (skolem_name arity j) ds) ≡ true) → ⊥
  one_is_new small few all =
      let inside : (i : ℕ) → i < 65537 → place_at i < length ds = λ i h. within i (all (from + i) (omega arith) (omega arith)) in
      let one : (i j : ℕ) → i < 65537 → j < 65537 → place_at i ≡ place_at j → i ≡ j =
      λ i j hi hj e. same_number small i j hi hj (own_name i (inside i hi) ∙ ap (λ p. (get_or ds p nobody).name) e ∙ sym (own_name j (inside j hj))) in
      let less = pigeonhole 65537 (length ds) place_at inside one in
      omega arith
