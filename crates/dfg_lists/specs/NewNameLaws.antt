-- Laws with their proofs, not definitions that a reader must believe: a name of the signature is new to the symbols before its own.
use Rattle.std.proofs.Common.{◌≡◌, ℕ, zero, suc, ◌+◌, ◌<◌, Bool, true, false, not, cond, List, [], ◌∷◌, ◌++◌, length, Option, Some, None, slice_get, option_map, option_and_then, nat_lt, refl, sym, ap, ◌∙◌, length-append, arith}
use Rattle.std.proofs.lemmas.Bool.{ltb-true, lt-ltb}
use Rattle.std.specs.List.{position, position_or_len}
use Rattle.std.specs.Str.{bytes_eq}
use Rattle.spl_terms.specs.declared.term.Symbol.{Symbol}
use Rattle.spl_symbols.specs.Symbols.{Declared, found, HasOwnNames}
use Rattle.dfg_terms.specs.LookupLaws.{found_within}

-- ---- names in a longer list

module _ {X : Type 0} (p : X → Bool) where
  place_kept : (xs ys : List X) → position_or_len p xs < length xs → position_or_len p (xs ++ ys) ≡ position_or_len p xs
  place_kept [] ys h = absurd (omega arith)
  place_kept (x ∷ xs) ys h = by_test (p x) h (place_kept xs ys)
    where
      by_test : (b : Bool) → cond (not b) (1 + position_or_len p xs) 0 < suc (length xs) → (position_or_len p xs < length xs → position_or_len p (xs ++ ys) ≡ position_or_len p xs) → cond (not b) (1 + position_or_len p (xs ++ ys)) 0 ≡ cond (not b) (1 + position_or_len p xs) 0
      by_test true k more = refl
      by_test false k more = ap (λ n. 1 + n) (more (omega arith))

  position_kept : (xs ys : List X) (i : ℕ) → position p xs ≡ Some i → position p (xs ++ ys) ≡ Some i
  position_kept xs ys i e = by_test (nat_lt (position_or_len p xs) (length xs)) refl e
    where
      by_test : (b : Bool) → nat_lt (position_or_len p xs) (length xs) ≡ b → cond b (Some (position_or_len p xs)) None ≡ Some i → position p (xs ++ ys) ≡ Some i
      by_test false t r = absurd cc
      by_test true t r =
          let h : position_or_len p xs < length xs = ltb-true (position_or_len p xs) (length xs) t in
          let same : position_or_len p (xs ++ ys) ≡ position_or_len p xs = place_kept xs ys h in
          let within : nat_lt (position_or_len p (xs ++ ys)) (length (xs ++ ys)) ≡ true = lt-ltb (position_or_len p (xs ++ ys)) (length (xs ++ ys)) (omega (arith, length-append xs ys)) in
          rw within (ap Some same ∙ r)

get_kept : (xs ys : List Declared) (i : ℕ) (d : Declared) → slice_get xs i ≡ Some d → slice_get (xs ++ ys) i ≡ Some d
get_kept [] ys i d e = absurd cc
get_kept (x ∷ xs) ys zero d e = e
get_kept (x ∷ xs) ys (suc i) d e = get_kept xs ys i d e

pub get_next : (xs : List Declared) (d : Declared) (ys : List Declared) → slice_get (xs ++ d ∷ ys) (length xs) ≡ Some d
get_next [] d ys = refl
get_next (x ∷ xs) d ys = get_next xs d ys

abbrev at_place : List Declared → Option ℕ → Option Symbol
at_place ds = option_and_then (λ i. option_map (λ (d : Declared). record { number = i; kind = d.kind }) (slice_get ds i))

found_kept : (name : List ℕ) (xs ys : List Declared) (s : Symbol) → found name xs ≡ Some s → found name (xs ++ ys) ≡ Some s
found_kept name xs ys s e = by_place (position (λ d. bytes_eq name d.name) xs) refl e
  where
    by_declared : (i : ℕ) (o : Option Declared) → slice_get xs i ≡ o → option_map (λ (d : Declared). record { number = i; kind = d.kind }) o ≡ Some s → option_map (λ (d : Declared). record { number = i; kind = d.kind }) (slice_get (xs ++ ys) i) ≡ Some s
    by_declared i None is r = absurd cc
    by_declared i (Some d) is r = ap (option_map (λ (d : Declared). record { number = i; kind = d.kind })) (get_kept xs ys i d is) ∙ r

    by_place : (o : Option ℕ) → position (λ d. bytes_eq name d.name) xs ≡ o → at_place xs o ≡ Some s → found name (xs ++ ys) ≡ Some s
    by_place None is r = absurd cc
    by_place (Some i) is r = ap (at_place (xs ++ ys)) (position_kept (λ d. bytes_eq name d.name) xs ys i is) ∙ by_declared i (slice_get xs i) refl r

-- where no name stands twice, a name is new to the symbols before it
pub new_name : (xs : List Declared) (d : Declared) (ys : List Declared) → HasOwnNames (xs ++ d ∷ ys) → found d.name xs ≡ None
new_name xs d ys own = by_found (found d.name xs) refl
  where
    own_place : found d.name (xs ++ d ∷ ys) ≡ Some (record { number = length xs; kind = d.kind })
    own_place = own (length xs) d (get_next xs d ys)

    by_found : (o : Option Symbol) → found d.name xs ≡ o → o ≡ None
    by_found None is = refl
    by_found (Some s) is =
        let same : Some s ≡ Some (record { number = length xs; kind = d.kind }) = sym (found_kept d.name xs (d ∷ ys) s is) ∙ own_place in
        let at : s ≡ record { number = length xs; kind = d.kind } = cc in
        let number : s.number ≡ length xs = ap (λ (x : Symbol). x.number) at in
        let within : s.number < length xs = found_within d.name xs s is in
        absurd (omega arith)
