-- Laws with their proofs, not definitions that a reader must believe: symbols are found by their names.
use Rattle.std.proofs.Common.{◌≡◌, ℕ, ◌<◌, true, List, length, Option, Some, None, get_or, slice_get, option_map, option_and_then, IsSomeAnd, refl, sym, ap, ◌∙◌, arith}
use Rattle.std.proofs.lemmas.Option.{slice_get_within, get_or_from_slice_get}
use Rattle.std.proofs.lemmas.List.Quantifiers.{position-Some}
use Rattle.std.proofs.lemmas.Slice.Eq.{bytes_eq-Decides}
use Rattle.std.specs.List.{position}
use Rattle.std.specs.Str.{bytes_eq}
use Rattle.spl_terms.specs.declared.term.Symbol.{Symbol}
use Rattle.spl_symbols.specs.Symbols.{Declared, found}
use Rattle.dfg_terms.specs.declared.symbols.Found.{Found}
use Rattle.dfg_terms.specs.Symbols.{with_arity}

-- a symbol that is found is one of the signature
pub found_within : (name : List ℕ) (ds : List Declared) (s : Symbol) → found name ds ≡ Some s → s.number < length ds
found_within name ds s e = at_place (position (λ d. bytes_eq name d.name) ds) e
  where
    at_number : (i : ℕ) (o : Option Declared) → slice_get ds i ≡ o → option_map (λ (d : Declared). record { number = i; kind = d.kind }) o ≡ Some s → s.number < length ds
    at_number i None is r = absurd cc
    at_number i (Some d) is r =
        let same : record { number = i; kind = d.kind } ≡ s = cc in
        let n : i ≡ s.number = ap (λ (x : Symbol). x.number) same in
        let h = slice_get_within ds i d is in
        omega arith

    at_place : (p : Option ℕ) → option_and_then (λ i. option_map (λ (d : Declared). record { number = i; kind = d.kind }) (slice_get ds i)) p ≡ Some s → s.number < length ds
    at_place None r = absurd cc
    at_place (Some i) r = at_number i (slice_get ds i) refl r

pub looked_up : (symbols : List Declared) (s : Symbol) (n : ℕ) → IsSomeAnd (slice_get symbols s.number) (λ d. n ≡ d.arity) → with_arity symbols (Some s) ≡ Some (record { symbol = s; arity = n })
looked_up symbols s n is = by_declared (slice_get symbols s.number) is
  where
    by_declared : (o : Option Declared) → IsSomeAnd o (λ d. n ≡ d.arity) → option_map {U = Found} (λ (d : Declared). record { symbol = s; arity = d.arity }) o ≡ Some (record { symbol = s; arity = n })
    by_declared None h = absurd h
    by_declared (Some d) h = ap (λ (m : ℕ). Some (record { symbol = s; arity = m })) (sym h)

abbrev at_place : List Declared → Option ℕ → Option Symbol
at_place ds = option_and_then (λ i. option_map (λ (d : Declared). record { number = i; kind = d.kind }) (slice_get ds i))

-- what is found is declared under this name
pub found_declared : (name : List ℕ) (ds : List Declared) (s : Symbol) → found name ds ≡ Some s → (d : Declared) × (slice_get ds s.number ≡ Some d) × (d.name ≡ name) × (d.kind ≡ s.kind)
found_declared name ds s e = by_place (position (λ d. bytes_eq name d.name) ds) refl e
  where
    by_declared : (i : ℕ) (o : Option Declared) → slice_get ds i ≡ o → position (λ d. bytes_eq name d.name) ds ≡ Some i → option_map (λ (d : Declared). record { number = i; kind = d.kind }) o ≡ Some s → (d : Declared) × (slice_get ds s.number ≡ Some d) × (d.name ≡ name) × (d.kind ≡ s.kind)
    by_declared i None is place r = absurd cc
    by_declared i (Some d) is place r =
        let same : record { number = i; kind = d.kind } ≡ s = cc in
        let passes : bytes_eq name (get_or ds i d).name ≡ true = (position-Some (λ d. bytes_eq name d.name) ds i d place).1 in
        let text : bytes_eq name d.name ≡ true = ap (λ (x : Declared). bytes_eq name x.name) (sym (get_or_from_slice_get ds i d d is)) ∙ passes in
        (d, ap (λ (x : Symbol). slice_get ds x.number) (sym same) ∙ is, sym ((bytes_eq-Decides name d.name).0 text), ap (λ (x : Symbol). x.kind) same)

    by_place : (o : Option ℕ) → position (λ d. bytes_eq name d.name) ds ≡ o → at_place ds o ≡ Some s → (d : Declared) × (slice_get ds s.number ≡ Some d) × (d.name ≡ name) × (d.kind ≡ s.kind)
    by_place None place r = absurd cc
    by_place (Some i) place r = by_declared i (slice_get ds i) refl place r
