-- Laws with their proofs, not definitions that a reader must believe: symbols are read as they are written.
use Rattle.std.proofs.Common.{◌≡◌, eq-eqb, ℕ, zero, suc, ◌<◌, inl, inr, true, not, ◌==◌, List, [], ◌∷◌, length, slice_get, Option, Some, None, option_map, Ok, refl, sym, ap, subst, ◌∙◌, arith}
use Rattle.std.proofs.lemmas.Bool.{and_parts, eqb-true}
use Rattle.std.proofs.lemmas.Bool.Decides.{nat_tests}
use Rattle.std.proofs.lemmas.Str.{IsUtf8-from_ascii, is_utf8-from_IsUtf8}
use Rattle.std.specs.List.{list_all}
use Rattle.std.specs.Str.{IsAscii, is_utf8}
use Rattle.spl_terms.specs.declared.term.Symbol.{Symbol}
use Rattle.spl_symbols.specs.Symbols.{Declared, found, HasOwnNames, AreNamed}
use Rattle.dfg_tokens.specs.declared.token.Token.{Token}
use Rattle.dfg_tokens.specs.Names.{is_identifier, is_reserved_word, is_name}
use Rattle.dfg_tokens.specs.Tokens.{is_letter, token_bytes, AreLetters}
use Rattle.dfg_terms.specs.declared.fault.FaultKind.{FaultKind}
use Rattle.dfg_terms.specs.declared.fault.FaultKind.TheVariants.{Undeclared}
use Rattle.dfg_terms.specs.declared.symbols.Found.{Found}
use Rattle.dfg_terms.specs.declared.symbols.Place.{Place}
use Rattle.dfg_terms.specs.Reading.{bytes_of, spelled_at}
use Rattle.dfg_terms.specs.Symbols.{with_arity, lookup, misfit, unless, fitting, symbol_named, checked_arity}
use Rattle.dfg_terms.specs.Grammar.{IsSymbol}
use Rattle.dfg_terms.specs.ResultLaws.{bind_ok, chosen, ok_is, fault_not, then_ok, when_true}
use Rattle.dfg_terms.specs.StandLaws.{spelled_is}
use Rattle.dfg_terms.specs.LookupLaws.{found_declared}

-- ---- names

letter_small : (b : ℕ) → is_letter b ≡ true → b < 128
letter_small b e = grind (arith, nat_tests)

letters_ascii : (text : List ℕ) → AreLetters text → IsAscii text
letters_ascii [] all i = omega arith
letters_ascii (b ∷ text) all zero = letter_small b (and_parts (is_letter b) (list_all is_letter text) all).0
letters_ascii (b ∷ text) all (suc i) = letters_ascii text (and_parts (is_letter b) (list_all is_letter text) all).1 i

-- a name is of letters, digits and `_`
name_letters : (name : List ℕ) → is_name name ≡ true → AreLetters name
name_letters name e =
    let identifier = (and_parts (is_identifier name) (not (is_reserved_word name)) e).0 in
    (and_parts (not (length name == 0)) (list_all is_letter name) identifier).1

-- and so it is text
spelled_read : (bytes : List ℕ) (t : Token) (name : List ℕ) → token_bytes bytes t ≡ name → AreLetters name → spelled_at bytes t ≡ Ok name
unfolding spelled_at bytes_of
spelled_read bytes t name is letters =
    let utf8 : is_utf8 name ≡ true = is_utf8-from_IsUtf8 name (IsUtf8-from_ascii name (letters_ascii name letters)) in
    when_true _ _ _ _ (ap is_utf8 is ∙ utf8) (ap (λ text. Ok text) is)

pub named_at_number : (ds : List Declared) (i : ℕ) (d : Declared) → AreNamed ds → slice_get ds i ≡ Some d → is_name d.name ≡ true
named_at_number [] i d all e = absurd cc
named_at_number (x ∷ ds) zero d all e = let same : x ≡ d = cc in subst (λ (y : Declared). is_name y.name ≡ true) same (and_parts (is_name x.name) (list_all (λ (y : Declared). is_name y.name) ds) all).0
named_at_number (x ∷ ds) (suc i) d all e = named_at_number ds i d (and_parts (is_name x.name) (list_all (λ (y : Declared). is_name y.name) ds) all).1 e

-- ---- what is read is declared so

unless_is : (o : Option FaultKind) (at : ℕ) (f g : Found) → unless o at f ≡ Ok g → (o ≡ None) × (f ≡ g)
unless_is None at f g e = (refl, ok_is f g e)
unless_is (Some k) at f g e = absurd (fault_not at k g e)

fitting_stands : (place : Place) (at : ℕ) (o : Option Found) (f : Found) → fitting place at o ≡ Ok f → (o ≡ Some f) × (misfit place f.symbol.kind ≡ None)
fitting_stands place at None f e = absurd (fault_not at Undeclared f e)
fitting_stands place at (Some g) f e =
    let u = unless_is (misfit place g.symbol.kind) at g f e in
    subst (λ (x : Found). (Some g ≡ Some x) × (misfit place x.symbol.kind ≡ None)) u.1 (refl, u.0)

-- the symbol has this name, with its number of arguments
abbrev pub IsDeclaredAs : List Declared → List ℕ → Found → Type 0
IsDeclaredAs symbols name f = slice_get symbols f.symbol.number ≡ Some (record { name = name; arity = f.arity; kind = f.symbol.kind })

declared_stands : (symbols : List Declared) (name : List ℕ) (f : Found) (o : Option Symbol) → found name symbols ≡ o → with_arity symbols o ≡ Some f → IsDeclaredAs symbols name f
declared_stands symbols name f None is e = absurd cc
declared_stands symbols name f (Some s) is e =
    let d = found_declared name symbols s is in
    let here : Some (record { symbol = s; arity = d.0.arity }) ≡ Some f = sym (ap (option_map {U = Found} (λ (x : Declared). record { symbol = s; arity = x.arity })) d.1) ∙ e in
    let same : record { symbol = s; arity = d.0.arity } ≡ f = cc in
    subst (IsDeclaredAs symbols name) same (d.1 ∙ λ i. Some (record { name = d.2 i; arity = d.0.arity; kind = d.3 i }))

pub lookup_stands : (symbols : List Declared) (name : List ℕ) (f : Found) → lookup name symbols ≡ Some f → IsDeclaredAs symbols name f
unfolding lookup
lookup_stands symbols name f e = declared_stands symbols name f (found name symbols) refl e

pub symbol_stands : (bytes : List ℕ) (symbols : List Declared) (place : Place) (t : Token) (f : Found) → symbol_named bytes symbols place t ≡ Ok f → IsSymbol symbols place f.symbol f.arity (token_bytes bytes t)
unfolding symbol_named lookup
symbol_stands bytes symbols place t f e =
    let a = bind_ok (spelled_at bytes t) (λ name. fitting place t.at (with_arity symbols (found name symbols))) f e in
    let fit = fitting_stands place t.at (with_arity symbols (found a.0 symbols)) f a.2 in
    (fit.1, subst (λ (name : List ℕ). IsDeclaredAs symbols name f) (sym (spelled_is bytes t a.0 a.1)) (declared_stands symbols a.0 f (found a.0 symbols) refl fit.0))

pub counted_stands : (at : ℕ) (f : Found) (count : ℕ) → checked_arity at f count ≡ Ok tt → f.arity ≡ count
unfolding checked_arity
counted_stands at f count e =
    elim (chosen (f.arity == count) (Ok tt) _ (Ok tt) e) [
      | inl h ↦ eqb-true f.arity count h.0
      | inr h ↦ absurd (fault_not at _ tt h.1)
    ]

-- ---- what is declared is read

pub lookup_read : (symbols : List Declared) → HasOwnNames symbols → (name : List ℕ) (f : Found) → IsDeclaredAs symbols name f → lookup name symbols ≡ Some f
unfolding lookup
lookup_read symbols own name f is =
    let d : Declared = record { name = name; arity = f.arity; kind = f.symbol.kind } in
    ap (with_arity symbols) (own f.symbol.number d is) ∙ ap (option_map {U = Found} (λ (x : Declared). record { symbol = f.symbol; arity = x.arity })) is

pub declared_spelled : (bytes : List ℕ) (symbols : List Declared) → AreNamed symbols → (name : List ℕ) (f : Found) (t : Token) → IsDeclaredAs symbols name f → token_bytes bytes t ≡ name → spelled_at bytes t ≡ Ok name
declared_spelled bytes symbols named name f t is text =
    spelled_read bytes t name text (name_letters name (named_at_number symbols f.symbol.number (record { name = name; arity = f.arity; kind = f.symbol.kind }) named is))

pub symbol_read : (bytes : List ℕ) (symbols : List Declared) → HasOwnNames symbols → AreNamed symbols → (place : Place) (s : Symbol) (count : ℕ) (name : List ℕ) (t : Token) → IsSymbol symbols place s count name → token_bytes bytes t ≡ name → symbol_named bytes symbols place t ≡ Ok (record { symbol = s; arity = count })
unfolding symbol_named
symbol_read bytes symbols own named place s count name t is text =
    let f : Found = record { symbol = s; arity = count } in
    then_ok _ _ _ _ (declared_spelled bytes symbols named name f t is.1 text)
    (ap (fitting place t.at) (lookup_read symbols own name f is.1) ∙ ap (λ o. unless o t.at f) is.0)

pub counted_read : (at : ℕ) (s : Symbol) (count : ℕ) → checked_arity at (record { symbol = s; arity = count }) count ≡ Ok tt
unfolding checked_arity
counted_read at s count = when_true _ _ _ _ (eq-eqb count count refl) refl
