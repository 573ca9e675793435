-- A term that is written is read, and so are an atom and a literal.
use Rattle.std.proofs.Common.{◌≡◌, eq-eqb, ℕ, zero, suc, ◌-◌, ◌≤◌, ◌<◌, Bool, true, false, not, ◌==◌, List, [], ◌∷◌, length, slice_get, Some, option_map, Result, Ok, refl, sym, ap, subst, ◌∙◌, arith}
use Rattle.std.proofs.lemmas.Bool.{and_parts}
use Rattle.std.proofs.lemmas.Bool.Decides.{nat_tests}
use Rattle.std.proofs.lemmas.Str.{IsUtf8-from_ascii, is_utf8-from_IsUtf8}
use Rattle.std.specs.List.{list_all, AllByRecursion}
use Rattle.std.specs.Str.{IsAscii, is_utf8}
use Rattle.spl_terms.specs.declared.term.Symbol.{Symbol}
use Rattle.spl_terms.specs.declared.term.Term.{Term}
use Rattle.spl_terms.specs.declared.atom.Atom.{Atom}
use Rattle.spl_symbols.specs.Symbols.{Declared, found}
use Rattle.dfg_tokens.specs.declared.piece.Mark.TheVariants.{OpenParenthesis, CloseParenthesis, Comma}
use Rattle.dfg_tokens.specs.declared.token.Token.{Token}
use Rattle.dfg_tokens.specs.Names.{is_identifier, is_reserved_word, is_name}
use Rattle.dfg_tokens.specs.Tokens.{is_letter, token_bytes, AreLetters}
use Rattle.dfg_reader.specs.declared.fault.ReadFault.{ReadFault}
use Rattle.dfg_reader.specs.declared.symbols.Found.{Found}
use Rattle.dfg_reader.specs.Reading.{next_mark, bytes_of, spelled_at, adding, commas}
use Rattle.dfg_reader.specs.Symbols.{with_arity, lookup}
use Rattle.dfg_reader.specs.Terms.{TermReader, fitting, symbol_named, checked_arity, terms_at, arguments_at, application_at, term_at, atom_at}
use Rattle.dfg_reader.specs.Grammar.{Phrase, mark, comma_separated, arguments, IsSymbol, application, term, atom, IsSignature}
use Rattle.dfg_reader.proofs.Steps.{then_ok, when_true, when_false, token_tail, mark_next, other_mark, mark_read, name_read}
use Rattle.dfg_reader.proofs.Fronts.{Takes, term_takes}
use Rattle.dfg_reader.proofs.InRow.{Ends, separated_read, grown, lone, fold_lone, Anything}

-- ---- names

letter_small : (b : ℕ) → is_letter b ≡ true → b < 128
letter_small b e = grind (arith, nat_tests)

letters_ascii : (text : List ℕ) → AreLetters text → IsAscii text
letters_ascii [] all i = omega arith
letters_ascii (b ∷ text) all zero = letter_small b (and_parts (is_letter b) (list_all is_letter text) all).0
letters_ascii (b ∷ text) all (suc i) = letters_ascii text (and_parts (is_letter b) (list_all is_letter text) all).1 i

-- a name is of letters, digits and `_`
pub name_letters : (name : List ℕ) → is_name name ≡ true → AreLetters name
name_letters name e =
    let identifier = (and_parts (is_identifier name) (not (is_reserved_word name)) e).0 in
    (and_parts (not (length name == 0)) (list_all is_letter name) identifier).1

-- and so it is text
pub spelled_read : (bytes : List ℕ) (t : Token) (name : List ℕ) → token_bytes bytes t ≡ name → AreLetters name → spelled_at bytes t ≡ Ok name
unfolding spelled_at bytes_of
spelled_read bytes t name is letters =
    let utf8 : is_utf8 name ≡ true = is_utf8-from_IsUtf8 name (IsUtf8-from_ascii name (letters_ascii name letters)) in
    when_true _ _ _ _ (ap is_utf8 is ∙ utf8) (ap (λ text. Ok text) is)

pub all_at : {X : Type 0} (P : X → Type 0) (xs : List X) (i : ℕ) (x : X) → AllByRecursion P xs → slice_get xs i ≡ Some x → P x
all_at P [] i x all e = absurd cc
all_at P (y ∷ xs) zero x all e = let same : y ≡ x = cc in subst P same all.0
all_at P (y ∷ xs) (suc i) x all e = all_at P xs i x all.1 e

-- ---- values with commas between them

pub values_read : {X : Type 0} (P : X → Phrase) (read : List Token → Result (X × List Token) ReadFault) → ((x : X) (ts rest : List Token) → P x ts rest → next_mark OpenParenthesis rest ≡ false → read ts ≡ Ok (x, rest)) → ((x : X) → Takes (P x))
    → (xs : List X) (ts rest : List Token) → comma_separated P xs ts rest → Ends rest → commas (adding read) (length ts) [] ts ≡ Ok (xs, rest)
values_read {X} P read law takes xs ts rest p ends =
    separated_read P (grown lone) Anything (adding read) (λ s ys fits. tt) takes (λ s x us after fits q apart. then_ok _ _ _ _ (law x us after q apart) refl) xs [] ts rest tt p ends
    ∙ ap (λ ys. Ok (ys, rest)) (fold_lone [] xs)

-- a closing parenthesis ends a value
pub closing_ends : (ts rest : List Token) → mark CloseParenthesis ts rest → Ends ts
closing_ends ts rest p = (other_mark Comma CloseParenthesis ts rest p refl, other_mark OpenParenthesis CloseParenthesis ts rest p refl)

-- ---- terms and atoms

module _ (bytes : List ℕ) (symbols : List Declared) (sig : IsSignature symbols) where
  symbol_read : (in_term : Bool) (s : Symbol) (count : ℕ) (name : List ℕ) (t : Token) → IsSymbol symbols in_term s count name → token_bytes bytes t ≡ name → symbol_named bytes symbols in_term t ≡ Ok (record { symbol = s; arity = count })
  unfolding symbol_named lookup
  symbol_read in_term s count name t is text =
      let d : Declared = record { name = name; arity = count; kind = s.kind } in
      let letters : AreLetters name = name_letters name (all_at (λ (x : Declared). (x.arity ≤ 255) × (is_name x.name ≡ true)) symbols s.number d sig.2 is.1).1 in
      let looked : with_arity symbols (found name symbols) ≡ Some (record { symbol = s; arity = count }) = ap (with_arity symbols) (sig.0 s.number d is.1) ∙ ap (option_map {U = Found} (λ (x : Declared). record { symbol = s; arity = x.arity })) is.1 in
      then_ok _ _ _ _ (spelled_read bytes t name text letters) (ap (fitting in_term t.at) looked ∙ when_true _ _ _ _ is.0 refl)

  counted_read : (at : ℕ) (s : Symbol) (count : ℕ) → checked_arity at (record { symbol = s; arity = count }) count ≡ Ok tt
  unfolding checked_arity
  counted_read at s count = when_true _ _ _ _ (eq-eqb count count refl) refl

  module _ (P : Term → Phrase) (read : TermReader) (law : (t : Term) (ts rest : List Token) → P t ts rest → next_mark OpenParenthesis rest ≡ false → read ts ≡ Ok (t, rest)) (takes : (t : Term) → Takes (P t)) where
    arguments_read : (args : List Term) (ts rest : List Token) → arguments P args ts rest → next_mark OpenParenthesis rest ≡ false → arguments_at read ts ≡ Ok (args, rest)
    unfolding arguments_at
    arguments_read [] ts rest p apart = when_false _ _ _ _ (ap (next_mark OpenParenthesis) p ∙ apart) (ap (λ us. Ok ([], us)) p)
    arguments_read (x ∷ xs) ts rest p apart =
        let inner = p.2 in
        when_true _ _ _ _ (mark_next OpenParenthesis ts p.0 p.1)
        (then_ok _ _ _ _ (ap (terms_at read) (token_tail _ ts p.0 p.1) ∙ values_read P read law takes (x ∷ xs) p.0 inner.0 inner.1 (closing_ends inner.0 rest inner.2))
        (then_ok _ _ _ _ (mark_read CloseParenthesis inner.0 rest inner.2) refl))

    application_read : (in_term : Bool) (s : Symbol) (args : List Term) (ts rest : List Token) → application bytes symbols in_term P s args ts rest → next_mark OpenParenthesis rest ≡ false → application_at bytes symbols in_term read ts ≡ Ok (s, args, rest)
    unfolding application_at
    application_read in_term s args ts rest p apart =
        let t = p.1.0 in
        let named = p.1.1 in
        let name = named.2 in
        then_ok _ _ _ _ (name_read name.0 t ts p.0 name.1 name.2 p.1.2)
        (then_ok _ _ _ _ (symbol_read in_term s (length args) named.0 t named.1 name.3)
        (then_ok _ _ _ _ (arguments_read args p.0 rest p.2 apart)
        (then_ok _ _ _ _ (counted_read t.at s (length args)) refl)))

  pub term_read : (depth : ℕ) (t : Term) (ts rest : List Token) → term bytes symbols depth t ts rest → next_mark OpenParenthesis rest ≡ false → term_at bytes symbols depth ts ≡ Ok (t, rest)
  unfolding term term_at
  term_read zero t ts rest p apart = absurd p
  term_read (suc depth) t ts rest p apart =
      then_ok _ _ _ _ (application_read (term bytes symbols depth) (term_at bytes symbols depth) (term_read depth) (term_takes bytes symbols depth) true p.0 p.1 ts rest p.3 apart)
      (ap (λ u. Ok (u, rest)) (sym p.2))

  pub atom_read : (depth : ℕ) (a : Atom) (ts rest : List Token) → atom bytes symbols depth a ts rest → next_mark OpenParenthesis rest ≡ false → atom_at bytes symbols (depth - 1) ts ≡ Ok (a, rest)
  unfolding atom_at
  atom_read depth a ts rest p apart =
      then_ok _ _ _ _ (application_read (term bytes symbols (depth - 1)) (term_at bytes symbols (depth - 1)) (term_read (depth - 1)) (term_takes bytes symbols (depth - 1)) false p.0 p.1 ts rest p.3 apart)
      (ap (λ b. Ok (b, rest)) (sym p.2))
