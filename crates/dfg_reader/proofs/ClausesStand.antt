-- What is read as a term, an atom, a literal or a clause is written so.
use Rattle.std.proofs.Common.{◌≡◌, ◌==◌, ℕ, zero, suc, ◌-◌, inl, inr, Bool, true, false, ◌||◌, List, [], ◌∷◌, ◌++◌, length, slice_get, Option, Some, None, option_map, Result, Ok, refl, sym, ap, subst, ◌∙◌}
use Rattle.std.proofs.lemmas.Bool.{eqb-true}
use Rattle.spl_terms.specs.declared.term.Symbol.{Symbol}
use Rattle.spl_terms.specs.declared.term.Term.{Term, App}
use Rattle.spl_terms.specs.declared.atom.Atom.{Atom}
use Rattle.spl_terms.specs.declared.atom.Atom.TheVariants.{Holds}
use Rattle.spl_symbols.specs.Symbols.{Declared, found}
use Rattle.dfg_tokens.specs.declared.word.Word.TheVariants as words
use Rattle.dfg_tokens.specs.declared.piece.Mark.TheVariants.{OpenParenthesis, CloseParenthesis, Comma, Dot}
use Rattle.dfg_tokens.specs.declared.token.Token.{Token}
use Rattle.dfg_tokens.specs.Tokens.{token_bytes}
use Rattle.dfg_reader.specs.declared.fault.ReadFault.{ReadFault}
use Rattle.dfg_reader.specs.declared.fault.FaultKind.TheVariants.{Unexpected, Undeclared, OutsideProfile}
use Rattle.dfg_reader.specs.declared.formula.Formula.{Formula, True, False, Not, Or}
use Rattle.dfg_reader.specs.declared.formula.Formula as formulas
use Rattle.dfg_reader.specs.declared.problem.Role.TheVariants as roles
use Rattle.dfg_reader.specs.declared.problem.Entry.{Entry}
use Rattle.dfg_reader.specs.declared.symbols.Found.{Found}
use Rattle.dfg_reader.specs.Reading.{◌>>=◌, place, tail, refuse, fault, next_mark, next_word, mark_at, word_at, identifier_at, name_at, spelled_at, adding, commas, listed}
use Rattle.dfg_reader.specs.Symbols.{with_arity, lookup}
use Rattle.dfg_reader.specs.Terms.{TermReader, fits_place, fitting, symbol_named, checked_arity, terms_at, arguments_at, application_at, term_at, atom_at}
use Rattle.dfg_reader.specs.Clauses.{unsigned_at, literal_at, literals_at, body_at, within_limits, label_at, clause_at, origin_at, form_at, clauses_head_at, is_refused_list, list_at}
use Rattle.dfg_reader.specs.Grammar.{Phrase, word, comma_separated, enclosed, arguments, IsSymbol, application, term, atom, unsigned, literal, body, label, clause, origin, clause_list}
use Rattle.dfg_reader.proofs.Kept.{bind_ok, chosen, ok_is, refused_not, fault_not}
use Rattle.dfg_reader.proofs.Stands.{spelled_is, deep_not}
use Rattle.dfg_reader.proofs.Names.{found_declared}
use Rattle.dfg_reader.proofs.InRow.{grown, lone, fold_lone}
use Rattle.dfg_reader.proofs.Stands.{next_mark_stands, mark_stands, next_word_stands, word_stands, identifier_stands, name_stands, separated_stand, listed_stand}

-- ---- symbols

fitting_stands : (in_term : Bool) (at : ℕ) (o : Option Found) (f : Found) → fitting in_term at o ≡ Ok f → (o ≡ Some f) × (fits_place in_term f.symbol.kind ≡ true)
fitting_stands in_term at None f e = absurd (fault_not at Undeclared f e)
fitting_stands in_term at (Some g) f e =
    elim (chosen (fits_place in_term g.symbol.kind) (Ok g) (fault at Undeclared) (Ok f) e) [
      | inl h ↦ subst (λ (x : Found). (Some g ≡ Some x) × (fits_place in_term x.symbol.kind ≡ true)) (ok_is g f h.1) (refl, h.0)
      | inr h ↦ absurd (fault_not at Undeclared f h.1)
    ]

abbrev IsDeclaredAs : List Declared → List ℕ → Found → Type 0
IsDeclaredAs symbols name f = slice_get symbols f.symbol.number ≡ Some (record { name = name; arity = f.arity; kind = f.symbol.kind })

declared_stands : (symbols : List Declared) (name : List ℕ) (f : Found) (o : Option Symbol) → found name symbols ≡ o → with_arity symbols o ≡ Some f → IsDeclaredAs symbols name f
declared_stands symbols name f None is e = absurd cc
declared_stands symbols name f (Some s) is e =
    let d = found_declared name symbols s is in
    let here : Some (record { symbol = s; arity = d.0.arity }) ≡ Some f = sym (ap (option_map {U = Found} (λ (x : Declared). record { symbol = s; arity = x.arity })) d.1) ∙ e in
    let same : record { symbol = s; arity = d.0.arity } ≡ f = cc in
    subst (IsDeclaredAs symbols name) same (d.1 ∙ λ i. Some (record { name = d.2 i; arity = d.0.arity; kind = d.3 i }))

module _ (bytes : List ℕ) (symbols : List Declared) where
  symbol_stands : (in_term : Bool) (t : Token) (f : Found) → symbol_named bytes symbols in_term t ≡ Ok f → IsSymbol symbols in_term f.symbol f.arity (token_bytes bytes t)
  unfolding symbol_named lookup
  symbol_stands in_term t f e =
      let a = bind_ok (spelled_at bytes t) (λ name. fitting in_term t.at (with_arity symbols (found name symbols))) f e in
      let fit = fitting_stands in_term t.at (with_arity symbols (found a.0 symbols)) f a.2 in
      (fit.1, subst (λ (name : List ℕ). IsDeclaredAs symbols name f) (sym (spelled_is bytes t a.0 a.1)) (declared_stands symbols a.0 f (found a.0 symbols) refl fit.0))

  counted_stands : (at : ℕ) (f : Found) (count : ℕ) → checked_arity at f count ≡ Ok tt → f.arity ≡ count
  unfolding checked_arity
  counted_stands at f count e =
      elim (chosen (f.arity == count) (Ok tt) _ (Ok tt) e) [
        | inl h ↦ eqb-true f.arity count h.0
        | inr h ↦ absurd (fault_not at _ tt h.1)
      ]

  -- ---- terms and atoms

  module _ {X : Type 0} (P : X → Phrase) (read : List Token → Result (X × List Token) ReadFault) (law : (ts : List Token) (y : X × List Token) → read ts ≡ Ok y → P y.0 ts y.1) where
    added_stands : (s : List X) (ts : List Token) (y : List X × List Token) → adding read s ts ≡ Ok y → (x : X) × (y.0 ≡ grown lone s x) × P x ts y.1
    added_stands s ts y e =
        let b = bind_ok (read ts) (λ x. Ok (s ++ x.0 ∷ [], x.1)) y e in
        let same = ok_is (s ++ b.0.0 ∷ [], b.0.1) y b.2 in
        (b.0.0, ap (λ (q : List X × List Token). q.0) (sym same), subst (λ (q : List X × List Token). P b.0.0 ts q.1) same (law ts b.0 b.1))

    values_stand : (k : ℕ) (ts : List Token) (y : List X × List Token) → commas (adding read) k [] ts ≡ Ok y → comma_separated P y.0 ts y.1
    values_stand k ts y e =
        let all = separated_stand P (grown lone) (adding read) added_stands k [] ts y e in
        subst (λ (xs : List X). comma_separated P xs ts y.1) (sym (all.1 ∙ fold_lone [] all.0)) all.2

  enclosed_arguments : (P : Term → Phrase) (args : List Term) (ts rest : List Token) → enclosed (comma_separated P args) ts rest → arguments P args ts rest
  enclosed_arguments P [] ts rest p = absurd p.2.1
  enclosed_arguments P (x ∷ xs) ts rest p = p

  module _ (P : Term → Phrase) (read : TermReader) (law : (ts : List Token) (y : Term × List Token) → read ts ≡ Ok y → P y.0 ts y.1) where
    arguments_stand : (ts : List Token) (y : List Term × List Token) → arguments_at read ts ≡ Ok y → arguments P y.0 ts y.1
    unfolding arguments_at
    arguments_stand ts y e =
        elim (chosen (next_mark OpenParenthesis ts) (terms_at read (tail ts) >>= λ x. mark_at CloseParenthesis x.1 >>= λ rest. Ok (x.0, rest)) (Ok ([], ts)) (Ok y) e) [
          | inl h ↦ (let a = bind_ok (terms_at read (tail ts)) (λ x. mark_at CloseParenthesis x.1 >>= λ rest. Ok (x.0, rest)) y h.1 in
              let b = bind_ok (mark_at CloseParenthesis a.0.1) (λ rest. Ok (a.0.0, rest)) y a.2 in
              subst (λ (q : List Term × List Token). arguments P q.0 ts q.1) (ok_is (a.0.0, b.0) y b.2)
              (enclosed_arguments P a.0.0 ts b.0 (tail ts, next_mark_stands OpenParenthesis ts h.0, (a.0.1, values_stand P read law (length (tail ts)) (tail ts) a.0 a.1, mark_stands CloseParenthesis a.0.1 b.0 b.1))))
          | inr h ↦ subst (λ (q : List Term × List Token). arguments P q.0 ts q.1) (ok_is ([], ts) y h.1) refl
        ]

    application_stands : (in_term : Bool) (ts : List Token) (y : Symbol × List Term × List Token) → application_at bytes symbols in_term read ts ≡ Ok y → application bytes symbols in_term P y.0 y.1 ts y.2
    unfolding application_at
    application_stands in_term ts y e =
        let b = bind_ok (name_at ts) (λ name. symbol_named bytes symbols in_term name.0 >>= λ f. arguments_at read name.1 >>= λ args. checked_arity name.0.at f (length args.0) >>= λ fine. Ok (f.symbol, args.0, args.1)) y e in
        let c = bind_ok (symbol_named bytes symbols in_term b.0.0) (λ f. arguments_at read b.0.1 >>= λ args. checked_arity b.0.0.at f (length args.0) >>= λ fine. Ok (f.symbol, args.0, args.1)) y b.2 in
        let g = bind_ok (arguments_at read b.0.1) (λ args. checked_arity b.0.0.at c.0 (length args.0) >>= λ fine. Ok (c.0.symbol, args.0, args.1)) y c.2 in
        let k = bind_ok (checked_arity b.0.0.at c.0 (length g.0.0)) (λ fine. Ok (c.0.symbol, g.0.0, g.0.1)) y g.2 in
        let name = name_stands ts b.0 b.1 in
        let is : IsSymbol symbols in_term c.0.symbol (length g.0.0) (token_bytes bytes b.0.0) = subst (λ (n : ℕ). IsSymbol symbols in_term c.0.symbol n (token_bytes bytes b.0.0)) (counted_stands b.0.0.at c.0 (length g.0.0) k.1) (symbol_stands in_term b.0.0 c.0 c.1) in
        subst (λ (q : Symbol × List Term × List Token). application bytes symbols in_term P q.0 q.1 ts q.2) (ok_is (c.0.symbol, g.0.0, g.0.1) y k.2)
        (b.0.1, (b.0.0, (token_bytes bytes b.0.0, is, (name.0, name.1, name.2, refl)), name.3), arguments_stand b.0.1 g.0 g.1)

  term_stands : (depth : ℕ) (ts : List Token) (y : Term × List Token) → term_at bytes symbols depth ts ≡ Ok y → term bytes symbols depth y.0 ts y.1
  unfolding term_at term
  term_stands zero ts y e = absurd (deep_not ts y e)
  term_stands (suc depth) ts y e =
      let a = bind_ok (application_at bytes symbols true (term_at bytes symbols depth) ts) (λ x. Ok (App x.0 x.1, x.2)) y e in
      let same = ok_is (App a.0.0 a.0.1, a.0.2) y a.2 in
      (a.0.0, a.0.1, ap (λ (q : Term × List Token). q.0) (sym same), subst (λ (q : Term × List Token). application bytes symbols true (term bytes symbols depth) a.0.0 a.0.1 ts q.1) same (application_stands (term bytes symbols depth) (term_at bytes symbols depth) (term_stands depth) true ts a.0 a.1))

  atom_stands : (depth : ℕ) (ts : List Token) (y : Atom × List Token) → atom_at bytes symbols (depth - 1) ts ≡ Ok y → atom bytes symbols depth y.0 ts y.1
  unfolding atom_at
  atom_stands depth ts y e =
      let a = bind_ok (application_at bytes symbols false (term_at bytes symbols (depth - 1)) ts) (λ x. Ok (Holds x.0 x.1, x.2)) y e in
      let same = ok_is (Holds a.0.0 a.0.1, a.0.2) y a.2 in
      (a.0.0, a.0.1, ap (λ (q : Atom × List Token). q.0) (sym same), subst (λ (q : Atom × List Token). application bytes symbols false (term bytes symbols (depth - 1)) a.0.0 a.0.1 ts q.1) same (application_stands (term bytes symbols (depth - 1)) (term_at bytes symbols (depth - 1)) (term_stands (depth - 1)) false ts a.0 a.1))

  -- ---- literals

  abbrev Stands : (Formula → Phrase) → List Token → Formula × List Token → Type 0
  Stands P ts q = P q.0 ts q.1

  unsigned_stands : (depth : ℕ) (ts : List Token) (y : Formula × List Token) → unsigned_at bytes symbols (depth - 1) ts ≡ Ok y → unsigned bytes symbols depth y.0 ts y.1
  unfolding unsigned_at
  unsigned_stands depth ts y e =
      elim (chosen (next_word words.True ts) (Ok (True, tail ts)) _ (Ok y) e) [
        | inl h ↦ subst (Stands (unsigned bytes symbols depth) ts) (ok_is (True, tail ts) y h.1) (inl (refl, next_word_stands words.True ts h.0))
        | inr h ↦ elim (chosen (next_word words.False ts) (Ok (False, tail ts)) _ (Ok y) h.1) [
          | inl f ↦ subst (Stands (unsigned bytes symbols depth) ts) (ok_is (False, tail ts) y f.1) (inr (inl (refl, next_word_stands words.False ts f.0)))
          | inr f ↦ elim (chosen (next_word words.Equal ts) (refuse OutsideProfile ts) _ (Ok y) f.1) [
            | inl g ↦ absurd (refused_not OutsideProfile ts y g.1)
            | inr g ↦ (let a = bind_ok (atom_at bytes symbols (depth - 1) ts) (λ x. Ok (formulas.Atom x.0, x.1)) y g.1 in
                subst (Stands (unsigned bytes symbols depth) ts) (ok_is (formulas.Atom a.0.0, a.0.1) y a.2) (inr (inr (a.0.0, refl, atom_stands depth ts a.0 a.1))))
          ]
        ]
      ]

  literal_stands : (depth : ℕ) (ts : List Token) (y : Formula × List Token) → literal_at bytes symbols (depth - 1) ts ≡ Ok y → literal bytes symbols depth y.0 ts y.1
  unfolding literal_at
  literal_stands depth ts y e =
      elim (chosen (next_word words.Not ts) (mark_at OpenParenthesis (tail ts) >>= λ inner. unsigned_at bytes symbols ((depth - 1) - 1) inner >>= λ x. mark_at CloseParenthesis x.1 >>= λ rest. Ok (Not x.0, rest)) (unsigned_at bytes symbols (depth - 1) ts) (Ok y) e) [
        | inl h ↦ (let a = bind_ok (mark_at OpenParenthesis (tail ts)) (λ inner. unsigned_at bytes symbols ((depth - 1) - 1) inner >>= λ x. mark_at CloseParenthesis x.1 >>= λ rest. Ok (Not x.0, rest)) y h.1 in
            let b = bind_ok (unsigned_at bytes symbols ((depth - 1) - 1) a.0) (λ x. mark_at CloseParenthesis x.1 >>= λ rest. Ok (Not x.0, rest)) y a.2 in
            let g = bind_ok (mark_at CloseParenthesis b.0.1) (λ rest. Ok (Not b.0.0, rest)) y b.2 in
            subst (Stands (literal bytes symbols depth) ts) (ok_is (Not b.0.0, g.0) y g.2)
            (inr (b.0.0, refl, (tail ts, next_word_stands words.Not ts h.0, (a.0, mark_stands OpenParenthesis (tail ts) a.0 a.1, (b.0.1, unsigned_stands (depth - 1) a.0 b.0 b.1, mark_stands CloseParenthesis b.0.1 g.0 g.1))))))
        | inr h ↦ inl (unsigned_stands depth ts y h.1)
      ]

  body_stands : (ts : List Token) (y : Formula × List Token) → body_at bytes symbols ts ≡ Ok y → body bytes symbols y.0 ts y.1
  unfolding body_at
  body_stands ts y e =
      elim (chosen (next_word words.Forall ts) (refuse OutsideProfile ts) _ (Ok y) e) [
        | inl c ↦ absurd (refused_not OutsideProfile ts y c.1)
        | inr c ↦ elim (chosen (next_word words.Or ts) (mark_at OpenParenthesis (tail ts) >>= λ inner. literals_at bytes symbols 998 inner >>= λ x. mark_at CloseParenthesis x.1 >>= λ rest. Ok (Or x.0, rest)) (literal_at bytes symbols 999 ts) (Ok y) c.1) [
          | inl h ↦ (let a = bind_ok (mark_at OpenParenthesis (tail ts)) (λ inner. literals_at bytes symbols 998 inner >>= λ x. mark_at CloseParenthesis x.1 >>= λ rest. Ok (Or x.0, rest)) y h.1 in
              let b = bind_ok (literals_at bytes symbols 998 a.0) (λ x. mark_at CloseParenthesis x.1 >>= λ rest. Ok (Or x.0, rest)) y a.2 in
              let g = bind_ok (mark_at CloseParenthesis b.0.1) (λ rest. Ok (Or b.0.0, rest)) y b.2 in
              subst (Stands (body bytes symbols) ts) (ok_is (Or b.0.0, g.0) y g.2)
              (inr (b.0.0, refl, (tail ts, next_word_stands words.Or ts h.0, (a.0, mark_stands OpenParenthesis (tail ts) a.0 a.1, (b.0.1, values_stand (literal bytes symbols 999) (literal_at bytes symbols 998) (literal_stands 999) (length a.0) a.0 b.0 b.1, mark_stands CloseParenthesis b.0.1 g.0 g.1))))))
          | inr h ↦ inl (literal_stands 1000 ts y h.1)
        ]
      ]

  -- ---- clauses

  label_stands : (ts rest : List Token) → label_at ts ≡ Ok rest → label ts rest
  unfolding label_at
  label_stands ts rest e =
      elim (chosen (next_mark Comma ts) (identifier_at (tail ts) >>= λ x. Ok x.1) (Ok ts) (Ok rest) e) [
        | inl h ↦ (let a = bind_ok (identifier_at (tail ts)) (λ x. Ok x.1) rest h.1 in
            let name = identifier_stands (tail ts) a.0 a.1 in
            subst (label ts) (ok_is a.0.1 rest a.2) (inr (tail ts, next_mark_stands Comma ts h.0, (a.0.0, (name.0, name.1), name.2))))
        | inr h ↦ inl (ok_is ts rest h.1)
      ]

  abbrev ClauseStands : List Entry → List Token → List Entry × List Token → Type 0
  ClauseStands entries ts q = (e : Entry) × (q.0 ≡ grown lone entries e) × clause bytes symbols e ts q.1

  clause_stands : (entries : List Entry) (ts : List Token) (y : List Entry × List Token) → clause_at bytes symbols entries ts ≡ Ok y → ClauseStands entries ts y
  unfolding clause_at
  clause_stands entries ts y e =
      let a = bind_ok (word_at words.Clause ts) _ y e in
      let b = bind_ok (mark_at OpenParenthesis a.0) _ y a.2 in
      let c = bind_ok (body_at bytes symbols b.0) _ y b.2 in
      let d = bind_ok (within_limits entries (place ts) c.0.0) _ y c.2 in
      let f = bind_ok (label_at c.0.1) _ y d.2 in
      let g = bind_ok (mark_at CloseParenthesis f.0) _ y f.2 in
      let k = bind_ok (mark_at Dot g.0) _ y g.2 in
      let entry : Entry = record { role = roles.Clause; formula = c.0.0; at = place ts } in
      subst (ClauseStands entries ts) (ok_is (entries ++ entry ∷ [], k.0) y k.2)
      (entry, refl, (refl, refl, (a.0, word_stands words.Clause ts a.0 a.1, (g.0, (b.0, mark_stands OpenParenthesis a.0 b.0 b.1, (f.0, (c.0.1, body_stands b.0 c.0 c.1, label_stands c.0.1 f.0 f.1), mark_stands CloseParenthesis f.0 g.0 g.1)), mark_stands Dot g.0 k.0 k.1))))

  -- ---- lists

  origin_stands : (ts rest : List Token) → origin_at ts ≡ Ok rest → origin ts rest
  unfolding origin_at
  origin_stands ts rest e =
      elim (chosen (next_word words.Axioms ts || next_word words.Conjectures ts) (Ok (tail ts)) (refuse Unexpected ts) (Ok rest) e) [
        | inl h ↦ subst (origin ts) (ok_is (tail ts) rest h.1) (by_word (next_word words.Axioms ts) refl h.0)
        | inr h ↦ absurd (refused_not Unexpected ts rest h.1)
      ]
    where
      by_word : (b : Bool) → next_word words.Axioms ts ≡ b → (b || next_word words.Conjectures ts) ≡ true → origin ts (tail ts)
      by_word true is p = inl (next_word_stands words.Axioms ts is)
      by_word false is p = inr (next_word_stands words.Conjectures ts p)

  form_stands : (ts rest : List Token) → form_at ts ≡ Ok rest → word words.Cnf ts rest
  unfolding form_at
  form_stands ts rest e =
      elim (chosen (next_word words.Dnf ts) (refuse OutsideProfile ts) (word_at words.Cnf ts) (Ok rest) e) [
        | inl h ↦ absurd (refused_not OutsideProfile ts rest h.1)
        | inr h ↦ word_stands words.Cnf ts rest h.1
      ]

  abbrev ListStands : List Entry → List Token → List Entry × List Token → Type 0
  ListStands entries ts q = (g : List Entry) × (q.0 ≡ entries ++ g) × clause_list bytes symbols g ts q.1

  pub list_stands : (entries : List Entry) (ts : List Token) (y : List Entry × List Token) → list_at bytes symbols entries ts ≡ Ok y → ListStands entries ts y
  unfolding list_at clauses_head_at
  list_stands entries ts y e =
      elim (chosen (is_refused_list ts) (refuse OutsideProfile ts) _ (Ok y) e) [
        | inl h ↦ absurd (refused_not OutsideProfile ts y h.1)
        | inr h ↦ (let head = bind_ok (clauses_head_at ts) (λ rest. listed (clause_at bytes symbols) entries rest) y h.1 in
            let a = bind_ok (word_at words.ListOfClauses ts) _ head.0 head.1 in
            let b = bind_ok (mark_at OpenParenthesis a.0) _ head.0 a.2 in
            let c = bind_ok (origin_at b.0) _ head.0 b.2 in
            let d = bind_ok (mark_at Comma c.0) _ head.0 c.2 in
            let f = bind_ok (form_at d.0) _ head.0 d.2 in
            let g = bind_ok (mark_at CloseParenthesis f.0) _ head.0 f.2 in
            let all = listed_stand (clause bytes symbols) (grown lone) (clause_at bytes symbols) clause_stands entries head.0 y head.2 in
            (all.0, all.1 ∙ fold_lone entries all.0, (a.0, word_stands words.ListOfClauses ts a.0 a.1, (g.0, (b.0, mark_stands OpenParenthesis a.0 b.0 b.1, (f.0, (c.0, origin_stands b.0 c.0 c.1, (d.0, mark_stands Comma c.0 d.0 d.1, form_stands d.0 f.0 f.1)), mark_stands CloseParenthesis f.0 g.0 g.1)), (head.0, mark_stands Dot g.0 head.0 g.2, all.2)))))
      ]
