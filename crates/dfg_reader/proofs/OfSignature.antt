-- The symbols of what is written are those of the signature.
use Rattle.std.proofs.Common.{◌≡◌, ◌==◌, eq-eqb, ℕ, zero, suc, ◌-◌, inl, inr, Bool, true, false, ◌&&◌, List, [], ◌∷◌, length, slice_get, Result, Ok, Err, IfOk, refl, sym, ap, ◌∙◌}
use Rattle.std.proofs.lemmas.Bool.{and_from}
use Rattle.std.proofs.lemmas.List.{length-map}
use Rattle.std.proofs.lemmas.List.Folds.{list_all-map}
use Rattle.std.specs.List.{list_all, AllByRecursion}
use Rattle.spl_terms.specs.declared.term.Kind.{Kind}
use Rattle.spl_terms.specs.declared.term.Kind.TheVariants.{Function, Predicate, Sort}
use Rattle.spl_terms.specs.declared.term.Symbol.{Symbol}
use Rattle.spl_terms.specs.declared.term.Term.{Term, App}
use Rattle.spl_terms.specs.declared.atom.Atom.{Atom}
use Rattle.spl_terms.specs.Terms.{kind_eq}
use Rattle.spl_terms.specs.TermLaws.{fold-App}
use Rattle.spl_symbols.specs.Symbols.{Declared}
use Rattle.dfg_tokens.specs.declared.token.Token.{Token}
use Rattle.dfg_reader.specs.declared.fault.InputError.{InputError}
use Rattle.dfg_reader.specs.declared.formula.Formula.{Formula}
use Rattle.dfg_reader.specs.declared.formula.Formula.TheOpen as layer
use Rattle.dfg_reader.specs.declared.formula.Formula.TheViews.{rolls-True, rolls-False, rolls-Atom, rolls-Not, rolls-Or}
use Rattle.dfg_reader.specs.declared.formula.Formula.TheFolds.{fold-roll-Formula}
use Rattle.dfg_reader.specs.declared.problem.Entry.{Entry}
use Rattle.dfg_reader.specs.declared.problem.Problem.{Problem}
use Rattle.dfg_reader.specs.Terms.{fits_place}
use Rattle.dfg_reader.specs.OfSignature.{declares, is_declared, term_of_step, is_term_of, is_atom_of, formula_of_step, is_formula_of, AreOfSignature}
use Rattle.dfg_reader.proofs.Phrases.{arguments_hold, separated_hold, entries_hold}
use Rattle.dfg_reader.specs.Grammar.{Phrase, IsSymbol, application, term, atom, unsigned, literal, body, clause, IsWritten}

same_kind : (k : Kind) → kind_eq k k ≡ true
same_kind Function = refl
same_kind Predicate = refl
same_kind Sort = refl

all_pass : {X : Type 0} (test : X → Bool) (xs : List X) → AllByRecursion (λ x. test x ≡ true) xs → list_all test xs ≡ true
all_pass test [] all = refl
all_pass test (x ∷ xs) all = and_from (test x) (list_all test xs) all.0 (all_pass test xs all.1)

module _ (bytes : List ℕ) (symbols : List Declared) where
  -- ---- terms and atoms

  symbol_declared : (in_term : Bool) (s : Symbol) (count : ℕ) (name : List ℕ) → IsSymbol symbols in_term s count name → is_declared symbols in_term s count ≡ true
  symbol_declared in_term s count name is =
      and_from (fits_place in_term s.kind) (declares (slice_get symbols s.number) s.kind count) is.0
      (ap (λ o. declares o s.kind count) is.1 ∙ and_from (kind_eq s.kind s.kind) (count == count) (same_kind s.kind) (eq-eqb count count refl))

  application_of : (in_term : Bool) (P : Term → Phrase) → ((t : Term) (ts rest : List Token) → P t ts rest → is_term_of symbols t ≡ true)
      → (s : Symbol) (args : List Term) (ts rest : List Token) → application bytes symbols in_term P s args ts rest → (is_declared symbols in_term s (length args) && list_all (is_term_of symbols) args) ≡ true
  application_of in_term P law s args ts rest p =
      let named = p.1.1 in
      and_from (is_declared symbols in_term s (length args)) (list_all (is_term_of symbols) args) (symbol_declared in_term s (length args) named.0 named.1) (all_pass (is_term_of symbols) args (arguments_hold P (λ t. is_term_of symbols t ≡ true) law args p.0 rest p.2))

  applied : (f : Symbol) (args : List Term) → (is_declared symbols true f (length args) && list_all (is_term_of symbols) args) ≡ true → is_term_of symbols (App f args) ≡ true
  applied f args e =
      fold-App (term_of_step symbols) f args
      ∙ (λ i. is_declared symbols true f (length-map args (is_term_of symbols) i) && list_all-map (λ b. b) (is_term_of symbols) args i)
      ∙ e

  term_of : (depth : ℕ) (t : Term) (ts rest : List Token) → term bytes symbols depth t ts rest → is_term_of symbols t ≡ true
  unfolding term
  term_of zero t ts rest p = absurd p
  term_of (suc depth) t ts rest p = ap (is_term_of symbols) p.2 ∙ applied p.0 p.1 (application_of true (term bytes symbols depth) (term_of depth) p.0 p.1 ts rest p.3)

  atom_of : (depth : ℕ) (a : Atom) (ts rest : List Token) → atom bytes symbols depth a ts rest → is_atom_of symbols a ≡ true
  atom_of depth a ts rest p = ap (is_atom_of symbols) p.2 ∙ application_of false (term bytes symbols (depth - 1)) (term_of (depth - 1)) p.0 p.1 ts rest p.3

  -- ---- literals

  unsigned_of : (depth : ℕ) (f : Formula) (ts rest : List Token) → unsigned bytes symbols depth f ts rest → is_formula_of symbols f ≡ true
  unsigned_of depth f ts rest (inl p) = ap (is_formula_of symbols) (p.0 ∙ sym rolls-True) ∙ fold-roll-Formula Bool (formula_of_step symbols) layer.True
  unsigned_of depth f ts rest (inr (inl p)) = ap (is_formula_of symbols) (p.0 ∙ sym rolls-False) ∙ fold-roll-Formula Bool (formula_of_step symbols) layer.False
  unsigned_of depth f ts rest (inr (inr p)) = ap (is_formula_of symbols) (p.1 ∙ sym (rolls-Atom p.0)) ∙ fold-roll-Formula Bool (formula_of_step symbols) (layer.Atom p.0) ∙ atom_of depth p.0 ts rest p.2

  literal_of : (depth : ℕ) (f : Formula) (ts rest : List Token) → literal bytes symbols depth f ts rest → is_formula_of symbols f ≡ true
  literal_of depth f ts rest (inl p) = unsigned_of depth f ts rest p
  literal_of depth f ts rest (inr p) =
      let inner = p.2.2 in
      ap (is_formula_of symbols) (p.1 ∙ sym (rolls-Not p.0)) ∙ fold-roll-Formula Bool (formula_of_step symbols) (layer.Not p.0) ∙ unsigned_of (depth - 1) p.0 inner.0 inner.2.0 inner.2.1

  body_of : (f : Formula) (ts rest : List Token) → body bytes symbols f ts rest → is_formula_of symbols f ≡ true
  body_of f ts rest (inl p) = literal_of 1000 f ts rest p
  body_of f ts rest (inr p) =
      let inner = p.2.2 in
      ap (is_formula_of symbols) (p.1 ∙ sym (rolls-Or p.0)) ∙ fold-roll-Formula Bool (formula_of_step symbols) (layer.Or p.0) ∙ list_all-map (λ b. b) (is_formula_of symbols) p.0 ∙ all_pass (is_formula_of symbols) p.0 (separated_hold (literal bytes symbols 999) (λ g. is_formula_of symbols g ≡ true) (literal_of 999) p.0 inner.0 inner.2.0 inner.2.1)

  -- ---- entries

  clause_of : (e : Entry) (ts rest : List Token) → clause bytes symbols e ts rest → is_formula_of symbols e.formula ≡ true
  clause_of e ts rest p =
      let opened = p.2.2.1 in
      let labelled = opened.2.1 in
      body_of e.formula opened.0 labelled.0 labelled.1

pub of_signature : (bytes : List ℕ) (p : Problem) → IsWritten bytes p → AreOfSignature p.signature p.entries
of_signature bytes p w = entries_hold bytes p (λ e. is_formula_of p.signature e.formula ≡ true) (clause_of bytes p.signature) w

pub of_signature-read : (bytes : List ℕ) (r : Result Problem InputError) → IfOk r (λ p. IsWritten bytes p) → IfOk r (λ p. AreOfSignature p.signature p.entries)
of_signature-read bytes (Ok p) w = of_signature bytes p w
of_signature-read bytes (Err e) w = tt
