-- Laws with their proofs, not definitions that a reader must believe: declarations of terms are read as they are written.
use Rattle.std.proofs.Common.{◌≡◌, ℕ, ◌-◌, ◌≤◌, inl, inr, true, false, List, [], ◌∷◌, length, slice_get, Some, None, Ok, refl, sym, ap, ◌∙◌, arith}
use Rattle.std.proofs.lemmas.Option.{same_Some}
use Rattle.spl_terms.specs.declared.term.Kind.{Kind}
use Rattle.spl_terms.specs.declared.term.Kind.TheVariants as term_kinds
use Rattle.spl_terms.specs.declared.term.Symbol.{Symbol}
use Rattle.spl_terms.specs.declared.term.Term.{Term}
use Rattle.spl_terms.specs.declared.atom.Atom.{Atom}
use Rattle.spl_terms.specs.declared.atom.Atom.TheVariants.{Holds}
use Rattle.spl_symbols.specs.Symbols.{Declared, found, HasOwnNames, AreNamed}
use Rattle.formulas.specs.declared.tree.Tree as tree
use Rattle.formulas.specs.declared.tree.Tree.{Tree}
use Rattle.dfg_tokens.specs.declared.word.Word.{Word}
use Rattle.dfg_tokens.specs.declared.word.Word.TheVariants as words
use Rattle.dfg_tokens.specs.declared.piece.TokenKind.TheVariants as kinds
use Rattle.dfg_tokens.specs.declared.token.Token.{Token}
use Rattle.dfg_tokens.specs.Tokens.{token_bytes}
use Rattle.dfg_tokens.specs.Cursors.{tail}
use Rattle.dfg_terms.specs.declared.symbols.Place.TheVariants as places
use Rattle.dfg_terms.specs.Reading.{◌>>=◌, is_reserved, next_word, name_at}
use Rattle.dfg_terms.specs.Scopes.{Binding}
use Rattle.dfg_terms.specs.Symbols.{misfit}
use Rattle.dfg_terms.specs.Phrases.{word, enclosed}
use Rattle.dfg_terms.specs.Grammar.{names, term, application, atom}
use Rattle.dfg_terms.specs.ResultLaws.{bind_ok, chosen, then_ok, when_true, when_false}
use Rattle.dfg_terms.specs.StepLaws.{token_shorter, token_tail, word_next, name_read, name_no_word}
use Rattle.dfg_terms.specs.StandLaws.{name_stands, next_word_stands}
use Rattle.dfg_terms.specs.FrontLaws.{then_takes, weaken, word_takes, enclosed_takes}
use Rattle.dfg_terms.specs.VariableLaws.{names_agree}
use Rattle.dfg_terms.specs.TermLaws.{term_takes, atom_takes}
use Rattle.dfg_formulas.specs.declared.shape.Connective.TheVariants as connectives
use Rattle.dfg_formulas.specs.Formulas.{is_of_atoms, sort_named, connected_at, atom_at, sorted_term_at, term_declaration_at}
use Rattle.dfg_formulas.specs.Grammar.{IsSort, quantification, atomic, sorted_term, term_declaration}
use Rattle.dfg_formulas.specs.ItemLaws.{sort_stands, sort_read}
use Rattle.dfg_formulas.specs.FormulaLaws.{ReadAs, Stands, connected_stands, atom_is}
use Rattle.dfg_formulas.specs.FormulaReadLaws.{AllTake, ReadsEach, quantification_keeps, connected_read, atom_is_read}

-- a name has one number of arguments
one_arity : (symbols : List Declared) → HasOwnNames symbols → (p s : Symbol) (m n : ℕ) (name text : List ℕ) → name ≡ text
    → slice_get symbols p.number ≡ Some (record { name = name; arity = m; kind = p.kind }) → slice_get symbols s.number ≡ Some (record { name = text; arity = n; kind = s.kind }) → m ≡ n
one_arity symbols own p s m n name text same e h =
    let d : Declared = record { name = name; arity = m; kind = p.kind } in
    let g : Declared = record { name = text; arity = n; kind = s.kind } in
    let one : record { number = p.number; kind = p.kind } ≡ record { number = s.number; kind = s.kind } = same_Some _ _ (sym (own p.number d e) ∙ ap (λ (x : List ℕ). found x symbols) same ∙ own s.number g h) in
    let number : p.number ≡ s.number = ap (λ (x : Symbol). x.number) one in
    ap (λ (x : Declared). x.arity) (same_Some d g (sym e ∙ ap (λ i. slice_get symbols i) number ∙ h))

of_atoms : (k : Kind) → misfit places.Atom k ≡ None → is_of_atoms k ≡ true
of_atoms term_kinds.Function e = absurd cc
of_atoms term_kinds.Predicate e = refl
of_atoms term_kinds.Sort e = refl

first_same : (t u : Token) (ts us : List Token) → t ∷ ts ≡ u ∷ us → t ≡ u
first_same t u ts us e = cc

true_not : true ≡ false → ⊥
true_not e = cc

-- ---- what is read is written so

module _ (bytes : List ℕ) (symbols : List Declared) (own : HasOwnNames symbols) where
  lone_argument : (depth : ℕ) (scope : List Binding) (first : ℕ) (f : Tree) (p : Symbol) (args : List Term) (ts rest : List Token) → f ≡ tree.Atom (Holds p args) → length args ≡ 1
      → application bytes symbols places.Atom (λ t. Unit {0}) (term bytes symbols (names bytes scope) depth) p args ts rest → sorted_term bytes symbols depth scope first f ts rest
  lone_argument depth scope first f p [] ts rest is e q = absurd cc
  lone_argument depth scope first f p (t ∷ []) ts rest is e q = (p, t, is, q)
  lone_argument depth scope first f p (t ∷ u ∷ args) ts rest is e q = absurd (omega (arith, e))

  sorted_stands : (depth : ℕ) → Stands (sorted_term bytes symbols depth) (sorted_term_at bytes symbols depth)
  unfolding sorted_term_at
  sorted_stands depth scope next ts y e =
      let a = bind_ok (name_at ts) (λ name. sort_named bytes symbols name.0 >>= λ sort. atom_at bytes symbols depth scope next ts) y e in
      let b = bind_ok (sort_named bytes symbols a.0.0) (λ sort. atom_at bytes symbols depth scope next ts) y a.2 in
      let here = atom_is bytes symbols depth scope next ts y b.2 in
      let name = name_stands ts a.0 a.1 in
      let sort = sort_stands bytes symbols a.0.0 b.0 b.1 in
      (here.0, by_atom here.1.0 here.1.1 here.1.2 a.0.0 a.0.1 b.0 name.0 name.1 name.2 name.3 sort)
    where
      by_atom : (g : Atom) → y.0.0 ≡ tree.Atom g → atom bytes symbols places.Atom (term bytes symbols (names bytes scope) depth) g ts y.1
          → (t : Token) (us : List Token) (s : Symbol) → (w : Word) → t.kind ≡ kinds.Word w → is_reserved w ≡ false → ts ≡ t ∷ us → IsSort symbols s (token_bytes bytes t) → sorted_term bytes symbols depth scope next y.0.0 ts y.1
      by_atom g is (inl q) t us s w k free parts sort = absurd (true_not (sym (word_next words.Equal ts q.4.0 q.4.1) ∙ name_no_word words.Equal w t ts us refl k free parts))
      by_atom g is (inr q) t us s w k free parts sort =
          let head = q.3.1 in
          let same : head.0 ≡ t = first_same head.0 t q.3.0 us (sym head.2 ∙ parts) in
          let text : head.1.0 ≡ token_bytes bytes t = sym head.1.2.3 ∙ ap (token_bytes bytes) same in
          lone_argument depth scope next y.0.0 q.0 q.1 ts y.1 (is ∙ ap (λ (x : Atom). tree.Atom x) q.2)
          (one_arity symbols own q.0 s (length q.1) 1 head.1.0 (token_bytes bytes t) text head.1.1.1 sort.1) q.3

  pub declaration_stands : (depth : ℕ) → Stands (term_declaration bytes symbols depth) (term_declaration_at bytes symbols depth)
  unfolding term_declaration_at
  declaration_stands depth scope next ts y e =
      elim (chosen (next_word words.Forall ts) (connected_at bytes symbols connectives.Forall (sorted_term_at bytes symbols (depth - 2)) scope next (tail ts)) (sorted_term_at bytes symbols (depth - 1) scope next ts) (Ok y) e) [
        | inl h ↦ (let c = connected_stands (sorted_term bytes symbols (depth - 2)) (sorted_term_at bytes symbols (depth - 2)) (sorted_stands (depth - 2)) bytes symbols connectives.Forall scope next (tail ts) y h.1 in
            (c.0, inr (tail ts, next_word_stands words.Forall ts h.0, c.1)))
        | inr h ↦ (let c = sorted_stands (depth - 1) scope next ts y h.1 in (c.0, inl c.1))
      ]

-- ---- declarations take tokens

module _ (bytes : List ℕ) (symbols : List Declared) where
  sorted_takes : (depth : ℕ) → AllTake (sorted_term bytes symbols depth)
  sorted_takes depth scope first f ts rest p =
      atom_takes bytes symbols places.Atom (term bytes symbols (names bytes scope) depth) (term_takes bytes symbols (names bytes scope) (names_agree bytes scope).takes depth) (Holds p.0 (p.1 ∷ [])) ts rest (inr (p.0, p.1 ∷ [], refl, p.3))

  pub declaration_takes : (depth : ℕ) → AllTake (term_declaration bytes symbols depth)
  declaration_takes depth scope first f ts rest (inl p) = sorted_takes (depth - 1) scope first f ts rest p
  declaration_takes depth scope first f ts rest (inr p) =
      let within = quantification bytes symbols true (sorted_term bytes symbols (depth - 2)) scope first f in
      then_takes (word words.Forall) (enclosed within) (word_takes _) (weaken (enclosed within) (enclosed_takes within (quantification_keeps (sorted_term bytes symbols (depth - 2)) (sorted_takes (depth - 2)) bytes symbols true scope first f))) ts rest p

-- ---- what is written is read

module _ (bytes : List ℕ) (symbols : List Declared) (own : HasOwnNames symbols) (named : AreNamed symbols) where
  sorted_read : (depth : ℕ) → ReadsEach bytes (sorted_term bytes symbols depth) (sorted_term_at bytes symbols depth)
  unfolding sorted_term_at
  sorted_read depth scope first f ts rest near p apart =
      let head = p.3.1 in
      let is = head.1.2 in
      let sort : IsSort symbols p.0 head.1.0 = (of_atoms p.0.kind head.1.1.0, head.1.1.1) in
      then_ok _ _ _ _ (name_read is.0 head.0 ts p.3.0 is.1 is.2 head.2)
      (then_ok _ _ _ _ (sort_read bytes symbols own named head.0 p.0 head.1.0 sort is.3)
      (atom_is_read bytes symbols own named depth scope first f ts rest near (Holds p.0 (p.1 ∷ []), p.2, inr (p.0, p.1 ∷ [], refl, p.3)) apart))

  pub declaration_read : (depth : ℕ) → ReadsEach bytes (term_declaration bytes symbols depth) (term_declaration_at bytes symbols depth)
  unfolding term_declaration_at
  declaration_read depth scope first f ts rest near (inl p) apart =
      let head = p.3.1 in
      let is = head.1.2 in
      when_false _ _ _ _ (name_no_word words.Forall is.0 head.0 ts p.3.0 refl is.1 is.2 head.2) (sorted_read (depth - 1) scope first f ts rest near p apart)
  declaration_read depth scope first f ts rest near (inr p) apart =
      when_true _ _ _ _ (word_next words.Forall ts p.0 p.1)
      (ap (connected_at bytes symbols connectives.Forall (sorted_term_at bytes symbols (depth - 2)) scope first) (token_tail _ ts p.0 p.1)
      ∙ connected_read bytes symbols own named (sorted_term bytes symbols (depth - 2)) (sorted_term_at bytes symbols (depth - 2)) (sorted_read (depth - 2)) (sorted_takes bytes symbols (depth - 2)) connectives.Forall scope first f p.0 rest (omega (arith, near, token_shorter _ ts p.0 p.1)) p.2)
