-- A clause that is written is read, and so is a list of clauses.
use Rattle.std.proofs.Common.{◌≡◌, ℕ, ◌+◌, ◌-◌, inl, inr, true, false, ◌||◌, nat_le, List, [], ◌∷◌, ◌++◌, length, Ok, refl, sym, ap, subst, ◌∙◌, length-append, arith}
use Rattle.std.proofs.lemmas.Bool.{and_parts, or_right}
use Rattle.std.proofs.lemmas.Bool.Decides.{nat_tests}
use Rattle.std.proofs.lemmas.List.Concat.{flat_map-append}
use Rattle.std.proofs.lemmas.List.Folds.{list_all-append}
use Rattle.std.specs.List.{list_all}
use Rattle.std.specs.Str.{bytes_eq}
use Rattle.spl_terms.specs.declared.atom.Atom.{Atom}
use Rattle.spl_terms.specs.declared.clause.Clause.{Clause}
use Rattle.spl_symbols.specs.Symbols.{Declared}
use Rattle.dfg_tokens.specs.declared.word.Word.{Word}
use Rattle.dfg_tokens.specs.declared.word.Word.TheVariants as words
use Rattle.dfg_tokens.specs.declared.piece.Mark.TheVariants.{OpenParenthesis, CloseParenthesis, Comma, Dot}
use Rattle.dfg_tokens.specs.declared.token.Token.{Token}
use Rattle.dfg_tokens.specs.Words.{spelling}
use Rattle.dfg_reader.specs.declared.formula.Formula.{Formula}
use Rattle.dfg_reader.specs.declared.problem.Role.TheVariants as roles
use Rattle.dfg_reader.specs.declared.problem.Entry.{Entry}
use Rattle.dfg_reader.specs.Reading.{place, is_reserved, next_mark, next_word, mark_at, identifier_at}
use Rattle.dfg_reader.specs.GroundClauses.{formula_clauses, role_clauses, entry_clauses, clauses, is_small, are_within_limits, HasLimits}
use Rattle.dfg_reader.specs.Clauses.{unsigned_at, literal_at, body_at, within_limits, label_at, clause_at, origin_at, form_at, clauses_head_at, is_refused_list, list_at}
use Rattle.dfg_reader.specs.Grammar.{◌⨾◌, enclosed, mark, word, atom, unsigned, negative_literal, literal, body, label, clause, origin, clause_list, IsSignature}
use Rattle.dfg_reader.proofs.Limits.{both, clauses-push}
use Rattle.dfg_reader.proofs.Steps.{then_ok, when_true, when_false, token_tail, mark_next, other_mark, mark_read, next_word_is, other_word, word_next, word_read, identifier_read, name_no_word}
use Rattle.dfg_reader.proofs.Fronts.{literal_takes, clause_takes}
use Rattle.dfg_reader.proofs.InRow.{Begins, begins_earlier, grown, lone, fold_lone, listed_read}
use Rattle.dfg_reader.proofs.WrittenTerms.{values_read, closing_ends, atom_read}

-- ---- limits

fewer : (m n : ℕ) → nat_le (m + n) 65536 ≡ true → nat_le m 65536 ≡ true
fewer m n e = grind (arith, nat_tests)

-- the first of clauses within the limits are within them
limits-prefix : (cs ds : List Clause) → are_within_limits (cs ++ ds) ≡ true → are_within_limits cs ≡ true
unfolding are_within_limits
limits-prefix cs ds e =
    let h = both (nat_le (length (cs ++ ds)) 65536) (list_all is_small (cs ++ ds)) e in
    when_true _ _ _ _ (fewer (length cs) (length ds) (ap (λ n. nat_le n 65536) (sym (length-append cs ds)) ∙ h.0)) ((and_parts (list_all is_small cs) (list_all is_small ds) (sym (list_all-append is_small cs ds) ∙ h.1)).0)

within_prefix : (all : List Entry) → HasLimits all → (es : List Entry) (e : Entry) → e.role ≡ roles.Clause → Begins all (es ++ e ∷ []) → are_within_limits (clauses es ++ formula_clauses e.formula) ≡ true
unfolding clauses
within_prefix all limits es e role begins =
    let front : clauses (es ++ e ∷ []) ≡ clauses es ++ formula_clauses e.formula = clauses-push es e ∙ ap (λ r. clauses es ++ role_clauses r e.formula) role in
    let parts : clauses all ≡ (clauses es ++ formula_clauses e.formula) ++ clauses begins.0 = ap clauses begins.1 ∙ flat_map-append entry_clauses (es ++ e ∷ []) begins.0 ∙ ap (λ (cs : List Clause). cs ++ clauses begins.0) front in
    limits-prefix (clauses es ++ formula_clauses e.formula) (clauses begins.0) (ap are_within_limits (sym parts) ∙ limits)

module _ (bytes : List ℕ) (symbols : List Declared) (sig : IsSignature symbols) where
  -- ---- which words a literal doesn't begin with

  atom_other : (w : Word) → is_reserved w ≡ true → (depth : ℕ) (a : Atom) (ts rest : List Token) → atom bytes symbols depth a ts rest → next_word w ts ≡ false
  atom_other w r depth a ts rest p =
      let head = p.3.1 in
      let name = head.1.2 in
      name_no_word w name.0 head.0 ts p.3.0 r name.1 name.2 head.2

  unsigned_other : (w : Word) → is_reserved w ≡ true → bytes_eq (spelling words.True) (spelling w) ≡ false → bytes_eq (spelling words.False) (spelling w) ≡ false → (depth : ℕ) (f : Formula) (ts rest : List Token) → unsigned bytes symbols depth f ts rest → next_word w ts ≡ false
  unsigned_other w r t f depth g ts rest (inl p) = other_word w words.True ts rest p.1 t
  unsigned_other w r t f depth g ts rest (inr (inl p)) = other_word w words.False ts rest p.1 f
  unsigned_other w r t f depth g ts rest (inr (inr p)) = atom_other w r depth p.0 ts rest p.2

  literal_other : (w : Word) → is_reserved w ≡ true → bytes_eq (spelling words.True) (spelling w) ≡ false → bytes_eq (spelling words.False) (spelling w) ≡ false → bytes_eq (spelling words.Not) (spelling w) ≡ false → (depth : ℕ) (f : Formula) (ts rest : List Token) → literal bytes symbols depth f ts rest → next_word w ts ≡ false
  literal_other w r t f n depth g ts rest (inl p) = unsigned_other w r t f depth g ts rest p
  literal_other w r t f n depth g ts rest (inr p) = other_word w words.Not ts p.2.0 p.2.1 n

  -- ---- literals

  unsigned_read : (depth : ℕ) (f : Formula) (ts rest : List Token) → unsigned bytes symbols depth f ts rest → next_mark OpenParenthesis rest ≡ false → unsigned_at bytes symbols (depth - 1) ts ≡ Ok (f, rest)
  unfolding unsigned_at
  unsigned_read depth f ts rest (inl p) apart = when_true _ _ _ _ (word_next words.True ts rest p.1) (λ i. Ok (sym p.0 i, token_tail _ ts rest p.1 i))
  unsigned_read depth f ts rest (inr (inl p)) apart = when_false _ _ _ _ (other_word words.True words.False ts rest p.1 refl) (when_true _ _ _ _ (word_next words.False ts rest p.1) (λ i. Ok (sym p.0 i, token_tail _ ts rest p.1 i)))
  unsigned_read depth f ts rest (inr (inr p)) apart =
      when_false _ _ _ _ (atom_other words.True refl depth p.0 ts rest p.2)
      (when_false _ _ _ _ (atom_other words.False refl depth p.0 ts rest p.2)
      (when_false _ _ _ _ (atom_other words.Equal refl depth p.0 ts rest p.2)
      (then_ok _ _ _ _ (atom_read bytes symbols sig depth p.0 ts rest p.2 apart) (ap (λ g. Ok (g, rest)) (sym p.1)))))

  negation_read : (depth : ℕ) (f : Formula) (ts rest : List Token) → negative_literal bytes symbols depth f ts rest → literal_at bytes symbols (depth - 1) ts ≡ Ok (f, rest)
  unfolding literal_at
  negation_read depth f ts rest p =
      let named = p.2 in
      let opened = named.2 in
      let inner = opened.2 in
      when_true _ _ _ _ (word_next words.Not ts named.0 named.1)
      (then_ok _ _ _ _ (ap (mark_at OpenParenthesis) (token_tail _ ts named.0 named.1) ∙ mark_read OpenParenthesis named.0 opened.0 opened.1)
      (then_ok _ _ _ _ (unsigned_read (depth - 1) p.0 opened.0 inner.0 inner.1 (closing_ends inner.0 rest inner.2).1)
      (then_ok _ _ _ _ (mark_read CloseParenthesis inner.0 rest inner.2) (ap (λ g. Ok (g, rest)) (sym p.1)))))

  literal_read : (depth : ℕ) (f : Formula) (ts rest : List Token) → literal bytes symbols depth f ts rest → next_mark OpenParenthesis rest ≡ false → literal_at bytes symbols (depth - 1) ts ≡ Ok (f, rest)
  unfolding literal_at
  literal_read depth f ts rest (inl p) apart = when_false _ _ _ _ (unsigned_other words.Not refl refl refl depth f ts rest p) (unsigned_read depth f ts rest p apart)
  literal_read depth f ts rest (inr p) apart = negation_read depth f ts rest p

  -- ---- the literals of a clause

  body_read : (f : Formula) (ts rest : List Token) → body bytes symbols f ts rest → next_mark OpenParenthesis rest ≡ false → body_at bytes symbols ts ≡ Ok (f, rest)
  unfolding body_at
  body_read f ts rest (inl p) apart =
      when_false _ _ _ _ (literal_other words.Forall refl refl refl refl 1000 f ts rest p)
      (when_false _ _ _ _ (literal_other words.Or refl refl refl refl 1000 f ts rest p)
      (literal_read 1000 f ts rest p apart))
  body_read f ts rest (inr p) apart =
      let named = p.2 in
      let opened = named.2 in
      let inner = opened.2 in
      when_false _ _ _ _ (other_word words.Forall words.Or ts named.0 named.1 refl)
      (when_true _ _ _ _ (word_next words.Or ts named.0 named.1)
      (then_ok _ _ _ _ (ap (mark_at OpenParenthesis) (token_tail _ ts named.0 named.1) ∙ mark_read OpenParenthesis named.0 opened.0 opened.1)
      (then_ok _ _ _ _ (values_read (literal bytes symbols 999) (literal_at bytes symbols 998) (literal_read 999) (literal_takes bytes symbols 999) p.0 opened.0 inner.0 inner.1 (closing_ends inner.0 rest inner.2))
      (then_ok _ _ _ _ (mark_read CloseParenthesis inner.0 rest inner.2) (ap (λ g. Ok (g, rest)) (sym p.1))))))

  -- ---- clauses

  label_read : (ts rest after : List Token) → label ts rest → mark CloseParenthesis rest after → label_at ts ≡ Ok rest
  unfolding label_at
  label_read ts rest after (inl p) end = when_false _ _ _ _ (ap (next_mark Comma) p ∙ (closing_ends rest after end).0) (ap (λ us. Ok us) p)
  label_read ts rest after (inr p) end =
      let name = p.2 in
      when_true _ _ _ _ (mark_next Comma ts p.0 p.1)
      (then_ok _ _ _ _ (ap identifier_at (token_tail _ ts p.0 p.1) ∙ identifier_read name.1.0 name.0 p.0 rest name.1.1 name.2) refl)

  label_apart : (ts rest after : List Token) → label ts rest → mark CloseParenthesis rest after → next_mark OpenParenthesis ts ≡ false
  label_apart ts rest after (inl p) end = ap (next_mark OpenParenthesis) p ∙ (closing_ends rest after end).1
  label_apart ts rest after (inr p) end = other_mark OpenParenthesis Comma ts p.0 p.1 refl

  module _ (all : List Entry) (limits : HasLimits all) where
    within_read : (es : List Entry) (e : Entry) (at : ℕ) → e.role ≡ roles.Clause → Begins all (es ++ e ∷ []) → within_limits es at e.formula ≡ Ok tt
    unfolding within_limits
    within_read es e at role begins = when_true _ _ _ _ (within_prefix all limits es e role begins) refl

    clause_read : (es : List Entry) (e : Entry) (ts rest : List Token) → Begins all (es ++ e ∷ []) → clause bytes symbols e ts rest → clause_at bytes symbols es ts ≡ Ok (es ++ e ∷ [], rest)
    unfolding clause_at
    clause_read es e ts rest begins p =
        let named = p.2 in
        let opened = named.2.1 in
        let inner = opened.2 in
        let labelled = inner.1 in
        then_ok _ _ _ _ (word_read words.Clause ts named.0 named.1)
        (then_ok _ _ _ _ (mark_read OpenParenthesis named.0 opened.0 opened.1)
        (then_ok _ _ _ _ (body_read e.formula opened.0 labelled.0 labelled.1 (label_apart labelled.0 inner.0 named.2.0 labelled.2 inner.2))
        (then_ok _ _ _ _ (within_read es e (place ts) p.0 begins)
        (then_ok _ _ _ _ (label_read labelled.0 inner.0 named.2.0 labelled.2 inner.2)
        (then_ok _ _ _ _ (mark_read CloseParenthesis inner.0 named.2.0 inner.2)
        (then_ok _ _ _ _ (mark_read Dot named.2.0 rest named.2.2)
        (λ i. Ok (es ++ record { role = sym p.0 i; formula = e.formula; at = sym p.1 i } ∷ [], rest))))))))

    -- ---- lists

    origin_read : (ts rest : List Token) → origin ts rest → origin_at ts ≡ Ok rest
    unfolding origin_at
    origin_read ts rest (inl p) = when_true _ _ _ _ (ap (λ b. b || next_word words.Conjectures ts) (word_next words.Axioms ts rest p)) (ap (λ us. Ok us) (token_tail _ ts rest p))
    origin_read ts rest (inr p) = when_true _ _ _ _ (or_right (next_word words.Axioms ts) (next_word words.Conjectures ts) (word_next words.Conjectures ts rest p)) (ap (λ us. Ok us) (token_tail _ ts rest p))

    form_read : (ts rest : List Token) → word words.Cnf ts rest → form_at ts ≡ Ok rest
    unfolding form_at
    form_read ts rest p = when_false _ _ _ _ (other_word words.Dnf words.Cnf ts rest p refl) (word_read words.Cnf ts rest p)

    list_is_taken : (ts rest : List Token) → word words.ListOfClauses ts rest → is_refused_list ts ≡ false
    list_is_taken ts rest p =
        let is : (w : Word) → next_word w ts ≡ bytes_eq (spelling words.ListOfClauses) (spelling w) = λ w. next_word_is w words.ListOfClauses ts rest p in
        rw (is words.ListOfDeclarations, is words.ListOfFormulae, is words.ListOfProof, is words.ListOfSettings, is words.ListOfTerms, is words.ListOfSpecialFormulae, is words.ListOfIncludes) refl

    clauses_head_read : (ts after rest : List Token) → word words.ListOfClauses ts after → (enclosed (origin ⨾ mark Comma ⨾ word words.Cnf) ⨾ mark Dot) after rest → clauses_head_at ts ≡ Ok rest
    unfolding clauses_head_at
    clauses_head_read ts after rest w p =
        let opened = p.1 in
        let inner = opened.2 in
        let from = inner.1 in
        let form = from.2 in
        then_ok _ _ _ _ (word_read words.ListOfClauses ts after w)
        (then_ok _ _ _ _ (mark_read OpenParenthesis after opened.0 opened.1)
        (then_ok _ _ _ _ (origin_read opened.0 from.0 from.1)
        (then_ok _ _ _ _ (mark_read Comma from.0 form.0 form.1)
        (then_ok _ _ _ _ (form_read form.0 inner.0 form.2)
        (then_ok _ _ _ _ (mark_read CloseParenthesis inner.0 p.0 inner.2)
        (mark_read Dot p.0 rest p.2))))))

    pub list_read : (es g : List Entry) (ts rest : List Token) → Begins all (es ++ g) → clause_list bytes symbols g ts rest → list_at bytes symbols es ts ≡ Ok (es ++ g, rest)
    unfolding list_at
    list_read es g ts rest begins p =
        let head = p.2 in
        let dot = head.2 in
        when_false _ _ _ _ (list_is_taken ts p.0 p.1)
        (then_ok _ _ _ _ (clauses_head_read ts p.0 dot.0 p.1 (head.0, head.1, dot.1))
        (listed_read (clause bytes symbols) (grown lone) (Begins all) (clause_at bytes symbols) (begins_earlier lone all) (clause_takes bytes symbols) (λ e us after q. other_word words.EndOfList words.Clause us q.2.0 q.2.1 refl) clause_read g es dot.0 rest (subst (Begins all) (sym (fold_lone es g)) begins) dot.2
        ∙ ap (λ es'. Ok (es', rest)) (fold_lone es g)))
