-- Laws with their proofs, not definitions that a reader must believe: formulas, clauses and declarations are read as they are written, and there is one conjecture at the most.
use Rattle.std.proofs.Common.{◌≡◌, ℕ, ◌+◌, ◌≤◌, inl, inr, Bool, true, false, ◌&&◌, ◌||◌, List, [], ◌∷◌, ◌++◌, length, Ok, refl, sym, ap, subst, ◌∙◌, arith}
use Rattle.spl_symbols.specs.Symbols.{Declared, HasOwnNames, AreNamed}
use Rattle.formulas.specs.declared.tree.Tree.{Tree}
use Rattle.formulas.specs.declared.entry.Role.{Role}
use Rattle.formulas.specs.declared.entry.Role.TheVariants.{Axiom, Clause}
use Rattle.formulas.specs.declared.entry.Entry.{Entry}
use Rattle.dfg_tokens.specs.declared.piece.Mark.TheVariants.{OpenParenthesis, CloseParenthesis, Comma, Dot}
use Rattle.dfg_tokens.specs.declared.word.Word.TheVariants as words
use Rattle.dfg_tokens.specs.declared.token.Token.{Token}
use Rattle.dfg_tokens.specs.Cursors.{tail}
use Rattle.dfg_terms.specs.declared.fault.FaultKind.TheVariants.{Unexpected, SecondConjecture}
use Rattle.dfg_terms.specs.Reading.{◌>>=◌, Reader, place, refuse, next_mark, next_word, mark_at, word_at, identifier_at}
use Rattle.dfg_terms.specs.Phrases.{Phrase, ◌⨾◌, mark, word, identifier, enclosed}
use Rattle.dfg_terms.specs.ResultLaws.{bind_ok, chosen, ok_is, refused_not, then_ok, when_true, when_false}
use Rattle.dfg_terms.specs.StepLaws.{token_shorter, token_tail, mark_next, mark_read, other_mark, other_word, word_read, identifier_read}
use Rattle.dfg_terms.specs.StandLaws.{next_mark_stands, mark_stands, word_stands, identifier_stands}
use Rattle.dfg_terms.specs.FrontLaws.{Takes, Keeps, token_takes, then_takes, then_keeps, weaken, nothing_keeps, mark_takes, word_takes, enclosed_takes}
use Rattle.dfg_terms.specs.RowLaws.{grown, lone}
use Rattle.dfg_terms.specs.TermLaws.{closing_ends}
use Rattle.dfg_formulas.specs.declared.shape.Shape.{Shape}
use Rattle.dfg_formulas.specs.declared.shape.Shape.TheVariants as shapes
use Rattle.dfg_formulas.specs.Formulas.{formula_at}
use Rattle.dfg_formulas.specs.Grammar.{formula}
use Rattle.dfg_formulas.specs.FormulaLaws.{formula_stands}
use Rattle.dfg_formulas.specs.FormulaReadLaws.{formula_takes, formula_read}
use Rattle.dfg_lists.specs.GroupLaws.{Begins}
use Rattle.dfg_problem.specs.declared.keywords.Keyword.TheVariants as keywords
use Rattle.dfg_problem.specs.Keywords.{keyword, next_keyword}
use Rattle.dfg_problem.specs.Declarations.{declared_at}
use Rattle.dfg_problem.specs.Lists.{is_conjecture, has_conjecture, with_entry, label_at, with_label_at, labelled_at, formula_item_at, clause_item_at, declaration_item_at}
use Rattle.dfg_problem.specs.Grammar.{sort_declaration, declaration_item, label, labelled, formula_item, clause_item, one_if, conjecture_count}
use Rattle.dfg_problem.specs.KeywordLaws.{keyword_stands, keyword_next, keyword_no_word}
use Rattle.dfg_problem.specs.DeclaredLaws.{declared_stands, sort_declaration_takes, declaration_no_end, declared_read}

-- ---- how many conjectures there are

pub count-append : (xs ys : List Entry) → conjecture_count (xs ++ ys) ≡ conjecture_count xs + conjecture_count ys
count-append [] ys = omega arith
count-append (x ∷ xs) ys = omega (arith, count-append xs ys)

none_counted : (es : List Entry) → has_conjecture es ≡ false → conjecture_count es ≡ 0
none_counted [] e = refl
none_counted (x ∷ es) e = by_role (is_conjecture x.role) (none_counted es) e
  where
    by_role : (b : Bool) → (has_conjecture es ≡ false → conjecture_count es ≡ 0) → (b || has_conjecture es) ≡ false → one_if b + conjecture_count es ≡ 0
    by_role true law h = absurd cc
    by_role false law h = omega (arith, law h)

counted_none : (es : List Entry) → conjecture_count es ≡ 0 → has_conjecture es ≡ false
counted_none [] e = refl
counted_none (x ∷ es) e = by_role (is_conjecture x.role) (counted_none es) e
  where
    by_role : (b : Bool) → (conjecture_count es ≡ 0 → has_conjecture es ≡ false) → one_if b + conjecture_count es ≡ 0 → (b || has_conjecture es) ≡ false
    by_role true law h = absurd (omega (arith, h))
    by_role false law h = law (omega (arith, h))

-- a conjecture comes only where there is none yet
abbrev pub MayFollow : List Entry → Role → Type 0
MayFollow es role = (is_conjecture role && has_conjecture es) ≡ false

one_more : (es : List Entry) (e : Entry) → MayFollow es e.role → conjecture_count es ≤ 1 → conjecture_count (es ++ e ∷ []) ≤ 1
one_more es e may few = by_role (is_conjecture e.role) may (count-append es (e ∷ []))
  where
    by_role : (b : Bool) → (b && has_conjecture es) ≡ false → conjecture_count (es ++ e ∷ []) ≡ conjecture_count es + (one_if b + 0) → conjecture_count (es ++ e ∷ []) ≤ 1
    by_role true h count = omega (arith, none_counted es h, count)
    by_role false h count = omega (arith, few, count)

may_follow : (all es : List Entry) (e : Entry) → conjecture_count all ≤ 1 → Begins all (es ++ e ∷ []) → MayFollow es e.role
may_follow all es e few begins = by_role (is_conjecture e.role) (ap conjecture_count begins.1 ∙ count-append (es ++ e ∷ []) begins.0) (count-append es (e ∷ []))
  where
    by_role : (b : Bool) → conjecture_count all ≡ conjecture_count (es ++ e ∷ []) + conjecture_count begins.0 → conjecture_count (es ++ e ∷ []) ≡ conjecture_count es + (one_if b + 0) → (b && has_conjecture es) ≡ false
    by_role true whole front = counted_none es (omega (arith, few, whole, front))
    by_role false whole front = refl

-- ---- what is read as an item is written so

-- an item that is read is one more entry
abbrev pub AddsEntries : (Entry → Phrase) → Reader (List Entry) → Type 0
AddsEntries P read = (es : List Entry) (ts : List Token) (y : List Entry × List Token) → read es ts ≡ Ok y → (e : Entry) × (y.0 ≡ grown lone es e) × P e ts y.1

abbrev pub HasFew : List Entry → Type 0
HasFew es = conjecture_count es ≤ 1

abbrev pub KeepsFew : Reader (List Entry) → Type 0
KeepsFew read = (es : List Entry) (ts : List Token) (y : List Entry × List Token) → HasFew es → read es ts ≡ Ok y → HasFew y.0

label_stands : (ts rest : List Token) → label_at ts ≡ Ok rest → label ts rest
unfolding label_at
label_stands ts rest e =
    elim (chosen (next_mark Comma ts) (identifier_at (tail ts) >>= λ x. Ok x.1) (Ok ts) (Ok rest) e) [
      | inl h ↦ (let a = bind_ok (identifier_at (tail ts)) (λ x. Ok x.1) rest h.1 in
          let name = identifier_stands (tail ts) a.0 a.1 in
          subst (label ts) (ok_is a.0.1 rest a.2) (inr (tail ts, next_mark_stands Comma ts h.0, (a.0.0, (name.0, name.1), name.2))))
      | inr h ↦ inl (ok_is ts rest h.1)
    ]

module _ (bytes : List ℕ) (symbols : List Declared) where
  with_label_stands : (shape : Shape) (ts : List Token) (y : Tree × List Token) → with_label_at bytes symbols shape ts ≡ Ok y → (formula bytes symbols 1000 shape [] 0 y.0 ⨾ label) ts y.1
  unfolding with_label_at
  with_label_stands shape ts y e =
      let a = bind_ok (formula_at bytes symbols 1000 shape [] 0 ts) (λ f. label_at f.1 >>= λ rest. Ok (f.0.0, rest)) y e in
      let b = bind_ok (label_at a.0.1) (λ rest. Ok (a.0.0.0, rest)) y a.2 in
      let f = formula_stands bytes symbols 1000 shape [] 0 ts a.0 a.1 in
      subst (λ (q : Tree × List Token). (formula bytes symbols 1000 shape [] 0 q.0 ⨾ label) ts q.1) (ok_is (a.0.0.0, b.0) y b.2) (a.0.1, f.1, label_stands a.0.1 b.0 b.1)

  labelled_stands : (shape : Shape) (ts : List Token) (y : Tree × List Token) → labelled_at bytes symbols shape ts ≡ Ok y → labelled bytes symbols shape y.0 ts y.1
  unfolding labelled_at
  labelled_stands shape ts y e =
      let a = bind_ok (mark_at OpenParenthesis ts) (λ inner. with_label_at bytes symbols shape inner >>= λ f. mark_at CloseParenthesis f.1 >>= λ closed. mark_at Dot closed >>= λ rest. Ok (f.0, rest)) y e in
      let b = bind_ok (with_label_at bytes symbols shape a.0) (λ f. mark_at CloseParenthesis f.1 >>= λ closed. mark_at Dot closed >>= λ rest. Ok (f.0, rest)) y a.2 in
      let c = bind_ok (mark_at CloseParenthesis b.0.1) (λ closed. mark_at Dot closed >>= λ rest. Ok (b.0.0, rest)) y b.2 in
      let d = bind_ok (mark_at Dot c.0) (λ rest. Ok (b.0.0, rest)) y c.2 in
      subst (λ (q : Tree × List Token). labelled bytes symbols shape q.0 ts q.1) (ok_is (b.0.0, d.0) y d.2)
      (c.0, (a.0, mark_stands OpenParenthesis ts a.0 a.1, (b.0.1, with_label_stands shape a.0 b.0 b.1, mark_stands CloseParenthesis b.0.1 c.0 c.1)), mark_stands Dot c.0 d.0 d.1)

  abbrev NextEntry : (Entry → Phrase) → List Entry → List Token → List Entry × List Token → Type 0
  NextEntry P es ts q = (e : Entry) × (q.0 ≡ grown lone es e) × P e ts q.1

  pub formula_item_stands : (role : Role) → AddsEntries (formula_item bytes symbols role) (formula_item_at bytes symbols role)
  unfolding formula_item_at
  formula_item_stands role es ts y e =
      elim (chosen (next_keyword bytes keywords.Formula ts) _ (refuse Unexpected ts) (Ok y) e) [
        | inl k ↦ elim (chosen (is_conjecture role && has_conjecture es) (refuse SecondConjecture ts) _ (Ok y) k.1) [
          | inl h ↦ absurd (refused_not SecondConjecture ts y h.1)
          | inr h ↦ (let a = bind_ok (labelled_at bytes symbols shapes.Formula (tail ts)) (λ x. Ok (with_entry es role x.0 (place ts), x.1)) y h.1 in
              let one : Entry = record { role = role; formula = a.0.0; at = place ts } in
              subst (NextEntry (formula_item bytes symbols role) es ts) (ok_is (with_entry es role a.0.0 (place ts), a.0.1) y a.2)
              (one, refl, (refl, refl, (tail ts, keyword_stands bytes keywords.Formula ts k.0, labelled_stands shapes.Formula (tail ts) a.0 a.1))))
        ]
        | inr k ↦ absurd (refused_not Unexpected ts y k.1)
      ]

  pub formula_item_few : (role : Role) → KeepsFew (formula_item_at bytes symbols role)
  unfolding formula_item_at
  formula_item_few role es ts y few e =
      elim (chosen (next_keyword bytes keywords.Formula ts) _ (refuse Unexpected ts) (Ok y) e) [
        | inl k ↦ elim (chosen (is_conjecture role && has_conjecture es) (refuse SecondConjecture ts) _ (Ok y) k.1) [
          | inl h ↦ absurd (refused_not SecondConjecture ts y h.1)
          | inr h ↦ (let a = bind_ok (labelled_at bytes symbols shapes.Formula (tail ts)) (λ x. Ok (with_entry es role x.0 (place ts), x.1)) y h.1 in
              let one : Entry = record { role = role; formula = a.0.0; at = place ts } in
              subst (λ (q : List Entry × List Token). HasFew q.0) (ok_is (with_entry es role a.0.0 (place ts), a.0.1) y a.2) (one_more es one h.0 few))
        ]
        | inr k ↦ absurd (refused_not Unexpected ts y k.1)
      ]

  pub clause_item_stands : AddsEntries (clause_item bytes symbols) (clause_item_at bytes symbols)
  unfolding clause_item_at
  clause_item_stands es ts y e =
      let a = bind_ok (word_at words.Clause ts) (λ opened. labelled_at bytes symbols shapes.Clause opened >>= λ x. Ok (with_entry es Clause x.0 (place ts), x.1)) y e in
      let b = bind_ok (labelled_at bytes symbols shapes.Clause a.0) (λ x. Ok (with_entry es Clause x.0 (place ts), x.1)) y a.2 in
      let one : Entry = record { role = Clause; formula = b.0.0; at = place ts } in
      subst (NextEntry (clause_item bytes symbols) es ts) (ok_is (with_entry es Clause b.0.0 (place ts), b.0.1) y b.2)
      (one, refl, (refl, refl, (a.0, word_stands words.Clause ts a.0 a.1, labelled_stands shapes.Clause a.0 b.0 b.1)))

  pub clause_item_few : KeepsFew (clause_item_at bytes symbols)
  clause_item_few es ts y few e =
      let one = clause_item_stands es ts y e in
      subst HasFew (sym one.1) (one_more es one.0 (ap (λ r. is_conjecture r && has_conjecture es) one.2.0) few)

  pub declaration_item_stands : HasOwnNames symbols → AddsEntries (declaration_item bytes symbols) (declaration_item_at bytes symbols)
  unfolding declaration_item_at
  declaration_item_stands own es ts y e =
      let a = bind_ok (declared_at bytes symbols ts) (λ x. mark_at Dot x.1 >>= λ rest. Ok (with_entry es Axiom x.0 (place ts), rest)) y e in
      let b = bind_ok (mark_at Dot a.0.1) (λ rest. Ok (with_entry es Axiom a.0.0 (place ts), rest)) y a.2 in
      let one : Entry = record { role = Axiom; formula = a.0.0; at = place ts } in
      subst (NextEntry (declaration_item bytes symbols) es ts) (ok_is (with_entry es Axiom a.0.0 (place ts), b.0) y b.2)
      (one, refl, (refl, refl, (a.0.1, declared_stands bytes symbols own ts a.0 a.1, mark_stands Dot a.0.1 b.0 b.1)))

  pub declaration_item_few : KeepsFew (declaration_item_at bytes symbols)
  unfolding declaration_item_at
  declaration_item_few es ts y few e =
      let a = bind_ok (declared_at bytes symbols ts) (λ x. mark_at Dot x.1 >>= λ rest. Ok (with_entry es Axiom x.0 (place ts), rest)) y e in
      let b = bind_ok (mark_at Dot a.0.1) (λ rest. Ok (with_entry es Axiom a.0.0 (place ts), rest)) y a.2 in
      let one : Entry = record { role = Axiom; formula = a.0.0; at = place ts } in
      subst (λ (q : List Entry × List Token). HasFew q.0) (ok_is (with_entry es Axiom a.0.0 (place ts), b.0) y b.2) (one_more es one refl few)

-- ---- items take tokens

label_keeps : Keeps label
label_keeps ts rest (inl p) = nothing_keeps ts rest p
label_keeps ts rest (inr p) = then_keeps (mark Comma) identifier (weaken (mark Comma) (mark_takes _)) (weaken identifier (token_takes _)) ts rest p

module _ (bytes : List ℕ) (symbols : List Declared) where
  labelled_takes : (shape : Shape) (f : Tree) → Takes (labelled bytes symbols shape f)
  labelled_takes shape f =
      let F = formula bytes symbols 1000 shape [] 0 f in
      then_takes (enclosed (F ⨾ label)) (mark Dot) (enclosed_takes (F ⨾ label) (then_keeps F label (weaken F (formula_takes bytes symbols 1000 shape [] 0 f)) label_keeps)) (weaken (mark Dot) (mark_takes _))

  pub formula_item_takes : (role : Role) (e : Entry) → Takes (formula_item bytes symbols role e)
  formula_item_takes role e ts rest p =
      let L = labelled bytes symbols shapes.Formula e.formula in
      then_takes (keyword bytes keywords.Formula) L (token_takes _) (weaken L (labelled_takes shapes.Formula e.formula)) ts rest p.2

  pub clause_item_takes : (e : Entry) → Takes (clause_item bytes symbols e)
  clause_item_takes e ts rest p =
      let L = labelled bytes symbols shapes.Clause e.formula in
      then_takes (word words.Clause) L (word_takes _) (weaken L (labelled_takes shapes.Clause e.formula)) ts rest p.2

  pub declaration_item_takes : (e : Entry) → Takes (declaration_item bytes symbols e)
  declaration_item_takes e ts rest p = then_takes (sort_declaration bytes symbols e.formula) (mark Dot) (sort_declaration_takes bytes symbols e.formula) (weaken (mark Dot) (mark_takes _)) ts rest p.2

  -- none begins with the end of its list
  pub formula_item_no_end : (role : Role) (e : Entry) (ts rest : List Token) → formula_item bytes symbols role e ts rest → next_word words.EndOfList ts ≡ false
  formula_item_no_end role e ts rest p = keyword_no_word bytes keywords.Formula words.EndOfList ts p.2.0 p.2.1 refl

  pub clause_item_no_end : (e : Entry) (ts rest : List Token) → clause_item bytes symbols e ts rest → next_word words.EndOfList ts ≡ false
  clause_item_no_end e ts rest p = other_word words.EndOfList words.Clause ts p.2.0 p.2.1 refl

  pub declaration_item_no_end : (e : Entry) (ts rest : List Token) → declaration_item bytes symbols e ts rest → next_word words.EndOfList ts ≡ false
  declaration_item_no_end e ts rest p = declaration_no_end bytes symbols e.formula ts p.2.0 p.2.1

-- ---- what is written is read

label_read : (ts rest after : List Token) → label ts rest → mark CloseParenthesis rest after → label_at ts ≡ Ok rest
unfolding label_at
label_read ts rest after (inl p) end = when_false _ _ _ _ (ap (next_mark Comma) p ∙ (closing_ends rest after end).0) (ap (λ us. Ok us) p)
label_read ts rest after (inr p) end =
    let name = p.2 in
    when_true _ _ _ _ (mark_next Comma ts p.0 p.1)
    (then_ok _ _ _ _ (ap identifier_at (token_tail _ ts p.0 p.1) ∙ identifier_read name.1.0 name.0 p.0 rest name.1.1 name.2) refl)

label_apart : (ts rest after : List Token) → label ts rest → mark CloseParenthesis rest after → next_mark OpenParenthesis ts ≡ false
label_apart ts rest after (inl p) end = ap (next_mark OpenParenthesis) p ∙ (closing_ends rest after end).1
label_apart ts rest after (inr p) end = other_mark OpenParenthesis Comma ts p.0 p.1 refl

module _ (bytes : List ℕ) (symbols : List Declared) (own : HasOwnNames symbols) (named : AreNamed symbols) where
  with_label_read : (shape : Shape) (f : Tree) (ts rest after : List Token) → length ts ≤ length bytes → (formula bytes symbols 1000 shape [] 0 f ⨾ label) ts rest → mark CloseParenthesis rest after → with_label_at bytes symbols shape ts ≡ Ok (f, rest)
  unfolding with_label_at
  with_label_read shape f ts rest after near p end =
      then_ok _ _ _ _ (formula_read bytes symbols own named 1000 shape [] 0 f ts p.0 near p.1 (label_apart p.0 rest after p.2 end))
      (then_ok _ _ _ _ (label_read p.0 rest after p.2 end) refl)

  labelled_read : (shape : Shape) (f : Tree) (ts rest : List Token) → length ts ≤ length bytes → labelled bytes symbols shape f ts rest → labelled_at bytes symbols shape ts ≡ Ok (f, rest)
  unfolding labelled_at
  labelled_read shape f ts rest near p =
      let opened = p.1 in
      let inner = opened.2 in
      then_ok _ _ _ _ (mark_read OpenParenthesis ts opened.0 opened.1)
      (then_ok _ _ _ _ (with_label_read shape f opened.0 inner.0 p.0 (omega (arith, near, token_shorter _ ts opened.0 opened.1)) inner.1 inner.2)
      (then_ok _ _ _ _ (mark_read CloseParenthesis inner.0 p.0 inner.2)
      (then_ok _ _ _ _ (mark_read Dot p.0 rest p.2) refl)))

  -- an item that is written is read where its entry is the next of all
  module _ (all : List Entry) (few : HasFew all) where
    abbrev pub ReadsEntries : (Entry → Phrase) → Reader (List Entry) → Type 0
    ReadsEntries P read = (es : List Entry) (e : Entry) (ts rest : List Token) → Begins all (grown lone es e) → length ts ≤ length bytes → P e ts rest → read es ts ≡ Ok (grown lone es e, rest)

    pub formula_item_read : (role : Role) → ReadsEntries (formula_item bytes symbols role) (formula_item_at bytes symbols role)
    unfolding formula_item_at
    formula_item_read role es e ts rest begins near p =
        let w = p.2 in
        when_true _ _ _ _ (keyword_next bytes keywords.Formula ts w.0 w.1)
        (when_false _ _ _ _ (ap (λ r. is_conjecture r && has_conjecture es) (sym p.0) ∙ may_follow all es e few begins)
        (then_ok _ _ _ _ (ap (labelled_at bytes symbols shapes.Formula) (token_tail _ ts w.0 w.1) ∙ labelled_read shapes.Formula e.formula w.0 rest (omega (arith, near, token_shorter _ ts w.0 w.1)) w.2)
        (λ i. Ok (es ++ record { role = sym p.0 i; formula = e.formula; at = sym p.1 i } ∷ [], rest))))

    pub clause_item_read : ReadsEntries (clause_item bytes symbols) (clause_item_at bytes symbols)
    unfolding clause_item_at
    clause_item_read es e ts rest begins near p =
        let w = p.2 in
        then_ok _ _ _ _ (word_read words.Clause ts w.0 w.1)
        (then_ok _ _ _ _ (labelled_read shapes.Clause e.formula w.0 rest (omega (arith, near, token_shorter _ ts w.0 w.1)) w.2)
        (λ i. Ok (es ++ record { role = sym p.0 i; formula = e.formula; at = sym p.1 i } ∷ [], rest)))

    pub declaration_item_read : ReadsEntries (declaration_item bytes symbols) (declaration_item_at bytes symbols)
    unfolding declaration_item_at
    declaration_item_read es e ts rest begins near p =
        let w = p.2 in
        then_ok _ _ _ _ (declared_read bytes symbols own named e.formula ts w.0 rest near w.1 w.2)
        (then_ok _ _ _ _ (mark_read Dot w.0 rest w.2)
        (λ i. Ok (es ++ record { role = sym p.0 i; formula = e.formula; at = sym p.1 i } ∷ [], rest)))
