-- Laws with their proofs, not definitions that a reader must believe: the lists of a problem are read as they are written.
use Rattle.std.proofs.Common.{◌≡◌, ℕ, ◌≤◌, inl, inr, false, ◌||◌, List, [], ◌∷◌, ◌++◌, length, map, fold, Ok, refl, sym, ap, subst, ◌∙◌, append_assoc, length-append, arith}
use Rattle.std.proofs.lemmas.List.{append-nil}
use Rattle.std.specs.Str.{bytes_eq}
use Rattle.spl_symbols.specs.Symbols.{Declared, HasOwnNames, AreNamed}
use Rattle.formulas.specs.declared.entry.Role.{Role}
use Rattle.formulas.specs.declared.entry.Role.TheVariants.{Axiom, Conjecture, Clause}
use Rattle.formulas.specs.declared.entry.Entry.{Entry}
use Rattle.dfg_tokens.specs.declared.piece.Mark.TheVariants.{OpenParenthesis, CloseParenthesis, Comma, Dot}
use Rattle.dfg_tokens.specs.declared.word.Word.{Word}
use Rattle.dfg_tokens.specs.declared.word.Word.TheVariants as words
use Rattle.dfg_tokens.specs.declared.token.Token.{Token}
use Rattle.dfg_tokens.specs.Words.{spelling}
use Rattle.dfg_tokens.specs.Cursors.{tail}
use Rattle.dfg_terms.specs.declared.fault.FaultKind.TheVariants.{Unexpected, OutsideProfile}
use Rattle.dfg_terms.specs.Reading.{◌>>=◌, Reader, place, refuse, next_word, mark_at, word_at}
use Rattle.dfg_terms.specs.Phrases.{Phrase, ◌⨾◌, mark, word, each, enclosed}
use Rattle.dfg_terms.specs.ResultLaws.{bind_ok, chosen, ok_is, refused_not, then_ok, when_true, when_false}
use Rattle.dfg_terms.specs.StepLaws.{token_shorter, token_tail, mark_read, next_word_is, other_word, word_next, word_read}
use Rattle.dfg_terms.specs.StandLaws.{mark_stands, next_word_stands, word_stands}
use Rattle.dfg_terms.specs.FrontLaws.{Takes, Keeps, Leaves, then_takes, then_keeps, weaken, mark_takes, word_takes, enclosed_takes, each_keeps}
use Rattle.dfg_terms.specs.RowLaws.{grown, lone, fold_lone}
use Rattle.dfg_lists.specs.Lists.{listed, passed_at}
use Rattle.dfg_lists.specs.Grammar.{concatenated, list_end, passed}
use Rattle.dfg_lists.specs.GroupLaws.{end_keeps, listed_stand, listed_read, listed_keep, Begins, begins_earlier, whole}
use Rattle.dfg_lists.specs.PassingLaws.{passed_stands, passed_read, passed_takes}
use Rattle.dfg_problem.specs.Lists.{formula_item_at, clause_item_at, declaration_item_at, role_at, formula_list_at, form_at, clause_list_at, declaration_list_at, entry_list_at, ListsRead, is_outside_list, list_at}
use Rattle.dfg_problem.specs.Grammar.{declaration_item, formula_item, clause_item, role_word, entry_list, ListParts, problem_list}
use Rattle.dfg_problem.specs.EntryLaws.{AddsEntries, HasFew, KeepsFew, formula_item_stands, formula_item_few, clause_item_stands, clause_item_few, declaration_item_stands, declaration_item_few, formula_item_takes, clause_item_takes, declaration_item_takes, formula_item_no_end, clause_item_no_end, declaration_item_no_end, formula_item_read, clause_item_read, declaration_item_read}

-- what is left is no longer
pub shorter : (ts rest : List Token) → Leaves ts rest → length rest ≤ length ts
shorter ts rest l = omega (arith, ap length l.parts, length-append l.front rest)

-- ---- the words in heads

role_stands : (ts : List Token) (y : Role × List Token) → role_at ts ≡ Ok y → role_word y.0 ts y.1
unfolding role_at
role_stands ts y e =
    elim (chosen (next_word words.Axioms ts) (Ok (Axiom, tail ts)) _ (Ok y) e) [
      | inl h ↦ subst (λ (q : Role × List Token). role_word q.0 ts q.1) (ok_is (Axiom, tail ts) y h.1) (next_word_stands words.Axioms ts h.0)
      | inr h ↦ elim (chosen (next_word words.Conjectures ts) (Ok (Conjecture, tail ts)) (refuse Unexpected ts) (Ok y) h.1) [
        | inl f ↦ subst (λ (q : Role × List Token). role_word q.0 ts q.1) (ok_is (Conjecture, tail ts) y f.1) (next_word_stands words.Conjectures ts f.0)
        | inr f ↦ absurd (refused_not Unexpected ts y f.1)
      ]
    ]

role_read : (role : Role) (ts rest : List Token) → role_word role ts rest → role_at ts ≡ Ok (role, rest)
unfolding role_at
role_read Axiom ts rest p = when_true _ _ _ _ (word_next words.Axioms ts rest p) (ap (λ us. Ok (Axiom, us)) (token_tail _ ts rest p))
role_read Conjecture ts rest p = when_false _ _ _ _ (other_word words.Axioms words.Conjectures ts rest p refl) (when_true _ _ _ _ (word_next words.Conjectures ts rest p) (ap (λ us. Ok (Conjecture, us)) (token_tail _ ts rest p)))
role_read Clause ts rest p = absurd p

pub role_keeps : (role : Role) → Keeps (role_word role)
role_keeps Axiom ts rest p = weaken (word words.Axioms) (word_takes _) ts rest p
role_keeps Conjecture ts rest p = weaken (word words.Conjectures) (word_takes _) ts rest p
role_keeps Clause ts rest p = absurd p

form_stands : (ts rest : List Token) → form_at ts ≡ Ok rest → word words.Cnf ts rest
unfolding form_at
form_stands ts rest e =
    elim (chosen (next_word words.Dnf ts) (refuse OutsideProfile ts) (word_at words.Cnf ts) (Ok rest) e) [
      | inl h ↦ absurd (refused_not OutsideProfile ts rest h.1)
      | inr h ↦ word_stands words.Cnf ts rest h.1
    ]

form_read : (ts rest : List Token) → word words.Cnf ts rest → form_at ts ≡ Ok rest
unfolding form_at
form_read ts rest p = when_false _ _ _ _ (other_word words.Dnf words.Cnf ts rest p refl) (word_read words.Cnf ts rest p)

-- ---- what is read as a list is written so

abbrev AddsLists : (List Entry → Phrase) → Reader (List Entry) → Type 0
AddsLists P read = (es : List Entry) (ts : List Token) (y : List Entry × List Token) → read es ts ≡ Ok y → (g : List Entry) × (y.0 ≡ grown whole es g) × P g ts y.1

-- the items of a list
items_are : (P : Entry → Phrase) (read : Reader (List Entry)) → AddsEntries P read → (count : ℕ) → AddsLists (λ g. each P g ⨾ list_end) (listed read count)
items_are P read law count es ts y e =
    let all = listed_stand P (grown lone) read law count es ts y e in
    (all.0, all.1 ∙ fold_lone es all.0, all.2)

module _ (bytes : List ℕ) (symbols : List Declared) where
  declarations_stand : HasOwnNames symbols → AddsLists (λ g. mark Dot ⨾ each (declaration_item bytes symbols) g ⨾ list_end) (declaration_list_at bytes symbols)
  unfolding declaration_list_at
  declarations_stand own es ts y e =
      let a = bind_ok (mark_at Dot ts) (λ first. listed (declaration_item_at bytes symbols) (length bytes) es first) y e in
      let all = items_are (declaration_item bytes symbols) (declaration_item_at bytes symbols) (declaration_item_stands bytes symbols own) (length bytes) es a.0 y a.2 in
      (all.0, all.1, (a.0, mark_stands Dot ts a.0 a.1, all.2))

  abbrev Formulas : List Entry → Phrase
  Formulas g ts rest = (role : Role) × (enclosed (role_word role) ⨾ mark Dot ⨾ each (formula_item bytes symbols role) g ⨾ list_end) ts rest

  formulas_stand : AddsLists Formulas (formula_list_at bytes symbols)
  unfolding formula_list_at
  formulas_stand es ts y e =
      let a = bind_ok (mark_at OpenParenthesis ts) (λ inner. role_at inner >>= λ role. mark_at CloseParenthesis role.1 >>= λ closed. mark_at Dot closed >>= λ first. listed (formula_item_at bytes symbols role.0) (length bytes) es first) y e in
      let b = bind_ok (role_at a.0) (λ role. mark_at CloseParenthesis role.1 >>= λ closed. mark_at Dot closed >>= λ first. listed (formula_item_at bytes symbols role.0) (length bytes) es first) y a.2 in
      let c = bind_ok (mark_at CloseParenthesis b.0.1) (λ closed. mark_at Dot closed >>= λ first. listed (formula_item_at bytes symbols b.0.0) (length bytes) es first) y b.2 in
      let d = bind_ok (mark_at Dot c.0) (λ first. listed (formula_item_at bytes symbols b.0.0) (length bytes) es first) y c.2 in
      let all = items_are (formula_item bytes symbols b.0.0) (formula_item_at bytes symbols b.0.0) (formula_item_stands bytes symbols b.0.0) (length bytes) es d.0 y d.2 in
      (all.0, all.1, (b.0.0, (c.0, (a.0, mark_stands OpenParenthesis ts a.0 a.1, (b.0.1, role_stands a.0 b.0 b.1, mark_stands CloseParenthesis b.0.1 c.0 c.1)), (d.0, mark_stands Dot c.0 d.0 d.1, all.2))))

  abbrev Clauses : List Entry → Phrase
  Clauses g ts rest = (role : Role) × (enclosed (role_word role ⨾ mark Comma ⨾ word words.Cnf) ⨾ mark Dot ⨾ each (clause_item bytes symbols) g ⨾ list_end) ts rest

  clauses_stand : AddsLists Clauses (clause_list_at bytes symbols)
  unfolding clause_list_at
  clauses_stand es ts y e =
      let a = bind_ok (mark_at OpenParenthesis ts) (λ inner. role_at inner >>= λ role. mark_at Comma role.1 >>= λ form. form_at form >>= λ end. mark_at CloseParenthesis end >>= λ closed. mark_at Dot closed >>= λ first. listed (clause_item_at bytes symbols) (length bytes) es first) y e in
      let b = bind_ok (role_at a.0) (λ role. mark_at Comma role.1 >>= λ form. form_at form >>= λ end. mark_at CloseParenthesis end >>= λ closed. mark_at Dot closed >>= λ first. listed (clause_item_at bytes symbols) (length bytes) es first) y a.2 in
      let c = bind_ok (mark_at Comma b.0.1) (λ form. form_at form >>= λ end. mark_at CloseParenthesis end >>= λ closed. mark_at Dot closed >>= λ first. listed (clause_item_at bytes symbols) (length bytes) es first) y b.2 in
      let d = bind_ok (form_at c.0) (λ end. mark_at CloseParenthesis end >>= λ closed. mark_at Dot closed >>= λ first. listed (clause_item_at bytes symbols) (length bytes) es first) y c.2 in
      let f = bind_ok (mark_at CloseParenthesis d.0) (λ closed. mark_at Dot closed >>= λ first. listed (clause_item_at bytes symbols) (length bytes) es first) y d.2 in
      let g = bind_ok (mark_at Dot f.0) (λ first. listed (clause_item_at bytes symbols) (length bytes) es first) y f.2 in
      let all = items_are (clause_item bytes symbols) (clause_item_at bytes symbols) (clause_item_stands bytes symbols) (length bytes) es g.0 y g.2 in
      (all.0, all.1, (b.0.0, (f.0, (a.0, mark_stands OpenParenthesis ts a.0 a.1, (d.0, (b.0.1, role_stands a.0 b.0 b.1, (c.0, mark_stands Comma b.0.1 c.0 c.1, form_stands c.0 d.0 d.1)), mark_stands CloseParenthesis d.0 f.0 f.1)), (g.0, mark_stands Dot f.0 g.0 g.1, all.2))))

  entry_list_stands : HasOwnNames symbols → AddsLists (entry_list bytes symbols) (entry_list_at bytes symbols)
  unfolding entry_list_at
  entry_list_stands own es ts y e =
      elim (chosen (next_word words.ListOfDeclarations ts) (declaration_list_at bytes symbols es (tail ts)) _ (Ok y) e) [
        | inl h ↦ (let g = declarations_stand own es (tail ts) y h.1 in (g.0, g.1, inl (tail ts, next_word_stands words.ListOfDeclarations ts h.0, g.2)))
        | inr h ↦ elim (chosen (next_word words.ListOfFormulae ts) (formula_list_at bytes symbols es (tail ts)) _ (Ok y) h.1) [
          | inl f ↦ (let g = formulas_stand es (tail ts) y f.1 in (g.0, g.1, inr (inl (g.2.0, (tail ts, next_word_stands words.ListOfFormulae ts f.0, g.2.1)))))
          | inr f ↦ elim (chosen (next_word words.ListOfClauses ts) (clause_list_at bytes symbols es (tail ts)) (refuse Unexpected ts) (Ok y) f.1) [
            | inl c ↦ (let g = clauses_stand es (tail ts) y c.1 in (g.0, g.1, inr (inr (g.2.0, (tail ts, next_word_stands words.ListOfClauses ts c.0, g.2.1)))))
            | inr c ↦ absurd (refused_not Unexpected ts y c.1)
          ]
        ]
      ]

  -- one conjecture at the most
  declarations_few : KeepsFew (declaration_list_at bytes symbols)
  unfolding declaration_list_at
  declarations_few es ts y few e =
      let a = bind_ok (mark_at Dot ts) (λ first. listed (declaration_item_at bytes symbols) (length bytes) es first) y e in
      listed_keep HasFew (declaration_item_at bytes symbols) (declaration_item_few bytes symbols) (length bytes) es a.0 y few a.2

  formulas_few : KeepsFew (formula_list_at bytes symbols)
  unfolding formula_list_at
  formulas_few es ts y few e =
      let a = bind_ok (mark_at OpenParenthesis ts) (λ inner. role_at inner >>= λ role. mark_at CloseParenthesis role.1 >>= λ closed. mark_at Dot closed >>= λ first. listed (formula_item_at bytes symbols role.0) (length bytes) es first) y e in
      let b = bind_ok (role_at a.0) (λ role. mark_at CloseParenthesis role.1 >>= λ closed. mark_at Dot closed >>= λ first. listed (formula_item_at bytes symbols role.0) (length bytes) es first) y a.2 in
      let c = bind_ok (mark_at CloseParenthesis b.0.1) (λ closed. mark_at Dot closed >>= λ first. listed (formula_item_at bytes symbols b.0.0) (length bytes) es first) y b.2 in
      let d = bind_ok (mark_at Dot c.0) (λ first. listed (formula_item_at bytes symbols b.0.0) (length bytes) es first) y c.2 in
      listed_keep HasFew (formula_item_at bytes symbols b.0.0) (formula_item_few bytes symbols b.0.0) (length bytes) es d.0 y few d.2

  clauses_few : KeepsFew (clause_list_at bytes symbols)
  unfolding clause_list_at
  clauses_few es ts y few e =
      let a = bind_ok (mark_at OpenParenthesis ts) (λ inner. role_at inner >>= λ role. mark_at Comma role.1 >>= λ form. form_at form >>= λ end. mark_at CloseParenthesis end >>= λ closed. mark_at Dot closed >>= λ first. listed (clause_item_at bytes symbols) (length bytes) es first) y e in
      let b = bind_ok (role_at a.0) (λ role. mark_at Comma role.1 >>= λ form. form_at form >>= λ end. mark_at CloseParenthesis end >>= λ closed. mark_at Dot closed >>= λ first. listed (clause_item_at bytes symbols) (length bytes) es first) y a.2 in
      let c = bind_ok (mark_at Comma b.0.1) (λ form. form_at form >>= λ end. mark_at CloseParenthesis end >>= λ closed. mark_at Dot closed >>= λ first. listed (clause_item_at bytes symbols) (length bytes) es first) y b.2 in
      let d = bind_ok (form_at c.0) (λ end. mark_at CloseParenthesis end >>= λ closed. mark_at Dot closed >>= λ first. listed (clause_item_at bytes symbols) (length bytes) es first) y c.2 in
      let f = bind_ok (mark_at CloseParenthesis d.0) (λ closed. mark_at Dot closed >>= λ first. listed (clause_item_at bytes symbols) (length bytes) es first) y d.2 in
      let g = bind_ok (mark_at Dot f.0) (λ first. listed (clause_item_at bytes symbols) (length bytes) es first) y f.2 in
      listed_keep HasFew (clause_item_at bytes symbols) (clause_item_few bytes symbols) (length bytes) es g.0 y few g.2

  entry_list_few : KeepsFew (entry_list_at bytes symbols)
  unfolding entry_list_at
  entry_list_few es ts y few e =
      elim (chosen (next_word words.ListOfDeclarations ts) (declaration_list_at bytes symbols es (tail ts)) _ (Ok y) e) [
        | inl h ↦ declarations_few es (tail ts) y few h.1
        | inr h ↦ elim (chosen (next_word words.ListOfFormulae ts) (formula_list_at bytes symbols es (tail ts)) _ (Ok y) h.1) [
          | inl f ↦ formulas_few es (tail ts) y few f.1
          | inr f ↦ elim (chosen (next_word words.ListOfClauses ts) (clause_list_at bytes symbols es (tail ts)) (refuse Unexpected ts) (Ok y) f.1) [
            | inl c ↦ clauses_few es (tail ts) y few c.1
            | inr c ↦ absurd (refused_not Unexpected ts y c.1)
          ]
        ]
      ]

-- ---- all lists

abbrev pub list_step : ListsRead → ListParts → ListsRead
list_step s g = (s.0 ++ g.entries, s.1 ++ g.proofs)

pub fold_lists : (s : ListsRead) (gs : List ListParts) → fold list_step s gs ≡ (s.0 ++ concatenated (map (λ g. g.entries) gs), s.1 ++ concatenated (map (λ g. g.proofs) gs))
fold_lists s [] = λ i. (sym (append-nil s.0) i, sym (append-nil s.1) i)
fold_lists s (g ∷ gs) =
    fold_lists (list_step s g) gs
    ∙ (λ i. (append_assoc s.0 g.entries (concatenated (map (λ h. h.entries) gs)) i, append_assoc s.1 g.proofs (concatenated (map (λ h. h.proofs) gs)) i))

module _ (bytes : List ℕ) (symbols : List Declared) where
  abbrev NextList : ListsRead → List Token → ListsRead × List Token → Type 0
  NextList s ts q = (g : ListParts) × (q.0 ≡ list_step s g) × problem_list bytes symbols g ts q.1

  pub list_stands : HasOwnNames symbols → (s : ListsRead) (ts : List Token) (y : ListsRead × List Token) → list_at bytes symbols s ts ≡ Ok y → NextList s ts y
  unfolding list_at
  list_stands own s ts y e =
      elim (chosen (is_outside_list ts) (refuse OutsideProfile ts) _ (Ok y) e) [
        | inl o ↦ absurd (refused_not OutsideProfile ts y o.1)
        | inr o ↦ elim (chosen (next_word words.ListOfProof ts) (passed_at (tail ts) >>= λ rest. Ok ((s.0, s.1 ++ place ts ∷ []), rest)) _ (Ok y) o.1) [
          | inl h ↦ (let a = bind_ok (passed_at (tail ts)) (λ rest. Ok ((s.0, s.1 ++ place ts ∷ []), rest)) y h.1 in
              let g : ListParts = record { entries = []; proofs = place ts ∷ [] } in
              subst (NextList s ts) (ok_is ((s.0, s.1 ++ place ts ∷ []), a.0) y a.2)
              (g, (λ i. (sym (append-nil s.0) i, s.1 ++ place ts ∷ [])), inr (inl (refl, refl, (tail ts, next_word_stands words.ListOfProof ts h.0, passed_stands (tail ts) a.0 a.1)))))
          | inr h ↦ elim (chosen (next_word words.ListOfSettings ts) (passed_at (tail ts) >>= λ rest. Ok (s, rest)) _ (Ok y) h.1) [
            | inl f ↦ (let a = bind_ok (passed_at (tail ts)) (λ rest. Ok (s, rest)) y f.1 in
                let g : ListParts = record { entries = []; proofs = [] } in
                subst (NextList s ts) (ok_is (s, a.0) y a.2)
                (g, (λ i. (sym (append-nil s.0) i, sym (append-nil s.1) i)), inr (inr (refl, refl, (tail ts, next_word_stands words.ListOfSettings ts f.0, passed_stands (tail ts) a.0 a.1)))))
            | inr f ↦ (let a = bind_ok (entry_list_at bytes symbols s.0 ts) (λ x. Ok ((x.0, s.1), x.1)) y f.1 in
                let all = entry_list_stands bytes symbols own s.0 ts a.0 a.1 in
                let g : ListParts = record { entries = all.0; proofs = [] } in
                subst (NextList s ts) (ok_is ((a.0.0, s.1), a.0.1) y a.2)
                (g, (λ i. (all.1 i, sym (append-nil s.1) i)), inl (refl, all.2)))
          ]
        ]
      ]

  pub list_few : (s : ListsRead) (ts : List Token) (y : ListsRead × List Token) → HasFew s.0 → list_at bytes symbols s ts ≡ Ok y → HasFew y.0.0
  unfolding list_at
  list_few s ts y few e =
      elim (chosen (is_outside_list ts) (refuse OutsideProfile ts) _ (Ok y) e) [
        | inl o ↦ absurd (refused_not OutsideProfile ts y o.1)
        | inr o ↦ elim (chosen (next_word words.ListOfProof ts) (passed_at (tail ts) >>= λ rest. Ok ((s.0, s.1 ++ place ts ∷ []), rest)) _ (Ok y) o.1) [
          | inl h ↦ (let a = bind_ok (passed_at (tail ts)) (λ rest. Ok ((s.0, s.1 ++ place ts ∷ []), rest)) y h.1 in
              subst (λ (q : ListsRead × List Token). HasFew q.0.0) (ok_is ((s.0, s.1 ++ place ts ∷ []), a.0) y a.2) few)
          | inr h ↦ elim (chosen (next_word words.ListOfSettings ts) (passed_at (tail ts) >>= λ rest. Ok (s, rest)) _ (Ok y) h.1) [
            | inl f ↦ (let a = bind_ok (passed_at (tail ts)) (λ rest. Ok (s, rest)) y f.1 in subst (λ (q : ListsRead × List Token). HasFew q.0.0) (ok_is (s, a.0) y a.2) few)
            | inr f ↦ (let a = bind_ok (entry_list_at bytes symbols s.0 ts) (λ x. Ok ((x.0, s.1), x.1)) y f.1 in
                subst (λ (q : ListsRead × List Token). HasFew q.0.0) (ok_is ((a.0.0, s.1), a.0.1) y a.2) (entry_list_few bytes symbols s.0 ts a.0 few a.1))
          ]
        ]
      ]

  -- ---- lists take tokens

  items_keep_front : (P : Entry → Phrase) → ((e : Entry) → Takes (P e)) → (es : List Entry) → Keeps (mark Dot ⨾ each P es ⨾ list_end)
  items_keep_front P takes es = then_keeps (mark Dot) (each P es ⨾ list_end) (weaken (mark Dot) (mark_takes _)) (then_keeps (each P es) list_end (each_keeps P (λ e. weaken (P e) (takes e)) es) end_keeps)

  entry_list_takes : (es : List Entry) → Takes (entry_list bytes symbols es)
  entry_list_takes es ts rest (inl p) = then_takes (word words.ListOfDeclarations) (mark Dot ⨾ each (declaration_item bytes symbols) es ⨾ list_end) (word_takes _) (items_keep_front (declaration_item bytes symbols) (declaration_item_takes bytes symbols) es) ts rest p
  entry_list_takes es ts rest (inr (inl p)) =
      let items = mark Dot ⨾ each (formula_item bytes symbols p.0) es ⨾ list_end in
      let head = enclosed (role_word p.0) in
      then_takes (word words.ListOfFormulae) (head ⨾ items) (word_takes _) (then_keeps head items (weaken head (enclosed_takes (role_word p.0) (role_keeps p.0))) (items_keep_front (formula_item bytes symbols p.0) (formula_item_takes bytes symbols p.0) es)) ts rest p.1
  entry_list_takes es ts rest (inr (inr p)) =
      let items = mark Dot ⨾ each (clause_item bytes symbols) es ⨾ list_end in
      let inner = role_word p.0 ⨾ mark Comma ⨾ word words.Cnf in
      let head = enclosed inner in
      then_takes (word words.ListOfClauses) (head ⨾ items) (word_takes _) (then_keeps head items (weaken head (enclosed_takes inner (then_keeps (role_word p.0) (mark Comma ⨾ word words.Cnf) (role_keeps p.0) (then_keeps (mark Comma) (word words.Cnf) (weaken (mark Comma) (mark_takes _)) (weaken (word words.Cnf) (word_takes _)))))) (items_keep_front (clause_item bytes symbols) (clause_item_takes bytes symbols) es)) ts rest p.1

  pub list_takes : (g : ListParts) → Takes (problem_list bytes symbols g)
  list_takes g ts rest (inl p) = entry_list_takes g.entries ts rest p.1
  list_takes g ts rest (inr (inl p)) = then_takes (word words.ListOfProof) passed (word_takes _) (weaken passed passed_takes) ts rest p.2
  list_takes g ts rest (inr (inr p)) = then_takes (word words.ListOfSettings) passed (word_takes _) (weaken passed passed_takes) ts rest p.2

  -- no list begins with another word
  pub list_other : (w : Word) → bytes_eq (spelling words.ListOfDeclarations) (spelling w) ≡ false → bytes_eq (spelling words.ListOfFormulae) (spelling w) ≡ false → bytes_eq (spelling words.ListOfClauses) (spelling w) ≡ false → bytes_eq (spelling words.ListOfProof) (spelling w) ≡ false → bytes_eq (spelling words.ListOfSettings) (spelling w) ≡ false
      → (g : ListParts) (ts rest : List Token) → problem_list bytes symbols g ts rest → next_word w ts ≡ false
  list_other w d f c p s g ts rest (inl (e, inl q)) = other_word w words.ListOfDeclarations ts q.0 q.1 d
  list_other w d f c p s g ts rest (inl (e, inr (inl q))) = other_word w words.ListOfFormulae ts q.1.0 q.1.1 f
  list_other w d f c p s g ts rest (inl (e, inr (inr q))) = other_word w words.ListOfClauses ts q.1.0 q.1.1 c
  list_other w d f c p s g ts rest (inr (inl q)) = other_word w words.ListOfProof ts q.2.0 q.2.1 p
  list_other w d f c p s g ts rest (inr (inr q)) = other_word w words.ListOfSettings ts q.2.0 q.2.1 s

-- ---- what is written is read

module _ (bytes : List ℕ) (symbols : List Declared) (own : HasOwnNames symbols) (named : AreNamed symbols) (all : List Entry) (few : HasFew all) where
  -- items up to their end, each the next of all
  items_are_read : (P : Entry → Phrase) (read : Reader (List Entry)) → ((e : Entry) → Takes (P e)) → ((e : Entry) (ts rest : List Token) → P e ts rest → next_word words.EndOfList ts ≡ false)
      → ((es : List Entry) (e : Entry) (ts rest : List Token) → Begins all (grown lone es e) → length ts ≤ length bytes → P e ts rest → read es ts ≡ Ok (grown lone es e, rest))
      → (es g : List Entry) (ts rest : List Token) → Begins all (es ++ g) → length ts ≤ length bytes → (each P g ⨾ list_end) ts rest → listed read (length bytes) es ts ≡ Ok (es ++ g, rest)
  items_are_read P read takes others law es g ts rest begins near p =
      listed_read P (grown lone) read (Begins all) (begins_earlier lone all) takes (length bytes) others law g es ts rest (subst (Begins all) (sym (fold_lone es g)) begins) near p
      ∙ ap (λ es'. Ok (es', rest)) (fold_lone es g)

  declarations_read : (es g : List Entry) (ts rest : List Token) → Begins all (es ++ g) → length ts ≤ length bytes → (mark Dot ⨾ each (declaration_item bytes symbols) g ⨾ list_end) ts rest → declaration_list_at bytes symbols es ts ≡ Ok (es ++ g, rest)
  unfolding declaration_list_at
  declarations_read es g ts rest begins near p =
      then_ok _ _ _ _ (mark_read Dot ts p.0 p.1)
      (items_are_read (declaration_item bytes symbols) (declaration_item_at bytes symbols) (declaration_item_takes bytes symbols) (declaration_item_no_end bytes symbols) (declaration_item_read bytes symbols own named all few) es g p.0 rest begins (omega (arith, near, token_shorter _ ts p.0 p.1)) p.2)

  formulas_read : (es g : List Entry) (ts rest : List Token) → Begins all (es ++ g) → length ts ≤ length bytes → Formulas bytes symbols g ts rest → formula_list_at bytes symbols es ts ≡ Ok (es ++ g, rest)
  unfolding formula_list_at
  formulas_read es g ts rest begins near p =
      let opened = p.1.1 in
      let inner = opened.2 in
      let dot = p.1.2 in
      let front = weaken (enclosed (role_word p.0)) (enclosed_takes (role_word p.0) (role_keeps p.0)) ts p.1.0 opened in
      then_ok _ _ _ _ (mark_read OpenParenthesis ts opened.0 opened.1)
      (then_ok _ _ _ _ (role_read p.0 opened.0 inner.0 inner.1)
      (then_ok _ _ _ _ (mark_read CloseParenthesis inner.0 p.1.0 inner.2)
      (then_ok _ _ _ _ (mark_read Dot p.1.0 dot.0 dot.1)
      (items_are_read (formula_item bytes symbols p.0) (formula_item_at bytes symbols p.0) (formula_item_takes bytes symbols p.0) (formula_item_no_end bytes symbols p.0) (formula_item_read bytes symbols own named all few p.0) es g dot.0 rest begins (omega (arith, near, shorter ts p.1.0 front, token_shorter _ p.1.0 dot.0 dot.1)) dot.2))))

  clauses_read : (es g : List Entry) (ts rest : List Token) → Begins all (es ++ g) → length ts ≤ length bytes → Clauses bytes symbols g ts rest → clause_list_at bytes symbols es ts ≡ Ok (es ++ g, rest)
  unfolding clause_list_at
  clauses_read es g ts rest begins near p =
      let opened = p.1.1 in
      let inner = opened.2 in
      let from = inner.1 in
      let comma = from.2 in
      let dot = p.1.2 in
      let within = role_word p.0 ⨾ mark Comma ⨾ word words.Cnf in
      let front = weaken (enclosed within) (enclosed_takes within (then_keeps (role_word p.0) (mark Comma ⨾ word words.Cnf) (role_keeps p.0) (then_keeps (mark Comma) (word words.Cnf) (weaken (mark Comma) (mark_takes _)) (weaken (word words.Cnf) (word_takes _))))) ts p.1.0 opened in
      then_ok _ _ _ _ (mark_read OpenParenthesis ts opened.0 opened.1)
      (then_ok _ _ _ _ (role_read p.0 opened.0 from.0 from.1)
      (then_ok _ _ _ _ (mark_read Comma from.0 comma.0 comma.1)
      (then_ok _ _ _ _ (form_read comma.0 inner.0 comma.2)
      (then_ok _ _ _ _ (mark_read CloseParenthesis inner.0 p.1.0 inner.2)
      (then_ok _ _ _ _ (mark_read Dot p.1.0 dot.0 dot.1)
      (items_are_read (clause_item bytes symbols) (clause_item_at bytes symbols) (clause_item_takes bytes symbols) (clause_item_no_end bytes symbols) (clause_item_read bytes symbols own named all few) es g dot.0 rest begins (omega (arith, near, shorter ts p.1.0 front, token_shorter _ p.1.0 dot.0 dot.1)) dot.2))))))

  entry_list_read : (es g : List Entry) (ts rest : List Token) → Begins all (es ++ g) → length ts ≤ length bytes → entry_list bytes symbols g ts rest → entry_list_at bytes symbols es ts ≡ Ok (es ++ g, rest)
  unfolding entry_list_at
  entry_list_read es g ts rest begins near (inl p) =
      when_true _ _ _ _ (word_next words.ListOfDeclarations ts p.0 p.1)
      (ap (declaration_list_at bytes symbols es) (token_tail _ ts p.0 p.1) ∙ declarations_read es g p.0 rest begins (omega (arith, near, token_shorter _ ts p.0 p.1)) p.2)
  entry_list_read es g ts rest begins near (inr (inl p)) =
      let w = p.1 in
      when_false _ _ _ _ (other_word words.ListOfDeclarations words.ListOfFormulae ts w.0 w.1 refl)
      (when_true _ _ _ _ (word_next words.ListOfFormulae ts w.0 w.1)
      (ap (formula_list_at bytes symbols es) (token_tail _ ts w.0 w.1) ∙ formulas_read es g w.0 rest begins (omega (arith, near, token_shorter _ ts w.0 w.1)) (p.0, w.2)))
  entry_list_read es g ts rest begins near (inr (inr p)) =
      let w = p.1 in
      when_false _ _ _ _ (other_word words.ListOfDeclarations words.ListOfClauses ts w.0 w.1 refl)
      (when_false _ _ _ _ (other_word words.ListOfFormulae words.ListOfClauses ts w.0 w.1 refl)
      (when_true _ _ _ _ (word_next words.ListOfClauses ts w.0 w.1)
      (ap (clause_list_at bytes symbols es) (token_tail _ ts w.0 w.1) ∙ clauses_read es g w.0 rest begins (omega (arith, near, token_shorter _ ts w.0 w.1)) (p.0, w.2))))

  list_is_taken : (v : Word) (ts rest : List Token) → word v ts rest → (bytes_eq (spelling v) (spelling words.ListOfTerms) || bytes_eq (spelling v) (spelling words.ListOfSpecialFormulae) || bytes_eq (spelling v) (spelling words.ListOfIncludes)) ≡ false → is_outside_list ts ≡ false
  list_is_taken v ts rest p e =
      let is : (w : Word) → next_word w ts ≡ bytes_eq (spelling v) (spelling w) = λ w. next_word_is w v ts rest p in
      rw (is words.ListOfTerms, is words.ListOfSpecialFormulae, is words.ListOfIncludes) e

  entry_list_taken : (g : List Entry) (ts rest : List Token) → entry_list bytes symbols g ts rest → (is_outside_list ts ≡ false) × (next_word words.ListOfProof ts ≡ false) × (next_word words.ListOfSettings ts ≡ false)
  entry_list_taken g ts rest (inl p) = (list_is_taken words.ListOfDeclarations ts p.0 p.1 refl, other_word words.ListOfProof words.ListOfDeclarations ts p.0 p.1 refl, other_word words.ListOfSettings words.ListOfDeclarations ts p.0 p.1 refl)
  entry_list_taken g ts rest (inr (inl p)) = let w = p.1 in (list_is_taken words.ListOfFormulae ts w.0 w.1 refl, other_word words.ListOfProof words.ListOfFormulae ts w.0 w.1 refl, other_word words.ListOfSettings words.ListOfFormulae ts w.0 w.1 refl)
  entry_list_taken g ts rest (inr (inr p)) = let w = p.1 in (list_is_taken words.ListOfClauses ts w.0 w.1 refl, other_word words.ListOfProof words.ListOfClauses ts w.0 w.1 refl, other_word words.ListOfSettings words.ListOfClauses ts w.0 w.1 refl)

  pub list_read : (s : ListsRead) (g : ListParts) (ts rest : List Token) → Begins all (list_step s g).0 → length ts ≤ length bytes → problem_list bytes symbols g ts rest → list_at bytes symbols s ts ≡ Ok (list_step s g, rest)
  unfolding list_at
  list_read s g ts rest begins near (inl p) =
      let taken = entry_list_taken g.entries ts rest p.1 in
      when_false _ _ _ _ taken.0
      (when_false _ _ _ _ taken.1
      (when_false _ _ _ _ taken.2
      (then_ok _ _ _ _ (entry_list_read s.0 g.entries ts rest begins near p.1)
      (λ i. Ok ((s.0 ++ g.entries, (sym (append-nil s.1) ∙ ap (λ (ps : List ℕ). s.1 ++ ps) (sym p.0)) i), rest)))))
  list_read s g ts rest begins near (inr (inl p)) =
      let w = p.2 in
      when_false _ _ _ _ (list_is_taken words.ListOfProof ts w.0 w.1 refl)
      (when_true _ _ _ _ (word_next words.ListOfProof ts w.0 w.1)
      (then_ok _ _ _ _ (ap passed_at (token_tail _ ts w.0 w.1) ∙ passed_read w.0 rest w.2)
      (λ i. Ok (((sym (append-nil s.0) ∙ ap (λ (es : List Entry). s.0 ++ es) (sym p.0)) i, s.1 ++ sym p.1 i), rest))))
  list_read s g ts rest begins near (inr (inr p)) =
      let w = p.2 in
      when_false _ _ _ _ (list_is_taken words.ListOfSettings ts w.0 w.1 refl)
      (when_false _ _ _ _ (other_word words.ListOfProof words.ListOfSettings ts w.0 w.1 refl)
      (when_true _ _ _ _ (word_next words.ListOfSettings ts w.0 w.1)
      (then_ok _ _ _ _ (ap passed_at (token_tail _ ts w.0 w.1) ∙ passed_read w.0 rest w.2)
      (λ i. Ok (((sym (append-nil s.0) ∙ ap (λ (es : List Entry). s.0 ++ es) (sym p.0)) i, (sym (append-nil s.1) ∙ ap (λ (ps : List ℕ). s.1 ++ ps) (sym p.1)) i), rest)))))
