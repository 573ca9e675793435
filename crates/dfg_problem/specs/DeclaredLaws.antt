-- Laws with their proofs, not definitions that a reader must believe: declarations of sorts are read as they are written.
use Rattle.std.proofs.Common.{◌≡◌, ℕ, suc, ◌+◌, ◌≤◌, inl, inr, Bool, true, false, ◌||◌, List, [], ◌∷◌, ◌++◌, length, Ok, refl, sym, ap, subst, ◌∙◌, arith}
use Rattle.spl_terms.specs.declared.term.Symbol.{Symbol}
use Rattle.spl_terms.specs.declared.term.Term.{Var}
use Rattle.spl_symbols.specs.Symbols.{Declared, HasOwnNames, AreNamed}
use Rattle.formulas.specs.declared.tree.Tree.{Tree}
use Rattle.dfg_tokens.specs.declared.piece.Mark.TheVariants.{OpenParenthesis, CloseParenthesis, Comma, Dot}
use Rattle.dfg_tokens.specs.declared.word.Word.TheVariants as words
use Rattle.dfg_tokens.specs.declared.token.Token.{Token}
use Rattle.dfg_tokens.specs.Tokens.{token_bytes}
use Rattle.dfg_tokens.specs.Cursors.{tail}
use Rattle.dfg_terms.specs.declared.fault.FaultKind.TheVariants.{Unexpected, OutsideProfile}
use Rattle.dfg_terms.specs.declared.symbols.Place.TheVariants as places
use Rattle.dfg_terms.specs.Reading.{◌>>=◌, refuse, next_mark, next_word, mark_at, name_at, adding, commas}
use Rattle.dfg_terms.specs.Symbols.{symbol_named, checked_arity}
use Rattle.dfg_terms.specs.Phrases.{Phrase, ◌⨾◌, mark, each_behind_comma, comma_separated, enclosed}
use Rattle.dfg_terms.specs.Grammar.{IsSymbol, symbol}
use Rattle.dfg_terms.specs.ResultLaws.{bind_ok, chosen, ok_is, refused_not, then_ok, when_true, when_false}
use Rattle.dfg_terms.specs.StepLaws.{token_shorter, token_tail, mark_next, mark_read, other_mark, name_read}
use Rattle.dfg_terms.specs.StandLaws.{next_mark_stands, mark_stands, name_stands, separated_stand}
use Rattle.dfg_terms.specs.FrontLaws.{Takes, Keeps, token_takes, then_takes, then_keeps, weaken, nothing_keeps, mark_takes, enclosed_takes}
use Rattle.dfg_terms.specs.RowLaws.{Ends, grown, lone, fold_lone, separated_read, Anything}
use Rattle.dfg_terms.specs.SymbolLaws.{symbol_stands, symbol_read, counted_stands, counted_read}
use Rattle.dfg_terms.specs.TermLaws.{closing_ends}
use Rattle.dfg_formulas.specs.Formulas.{sort_named, term_declaration_at}
use Rattle.dfg_formulas.specs.Grammar.{sort_name}
use Rattle.dfg_formulas.specs.ItemLaws.{sort_stands, sort_read}
use Rattle.dfg_formulas.specs.DeclarationLaws.{declaration_stands, declaration_takes, declaration_read}
use Rattle.dfg_problem.specs.declared.keywords.Keyword.TheVariants as keywords
use Rattle.dfg_problem.specs.Keywords.{keyword, next_keyword}
use Rattle.dfg_problem.specs.Declarations.{inclusion, variables, argument_sorts, sort_name_at, inclusion_at, sorts_behind, argument_sorts_at, declared_at}
use Rattle.dfg_problem.specs.Grammar.{membership, sort_declaration}
use Rattle.dfg_problem.specs.KeywordLaws.{keyword_stands, next_keyword_is, keyword_next, keyword_no_word}

pub one_variable_more : (n : ℕ) → variables (n + 1) ≡ variables n ++ Var n ∷ []
one_variable_more n = let k : n + 1 ≡ suc n = omega arith in ap variables k

-- ---- what is read is written so

module _ (bytes : List ℕ) (symbols : List Declared) where
  sort_name_stands : (ts : List Token) (y : Symbol × List Token) → sort_name_at bytes symbols ts ≡ Ok y → sort_name bytes symbols y.0 ts y.1
  unfolding sort_name_at
  sort_name_stands ts y e =
      let a = bind_ok (name_at ts) (λ name. sort_named bytes symbols name.0 >>= λ sort. Ok (sort, name.1)) y e in
      let b = bind_ok (sort_named bytes symbols a.0.0) (λ sort. Ok (sort, a.0.1)) y a.2 in
      let name = name_stands ts a.0 a.1 in
      subst (λ (q : Symbol × List Token). sort_name bytes symbols q.0 ts q.1) (ok_is (b.0, a.0.1) y b.2)
      (a.0.0, (token_bytes bytes a.0.0, sort_stands bytes symbols a.0.0 b.0 b.1, (name.0, name.1, name.2, refl)), name.3)

  abbrev IsInclusion : Tree → List Token → List Token → Type 0
  IsInclusion f ts rest = (s : Symbol) × (t : Symbol) × (f ≡ inclusion s t) × enclosed (sort_name bytes symbols s ⨾ mark Comma ⨾ sort_name bytes symbols t) ts rest

  inclusion_stands : (ts : List Token) (y : Tree × List Token) → inclusion_at bytes symbols ts ≡ Ok y → IsInclusion y.0 ts y.1
  unfolding inclusion_at
  inclusion_stands ts y e =
      let a = bind_ok (mark_at OpenParenthesis ts) _ y e in
      let b = bind_ok (sort_name_at bytes symbols a.0) _ y a.2 in
      let c = bind_ok (mark_at Comma b.0.1) _ y b.2 in
      let d = bind_ok (sort_name_at bytes symbols c.0) _ y c.2 in
      let f = bind_ok (mark_at CloseParenthesis d.0.1) _ y d.2 in
      subst (λ (q : Tree × List Token). IsInclusion q.0 ts q.1) (ok_is (inclusion b.0.0 d.0.0, f.0) y f.2)
      (b.0.0, d.0.0, refl, (a.0, mark_stands OpenParenthesis ts a.0 a.1, (d.0.1, (b.0.1, sort_name_stands a.0 b.0 b.1, (c.0, mark_stands Comma b.0.1 c.0 c.1, sort_name_stands c.0 d.0 d.1)), mark_stands CloseParenthesis d.0.1 f.0 f.1)))

  added_stands : (s : List Symbol) (ts : List Token) (y : List Symbol × List Token) → adding (sort_name_at bytes symbols) s ts ≡ Ok y → (x : Symbol) × (y.0 ≡ grown lone s x) × sort_name bytes symbols x ts y.1
  added_stands s ts y e =
      let b = bind_ok (sort_name_at bytes symbols ts) (λ x. Ok (s ++ x.0 ∷ [], x.1)) y e in
      let same = ok_is (s ++ b.0.0 ∷ [], b.0.1) y b.2 in
      (b.0.0, ap (λ (q : List Symbol × List Token). q.0) (sym same), subst (λ (q : List Symbol × List Token). sort_name bytes symbols b.0.0 ts q.1) same (sort_name_stands ts b.0 b.1))

  behind_a_comma : (sorts : List Symbol) (ts rest : List Token) → mark Comma ts (tail ts) → comma_separated (sort_name bytes symbols) sorts (tail ts) rest → each_behind_comma (sort_name bytes symbols) sorts ts rest
  behind_a_comma [] ts rest comma p = absurd p
  behind_a_comma (s ∷ sorts) ts rest comma p = (tail ts, comma, p)

  sorts_stand : (ts : List Token) (y : List Symbol × List Token) → sorts_behind bytes symbols ts ≡ Ok y → each_behind_comma (sort_name bytes symbols) y.0 ts y.1
  unfolding sorts_behind
  sorts_stand ts y e =
      elim (chosen (next_mark Comma ts) (commas (adding (sort_name_at bytes symbols)) (length bytes) [] (tail ts)) (Ok ([], ts)) (Ok y) e) [
        | inl h ↦ (let all = separated_stand (sort_name bytes symbols) (grown lone) (adding (sort_name_at bytes symbols)) added_stands (length bytes) [] (tail ts) y h.1 in
            subst (λ (sorts : List Symbol). each_behind_comma (sort_name bytes symbols) sorts ts y.1) (sym (all.1 ∙ fold_lone [] all.0)) (behind_a_comma all.0 ts y.1 (next_mark_stands Comma ts h.0) all.2))
        | inr h ↦ subst (λ (q : List Symbol × List Token). each_behind_comma (sort_name bytes symbols) q.0 ts q.1) (ok_is ([], ts) y h.1) refl
      ]

  abbrev ArePredicate : Symbol → List Symbol → Phrase
  ArePredicate p sorts = symbol bytes symbols places.Atom (λ t. Unit {0}) p (length sorts) ⨾ each_behind_comma (sort_name bytes symbols) sorts

  abbrev HasArgumentSorts : Tree → List Token → List Token → Type 0
  HasArgumentSorts f ts rest = (p : Symbol) × (sorts : List Symbol) × (f ≡ argument_sorts p sorts) × enclosed (ArePredicate p sorts) ts rest

  arguments_stand : (ts : List Token) (y : Tree × List Token) → argument_sorts_at bytes symbols ts ≡ Ok y → HasArgumentSorts y.0 ts y.1
  unfolding argument_sorts_at
  arguments_stand ts y e =
      let a = bind_ok (mark_at OpenParenthesis ts) _ y e in
      let b = bind_ok (name_at a.0) _ y a.2 in
      let c = bind_ok (symbol_named bytes symbols places.Atom b.0.0) _ y b.2 in
      let d = bind_ok (sorts_behind bytes symbols b.0.1) _ y c.2 in
      let f = bind_ok (mark_at CloseParenthesis d.0.1) _ y d.2 in
      let g = bind_ok (checked_arity b.0.0.at c.0 (length d.0.0)) _ y f.2 in
      let name = name_stands a.0 b.0 b.1 in
      let is : IsSymbol symbols places.Atom c.0.symbol (length d.0.0) (token_bytes bytes b.0.0) = subst (λ (n : ℕ). IsSymbol symbols places.Atom c.0.symbol n (token_bytes bytes b.0.0)) (counted_stands b.0.0.at c.0 (length d.0.0) g.1) (symbol_stands bytes symbols places.Atom b.0.0 c.0 c.1) in
      subst (λ (q : Tree × List Token). HasArgumentSorts q.0 ts q.1) (ok_is (argument_sorts c.0.symbol d.0.0, f.0) y g.2)
      (c.0.symbol, d.0.0, refl, (a.0, mark_stands OpenParenthesis ts a.0 a.1, (d.0.1, (b.0.1, (b.0.0, (token_bytes bytes b.0.0, is, (name.0, name.1, name.2, refl), tt), name.3), sorts_stand b.0.1 d.0 d.1), mark_stands CloseParenthesis d.0.1 f.0 f.1)))

none_of_four : (a b c d : Bool) → a ≡ false → b ≡ false → c ≡ false → d ≡ false → (a || b || c || d) ≡ false
none_of_four a b c d p q r s = rw (p, q, r, s) refl

four_are_none : (a b c d : Bool) → (a || b || c || d) ≡ false → (a ≡ false) × (b ≡ false) × (c ≡ false) × (d ≡ false)
four_are_none false false false false e = (refl, refl, refl, refl)
four_are_none true b c d e = absurd cc
four_are_none false true c d e = absurd cc
four_are_none false false true d e = absurd cc
four_are_none false false false true e = absurd cc

module _ (bytes : List ℕ) (symbols : List Declared) (own : HasOwnNames symbols) where
  pub declared_stands : (ts : List Token) (y : Tree × List Token) → declared_at bytes symbols ts ≡ Ok y → sort_declaration bytes symbols y.0 ts y.1
  unfolding declared_at
  declared_stands ts y e =
      elim (chosen (next_word words.EndOfList ts) (refuse Unexpected ts) _ (Ok y) e) [
        | inl l ↦ absurd (refused_not Unexpected ts y l.1)
        | inr l ↦ elim (chosen (next_keyword bytes keywords.Sort ts) (refuse OutsideProfile ts) _ (Ok y) l.1) [
          | inl h ↦ absurd (refused_not OutsideProfile ts y h.1)
          | inr h ↦ elim (chosen (next_keyword bytes keywords.Subsort ts) (inclusion_at bytes symbols (tail ts)) _ (Ok y) h.1) [
            | inl s ↦ (let p = inclusion_stands bytes symbols (tail ts) y s.1 in inl (p.0, p.1, p.2, (tail ts, keyword_stands bytes keywords.Subsort ts s.0, p.3)))
            | inr s ↦ elim (chosen (next_keyword bytes keywords.Predicate ts) (argument_sorts_at bytes symbols (tail ts)) _ (Ok y) s.1) [
              | inl q ↦ (let p = arguments_stand bytes symbols (tail ts) y q.1 in inr (inl (p.0, p.1, p.2, (tail ts, keyword_stands bytes keywords.Predicate ts q.0, p.3))))
              | inr q ↦ (let a = bind_ok (term_declaration_at bytes symbols 1000 [] 0 ts) (λ x. Ok (x.0.0, x.1)) y q.1 in
                  let p = declaration_stands bytes symbols own 1000 [] 0 ts a.0 a.1 in
                  let others = none_of_four (next_word words.EndOfList ts) (next_keyword bytes keywords.Sort ts) (next_keyword bytes keywords.Subsort ts) (next_keyword bytes keywords.Predicate ts) l.0 h.0 s.0 q.0 in
                  inr (inr (subst (λ (x : Tree × List Token). membership bytes symbols x.0 ts x.1) (ok_is (a.0.0.0, a.0.1) y a.2) (others, p.1))))
            ]
          ]
        ]
      ]

-- ---- declarations take tokens

module _ (bytes : List ℕ) (symbols : List Declared) where
  sort_name_takes : (s : Symbol) → Takes (sort_name bytes symbols s)
  sort_name_takes s = token_takes _

  sorts_keep : (sorts : List Symbol) → Keeps (each_behind_comma (sort_name bytes symbols) sorts)
  sorts_keep [] = nothing_keeps
  sorts_keep (s ∷ sorts) =
      let P = sort_name bytes symbols s in
      let more = each_behind_comma (sort_name bytes symbols) sorts in
      then_keeps (mark Comma) (P ⨾ more) (weaken (mark Comma) (mark_takes _)) (then_keeps P more (weaken P (sort_name_takes s)) (sorts_keep sorts))

  pub sort_declaration_takes : (f : Tree) → Takes (sort_declaration bytes symbols f)
  sort_declaration_takes f ts rest (inl p) =
      let S = sort_name bytes symbols p.0 in
      let T = sort_name bytes symbols p.1 in
      let inner = S ⨾ mark Comma ⨾ T in
      then_takes (keyword bytes keywords.Subsort) (enclosed inner) (token_takes _) (weaken (enclosed inner) (enclosed_takes inner (then_keeps S (mark Comma ⨾ T) (weaken S (sort_name_takes p.0)) (then_keeps (mark Comma) T (weaken (mark Comma) (mark_takes _)) (weaken T (sort_name_takes p.1)))))) ts rest p.3
  sort_declaration_takes f ts rest (inr (inl p)) =
      let P = symbol bytes symbols places.Atom (λ t. Unit {0}) p.0 (length p.1) in
      let sorts = each_behind_comma (sort_name bytes symbols) p.1 in
      then_takes (keyword bytes keywords.Predicate) (enclosed (P ⨾ sorts)) (token_takes _) (weaken (enclosed (P ⨾ sorts)) (enclosed_takes (P ⨾ sorts) (then_keeps P sorts (weaken P (token_takes _)) (sorts_keep p.1)))) ts rest p.3
  sort_declaration_takes f ts rest (inr (inr p)) = declaration_takes bytes symbols 1000 [] 0 f ts rest p.1

  -- no declaration begins with the end of the list
  pub declaration_no_end : (f : Tree) (ts rest : List Token) → sort_declaration bytes symbols f ts rest → next_word words.EndOfList ts ≡ false
  declaration_no_end f ts rest (inl p) = keyword_no_word bytes keywords.Subsort words.EndOfList ts p.3.0 p.3.1 refl
  declaration_no_end f ts rest (inr (inl p)) = keyword_no_word bytes keywords.Predicate words.EndOfList ts p.3.0 p.3.1 refl
  declaration_no_end f ts rest (inr (inr p)) = (four_are_none (next_word words.EndOfList ts) (next_keyword bytes keywords.Sort ts) (next_keyword bytes keywords.Subsort ts) (next_keyword bytes keywords.Predicate ts) p.0).0

-- ---- what is written is read

module _ (bytes : List ℕ) (symbols : List Declared) (own : HasOwnNames symbols) (named : AreNamed symbols) where
  sort_name_read : (s : Symbol) (ts rest : List Token) → sort_name bytes symbols s ts rest → sort_name_at bytes symbols ts ≡ Ok (s, rest)
  unfolding sort_name_at
  sort_name_read s ts rest p =
      let is = p.1.2 in
      then_ok _ _ _ _ (name_read is.0 p.0 ts rest is.1 is.2 p.2) (then_ok _ _ _ _ (sort_read bytes symbols own named p.0 s p.1.0 p.1.1 is.3) refl)

  inclusion_read : (f : Tree) (ts rest : List Token) → IsInclusion bytes symbols f ts rest → inclusion_at bytes symbols ts ≡ Ok (f, rest)
  unfolding inclusion_at
  inclusion_read f ts rest p =
      let opened = p.3 in
      let inner = opened.2 in
      let sorts = inner.1 in
      let comma = sorts.2 in
      then_ok _ _ _ _ (mark_read OpenParenthesis ts opened.0 opened.1)
      (then_ok _ _ _ _ (sort_name_read p.0 opened.0 sorts.0 sorts.1)
      (then_ok _ _ _ _ (mark_read Comma sorts.0 comma.0 comma.1)
      (then_ok _ _ _ _ (sort_name_read p.1 comma.0 inner.0 comma.2)
      (then_ok _ _ _ _ (mark_read CloseParenthesis inner.0 rest inner.2)
      (ap (λ g. Ok (g, rest)) (sym p.2))))))

  sorts_read : (sorts : List Symbol) (ts rest : List Token) → length ts ≤ length bytes → each_behind_comma (sort_name bytes symbols) sorts ts rest → Ends rest → sorts_behind bytes symbols ts ≡ Ok (sorts, rest)
  unfolding sorts_behind
  sorts_read [] ts rest near p ends = when_false _ _ _ _ (ap (next_mark Comma) p ∙ ends.0) (ap (λ us. Ok ([], us)) p)
  sorts_read (s ∷ sorts) ts rest near p ends =
      when_true _ _ _ _ (mark_next Comma ts p.0 p.1)
      (ap (commas (adding (sort_name_at bytes symbols)) (length bytes) []) (token_tail _ ts p.0 p.1)
      ∙ separated_read (sort_name bytes symbols) (grown lone) Anything (adding (sort_name_at bytes symbols)) (λ l xs fits. tt) (sort_name_takes bytes symbols) (length bytes) (λ l x us vs fits few q apart. then_ok _ _ _ _ (sort_name_read x us vs q) refl) (s ∷ sorts) [] p.0 rest tt (omega (arith, near, token_shorter _ ts p.0 p.1)) p.2 ends
      ∙ ap (λ l. Ok (l, rest)) (fold_lone [] (s ∷ sorts)))

  arguments_read : (f : Tree) (ts rest : List Token) → length ts ≤ length bytes → HasArgumentSorts bytes symbols f ts rest → argument_sorts_at bytes symbols ts ≡ Ok (f, rest)
  unfolding argument_sorts_at
  arguments_read f ts rest near p =
      let opened = p.3 in
      let inner = opened.2 in
      let head = inner.1.1 in
      let is = head.1.2 in
      let near' : length inner.1.0 ≤ length bytes = omega (arith, near, token_shorter _ ts opened.0 opened.1, token_shorter _ opened.0 inner.1.0 head) in
      then_ok _ _ _ _ (mark_read OpenParenthesis ts opened.0 opened.1)
      (then_ok _ _ _ _ (name_read is.0 head.0 opened.0 inner.1.0 is.1 is.2 head.2)
      (then_ok _ _ _ _ (symbol_read bytes symbols own named places.Atom p.0 (length p.1) head.1.0 head.0 head.1.1 is.3)
      (then_ok _ _ _ _ (sorts_read p.1 inner.1.0 inner.0 near' inner.1.2 (closing_ends inner.0 rest inner.2))
      (then_ok _ _ _ _ (mark_read CloseParenthesis inner.0 rest inner.2)
      (then_ok _ _ _ _ (counted_read head.0.at p.0 (length p.1))
      (ap (λ g. Ok (g, rest)) (sym p.2)))))))

  pub declared_read : (f : Tree) (ts rest after : List Token) → length ts ≤ length bytes → sort_declaration bytes symbols f ts rest → mark Dot rest after → declared_at bytes symbols ts ≡ Ok (f, rest)
  unfolding declared_at
  declared_read f ts rest after near (inl p) dot =
      let w = p.3 in
      when_false _ _ _ _ (keyword_no_word bytes keywords.Subsort words.EndOfList ts w.0 w.1 refl)
      (when_false _ _ _ _ (next_keyword_is bytes keywords.Sort keywords.Subsort ts w.0 w.1)
      (when_true _ _ _ _ (keyword_next bytes keywords.Subsort ts w.0 w.1)
      (ap (inclusion_at bytes symbols) (token_tail _ ts w.0 w.1) ∙ inclusion_read f w.0 rest (p.0, p.1, p.2, w.2))))
  declared_read f ts rest after near (inr (inl p)) dot =
      let w = p.3 in
      when_false _ _ _ _ (keyword_no_word bytes keywords.Predicate words.EndOfList ts w.0 w.1 refl)
      (when_false _ _ _ _ (next_keyword_is bytes keywords.Sort keywords.Predicate ts w.0 w.1)
      (when_false _ _ _ _ (next_keyword_is bytes keywords.Subsort keywords.Predicate ts w.0 w.1)
      (when_true _ _ _ _ (keyword_next bytes keywords.Predicate ts w.0 w.1)
      (ap (argument_sorts_at bytes symbols) (token_tail _ ts w.0 w.1) ∙ arguments_read f w.0 rest (omega (arith, near, token_shorter _ ts w.0 w.1)) (p.0, p.1, p.2, w.2)))))
  declared_read f ts rest after near (inr (inr p)) dot =
      let others = four_are_none (next_word words.EndOfList ts) (next_keyword bytes keywords.Sort ts) (next_keyword bytes keywords.Subsort ts) (next_keyword bytes keywords.Predicate ts) p.0 in
      when_false _ _ _ _ others.0
      (when_false _ _ _ _ others.1
      (when_false _ _ _ _ others.2
      (when_false _ _ _ _ others.3
      (then_ok _ _ _ _ (declaration_read bytes symbols own named 1000 [] 0 f ts rest near p.1 (other_mark OpenParenthesis Dot rest after dot refl)) refl))))
