-- Laws with their proofs, not definitions that a reader must believe: terms and atoms are read as they are written.
use Rattle.std.proofs.Common.{◌≡◌, ◌⊎◌, ℕ, zero, suc, ◌+◌, ◌≤◌, inl, inr, true, false, cond, nat_lt, List, [], ◌∷◌, ◌++◌, length, fold, Option, Some, None, Result, Ok, refl, sym, ap, subst, ◌∙◌, append_assoc, length-append, arith}
use Rattle.std.proofs.lemmas.Bool.{lt-ltb}
use Rattle.std.proofs.lemmas.List.{append-nil}
use Rattle.spl_terms.specs.declared.term.Symbol.{Symbol}
use Rattle.spl_terms.specs.declared.term.Term.{Term, Var, App}
use Rattle.spl_terms.specs.declared.atom.Atom.{Atom}
use Rattle.spl_terms.specs.declared.atom.Atom.TheVariants.{Holds, Equal}
use Rattle.spl_symbols.specs.Symbols.{Declared, HasOwnNames, AreNamed}
use Rattle.dfg_tokens.specs.declared.word.Word.TheVariants as words
use Rattle.dfg_tokens.specs.declared.piece.Mark.TheVariants.{OpenParenthesis, CloseParenthesis, Comma}
use Rattle.dfg_tokens.specs.declared.token.Token.{Token}
use Rattle.dfg_tokens.specs.Cursors.{tail}
use Rattle.dfg_tokens.specs.Tokens.{token_bytes}
use Rattle.dfg_terms.specs.declared.fault.ReadFault.{ReadFault}
use Rattle.dfg_terms.specs.declared.fault.FaultKind.TheVariants.{Unexpected, LimitReached}
use Rattle.dfg_terms.specs.declared.fault.Limit.TheVariants as limits
use Rattle.dfg_terms.specs.declared.symbols.Place.{Place}
use Rattle.dfg_terms.specs.declared.symbols.Place.TheVariants as places
use Rattle.dfg_terms.specs.Reading.{◌>>=◌, refuse, kind_is_name, next_is, next_mark, next_word, mark_at, name_at, commas}
use Rattle.dfg_terms.specs.Symbols.{symbol_named, checked_arity}
use Rattle.dfg_terms.specs.Terms.{Leaf, TermReader, kept, keeping, arguments_at, application_at, too_deep, variable_or, term_at, allows_equation, sides_at, atom_with}
use Rattle.dfg_terms.specs.Phrases.{Phrase, ◌⨾◌, mark, word, enclosed, comma_separated, arguments}
use Rattle.dfg_terms.specs.Grammar.{Writing, IsSymbol, symbol, application, is_variable, is_application, term, equation, atom}
use Rattle.dfg_terms.specs.ResultLaws.{bind_ok, chosen, ok_is, refused_not, then_ok, when_true, when_false}
use Rattle.dfg_terms.specs.StepLaws.{token_shorter, token_tail, mark_next, other_mark, mark_read, word_next, name_read, name_no_word}
use Rattle.dfg_terms.specs.StandLaws.{next_mark_stands, mark_stands, next_word_stands, name_stands, separated_stand}
use Rattle.dfg_terms.specs.FrontLaws.{Takes, Keeps, fewer, token_takes, then_takes, then_keeps, weaken, mark_takes, word_takes, enclosed_takes, arguments_keep}
use Rattle.dfg_terms.specs.RowLaws.{Ends, separated_read, Anything}
use Rattle.dfg_terms.specs.SymbolLaws.{symbol_stands, counted_stands, symbol_read, counted_read}
use Rattle.dfg_terms.specs.VariableLaws.{Agrees}

-- ---- terms take tokens

module _ (bytes : List ℕ) (symbols : List Declared) where
  application_takes : (place : Place) (IsFree : Token → Type 0) (P : Term → Phrase) → ((t : Term) → Keeps (P t)) → (s : Symbol) (args : List Term) → Takes (application bytes symbols place IsFree P s args)
  application_takes place IsFree P h s args = then_takes (symbol bytes symbols place IsFree s (length args)) (arguments P args) (token_takes _) (arguments_keep P h args)

  module _ (writing : Writing) (variable_takes : (n : ℕ) → Takes (writing.variable n)) where
    pub term_takes : (depth : ℕ) (t : Term) → Takes (term bytes symbols writing depth t)
    unfolding term
    term_takes zero t ts rest p = absurd p
    term_takes (suc depth) t ts rest (inl p) = variable_takes p.0 ts rest p.2
    term_takes (suc depth) t ts rest (inr p) = application_takes places.Term writing.IsFree (term bytes symbols writing depth) (λ u. weaken (term bytes symbols writing depth u) (term_takes depth u)) p.0 p.1 ts rest p.3

  pub atom_takes : (place : Place) (P : Term → Phrase) → ((t : Term) → Takes (P t)) → (a : Atom) → Takes (atom bytes symbols place P a)
  atom_takes place P h a ts rest (inl p) =
      then_takes (word words.Equal) (enclosed (P p.0 ⨾ mark Comma ⨾ P p.1)) (word_takes _)
      (weaken (enclosed (P p.0 ⨾ mark Comma ⨾ P p.1)) (enclosed_takes (P p.0 ⨾ mark Comma ⨾ P p.1) (then_keeps (P p.0) (mark Comma ⨾ P p.1) (weaken (P p.0) (h p.0)) (then_keeps (mark Comma) (P p.1) (weaken (mark Comma) (mark_takes _)) (weaken (P p.1) (h p.1))))))
      ts rest p.4
  atom_takes place P h a ts rest (inr p) = application_takes place _ P (λ t. weaken (P t) (h t)) p.0 p.1 ts rest p.3

-- ---- as many terms as are declared are kept

abbrev keep_step : ℕ → List Term × ℕ → Term → List Term × ℕ
keep_step declared s t = (kept declared s.0 t, s.1 + 1)

all_counted : (declared : ℕ) (s : List Term × ℕ) (xs : List Term) → (fold (keep_step declared) s xs).1 ≡ s.1 + length xs
all_counted declared s [] = omega arith
all_counted declared s (x ∷ xs) = let more = all_counted declared (keep_step declared s x) xs in omega (arith, more)

all_kept : (declared : ℕ) (s : List Term × ℕ) (xs : List Term) → length s.0 + length xs ≤ declared → (fold (keep_step declared) s xs).0 ≡ s.0 ++ xs
all_kept declared s [] h = sym (append-nil s.0)
all_kept declared s (x ∷ xs) h =
    let one : kept declared s.0 x ≡ s.0 ++ x ∷ [] = when_true (nat_lt (length s.0) declared) _ _ _ (lt-ltb (length s.0) declared (omega (arith, h))) refl in
    all_kept declared (keep_step declared s x) xs (omega (arith, h, ap length one, length-append s.0 (x ∷ []))) ∙ ap (λ (ts : List Term). ts ++ xs) one ∙ append_assoc s.0 (x ∷ []) xs

whole_kept : (declared : ℕ) (xs : List Term) → length xs ≡ declared → fold (keep_step declared) ([], 0) xs ≡ (xs, declared)
whole_kept declared xs e =
    let count : (fold (keep_step declared) ([], 0) xs).1 ≡ declared = omega (arith, all_counted declared ([], 0) xs, e) in
    λ i. (all_kept declared ([], 0) xs (omega (arith, e)) i, count i)

-- ---- what is read is written so

enclosed_arguments : (P : Term → Phrase) (args : List Term) (ts rest : List Token) → enclosed (comma_separated P args) ts rest → arguments P args ts rest
enclosed_arguments P [] ts rest p = absurd p.2.1
enclosed_arguments P (x ∷ xs) ts rest p = p

abbrev Read : Type 0
Read = (List Term × ℕ) × List Token

module _ (bytes : List ℕ) (symbols : List Declared) where
  module _ (P : Term → Phrase) (read : TermReader) (law : (ts : List Token) (y : Term × List Token) → read ts ≡ Ok y → P y.0 ts y.1) where
    kept_stands : (declared : ℕ) (s : List Term × ℕ) (ts : List Token) (y : Read) → keeping declared read s ts ≡ Ok y → (x : Term) × (y.0 ≡ keep_step declared s x) × P x ts y.1
    kept_stands declared s ts y e =
        let b = bind_ok (read ts) (λ x. Ok (keep_step declared s x.0, x.1)) y e in
        let same = ok_is (keep_step declared s b.0.0, b.0.1) y b.2 in
        (b.0.0, ap (λ (q : Read). q.0) (sym same), subst (λ (q : Read). P b.0.0 ts q.1) same (law ts b.0 b.1))

    abbrev ArgumentsStand : ℕ → List Token → Read → Type 0
    ArgumentsStand declared ts y = (xs : List Term) × (y.0 ≡ fold (keep_step declared) ([], 0) xs) × arguments P xs ts y.1

    arguments_stand : (count declared : ℕ) (ts : List Token) (y : Read) → arguments_at count declared read ts ≡ Ok y → ArgumentsStand declared ts y
    unfolding arguments_at
    arguments_stand count declared ts y e =
        elim (chosen (next_mark OpenParenthesis ts) (commas (keeping declared read) count ([], 0) (tail ts) >>= λ x. mark_at CloseParenthesis x.1 >>= λ rest. Ok (x.0, rest)) (Ok (([], 0), ts)) (Ok y) e) [
          | inl h ↦ (let a = bind_ok (commas (keeping declared read) count ([], 0) (tail ts)) (λ x. mark_at CloseParenthesis x.1 >>= λ rest. Ok (x.0, rest)) y h.1 in
              let b = bind_ok (mark_at CloseParenthesis a.0.1) (λ rest. Ok (a.0.0, rest)) y a.2 in
              let all = separated_stand P (keep_step declared) (keeping declared read) (kept_stands declared) count ([], 0) (tail ts) a.0 a.1 in
              subst (ArgumentsStand declared ts) (ok_is (a.0.0, b.0) y b.2)
              (all.0, all.1, enclosed_arguments P all.0 ts b.0 (tail ts, next_mark_stands OpenParenthesis ts h.0, (a.0.1, all.2, mark_stands CloseParenthesis a.0.1 b.0 b.1))))
          | inr h ↦ subst (ArgumentsStand declared ts) (ok_is (([], 0), ts) y h.1) ([], refl, refl)
        ]

    application_stands : (place : Place) (IsFree : Token → Type 0) (ts : List Token) (y : Symbol × List Term × List Token) → ((t : Token) (us : List Token) → ts ≡ t ∷ us → kind_is_name t.kind ≡ true → IsFree t)
        → application_at bytes symbols place read ts ≡ Ok y → application bytes symbols place IsFree P y.0 y.1 ts y.2
    unfolding application_at
    application_stands place IsFree ts y free e =
        let b = bind_ok (name_at ts) (λ name. symbol_named bytes symbols place name.0 >>= λ f. arguments_at (length bytes) f.arity read name.1 >>= λ args. checked_arity name.0.at f args.0.1 >>= λ fine. Ok (f.symbol, args.0.0, args.1)) y e in
        let c = bind_ok (symbol_named bytes symbols place b.0.0) (λ f. arguments_at (length bytes) f.arity read b.0.1 >>= λ args. checked_arity b.0.0.at f args.0.1 >>= λ fine. Ok (f.symbol, args.0.0, args.1)) y b.2 in
        let g = bind_ok (arguments_at (length bytes) c.0.arity read b.0.1) (λ args. checked_arity b.0.0.at c.0 args.0.1 >>= λ fine. Ok (c.0.symbol, args.0.0, args.1)) y c.2 in
        let k = bind_ok (checked_arity b.0.0.at c.0 g.0.0.1) (λ fine. Ok (c.0.symbol, g.0.0.0, g.0.1)) y g.2 in
        let name = name_stands ts b.0 b.1 in
        let here = arguments_stand (length bytes) c.0.arity b.0.1 g.0 g.1 in
        let counted : c.0.arity ≡ g.0.0.1 = counted_stands b.0.0.at c.0 g.0.0.1 k.1 in
        let long : length here.0 ≡ c.0.arity = sym (counted ∙ ap (λ (q : List Term × ℕ). q.1) here.1 ∙ all_counted c.0.arity ([], 0) here.0 ∙ omega arith) in
        let same : g.0.0.0 ≡ here.0 = ap (λ (q : List Term × ℕ). q.0) (here.1 ∙ whole_kept c.0.arity here.0 long) in
        let is : IsSymbol symbols place c.0.symbol (length here.0) (token_bytes bytes b.0.0) = subst (λ (n : ℕ). IsSymbol symbols place c.0.symbol n (token_bytes bytes b.0.0)) (sym long) (symbol_stands bytes symbols place b.0.0 c.0 c.1) in
        let is_named : kind_is_name b.0.0.kind ≡ true = ap kind_is_name name.1 ∙ ap (λ q. cond q false true) name.2 in
        subst (λ (q : Symbol × List Term × List Token). application bytes symbols place IsFree P q.0 q.1 ts q.2) ((λ i. (c.0.symbol, sym same i, g.0.1)) ∙ ok_is (c.0.symbol, g.0.0.0, g.0.1) y k.2)
        (b.0.1, (b.0.0, (token_bytes bytes b.0.0, is, (name.0, name.1, name.2, refl), free b.0.0 b.0.1 name.3 is_named), name.3), here.2)

  deep_not : (leaf : Leaf) (ts : List Token) (y : Term × List Token) → too_deep leaf ts ≡ Ok y → ⊥
  unfolding too_deep
  deep_not leaf ts y e =
      elim (chosen (next_is leaf.begins ts) (refuse (LimitReached limits.Depth) ts) (refuse Unexpected ts) (Ok y) e) [
        | inl h ↦ refused_not (LimitReached limits.Depth) ts y h.1
        | inr h ↦ refused_not Unexpected ts y h.1
      ]

  module _ (leaf : Leaf) (writing : Writing) (agree : Agrees leaf writing) where
    abbrev TermStands : ℕ → List Token → Term × List Token → Type 0
    TermStands depth ts y = is_variable writing y.0 ts y.1 ⊎ is_application bytes symbols writing (term bytes symbols writing depth) y.0 ts y.1

    pub term_stands : (depth : ℕ) (ts : List Token) (y : Term × List Token) → term_at bytes symbols leaf depth ts ≡ Ok y → term bytes symbols writing depth y.0 ts y.1
    unfolding term_at term
    term_stands zero ts y e = absurd (deep_not leaf ts y e)
    term_stands (suc depth) ts y e =
        let v = bind_ok (leaf.variable ts) (λ v. variable_or v.0 (application_at bytes symbols places.Term (term_at bytes symbols leaf depth)) v.1) y e in
        by_number v.0.0 v.0.1 v.1 v.2 (term_stands depth)
      where
        by_number : (o : Option ℕ) (us : List Token) → leaf.variable ts ≡ Ok (o, us) → variable_or o (application_at bytes symbols places.Term (term_at bytes symbols leaf depth)) us ≡ Ok y
            → ((vs : List Token) (z : Term × List Token) → term_at bytes symbols leaf depth vs ≡ Ok z → term bytes symbols writing depth z.0 vs z.1) → TermStands depth ts y
        by_number (Some n) us is r below = subst (TermStands depth ts) (ok_is (Var n, us) y r) (inl (n, refl, agree.stands ts n us is))
        by_number None us is r below =
            let stay : ts ≡ us = agree.same ts us is in
            let a = bind_ok (application_at bytes symbols places.Term (term_at bytes symbols leaf depth) us) (λ x. Ok (App x.0 x.1, x.2)) y r in
            let here = subst (λ (vs : List Token). application_at bytes symbols places.Term (term_at bytes symbols leaf depth) vs ≡ Ok a.0) (sym stay) a.1 in
            subst (TermStands depth ts) (ok_is (App a.0.0 a.0.1, a.0.2) y a.2)
            (inr (a.0.0, a.0.1, refl, application_stands (term bytes symbols writing depth) (term_at bytes symbols leaf depth) below places.Term writing.IsFree ts a.0 (λ t vs front named. agree.free t vs us named (subst (λ (ws : List Token). leaf.variable ws ≡ Ok (None, us)) front is)) here))

  module _ (place : Place) (P : Term → Phrase) (read : TermReader) (law : (ts : List Token) (y : Term × List Token) → read ts ≡ Ok y → P y.0 ts y.1) where
    sides_stand : (ts : List Token) (y : Atom × List Token) → allows_equation place ≡ true → next_word words.Equal ts ≡ true → sides_at read (tail ts) ≡ Ok y → equation place P y.0 ts y.1
    unfolding sides_at
    sides_stand ts y allowed is e =
        let a = bind_ok (mark_at OpenParenthesis (tail ts)) (λ inner. read inner >>= λ left. mark_at Comma left.1 >>= λ second. read second >>= λ right. mark_at CloseParenthesis right.1 >>= λ rest. Ok (Equal left.0 right.0, rest)) y e in
        let b = bind_ok (read a.0) (λ left. mark_at Comma left.1 >>= λ second. read second >>= λ right. mark_at CloseParenthesis right.1 >>= λ rest. Ok (Equal left.0 right.0, rest)) y a.2 in
        let c = bind_ok (mark_at Comma b.0.1) (λ second. read second >>= λ right. mark_at CloseParenthesis right.1 >>= λ rest. Ok (Equal b.0.0 right.0, rest)) y b.2 in
        let d = bind_ok (read c.0) (λ right. mark_at CloseParenthesis right.1 >>= λ rest. Ok (Equal b.0.0 right.0, rest)) y c.2 in
        let f = bind_ok (mark_at CloseParenthesis d.0.1) (λ rest. Ok (Equal b.0.0 d.0.0, rest)) y d.2 in
        subst (λ (q : Atom × List Token). equation place P q.0 ts q.1) (ok_is (Equal b.0.0 d.0.0, f.0) y f.2) (
          b.0.0,
          d.0.0,
          refl,
          allowed,
          (
            tail ts,
            next_word_stands words.Equal ts is,
            (
              a.0,
              mark_stands OpenParenthesis (tail ts) a.0 a.1,
              (d.0.1, (b.0.1, law a.0 b.0 b.1, (c.0, mark_stands Comma b.0.1 c.0 c.1, law c.0 d.0 d.1)), mark_stands CloseParenthesis d.0.1 f.0 f.1),
            ),
          ),
        )

    pub atom_stands : (ts : List Token) (y : Atom × List Token) → atom_with bytes symbols place read ts ≡ Ok y → atom bytes symbols place P y.0 ts y.1
    unfolding atom_with
    atom_stands ts y e =
        elim (chosen (next_word words.Equal ts) (cond (allows_equation place) (sides_at read (tail ts)) (refuse Unexpected ts)) (application_at bytes symbols place read ts >>= λ x. Ok (Holds x.0 x.1, x.2)) (Ok y) e) [
          | inl h ↦ elim (chosen (allows_equation place) (sides_at read (tail ts)) (refuse Unexpected ts) (Ok y) h.1) [
            | inl k ↦ inl (sides_stand ts y k.0 h.0 k.1)
            | inr k ↦ absurd (refused_not Unexpected ts y k.1)
          ]
          | inr h ↦ (let a = bind_ok (application_at bytes symbols place read ts) (λ x. Ok (Holds x.0 x.1, x.2)) y h.1 in
              subst (λ (q : Atom × List Token). atom bytes symbols place P q.0 ts q.1) (ok_is (Holds a.0.0 a.0.1, a.0.2) y a.2)
              (inr (a.0.0, a.0.1, refl, application_stands P read law place (λ t. Unit {0}) ts a.0 (λ t us front named. tt) a.1)))
        ]

-- ---- what is written is read

-- a closing parenthesis ends a value
pub closing_ends : (ts rest : List Token) → mark CloseParenthesis ts rest → Ends ts
closing_ends ts rest p = (other_mark Comma CloseParenthesis ts rest p refl, other_mark OpenParenthesis CloseParenthesis ts rest p refl)

-- a text is read where no list of it has more entries than it has bytes
abbrev pub Reads : {X : Type 0} → List ℕ → (X → Phrase) → (List Token → Result (X × List Token) ReadFault) → Type 0
Reads {X} bytes P read = (x : X) (ts rest : List Token) → length ts ≤ length bytes → P x ts rest → next_mark OpenParenthesis rest ≡ false → read ts ≡ Ok (x, rest)

module _ (bytes : List ℕ) (symbols : List Declared) (own : HasOwnNames symbols) (named : AreNamed symbols) where
  module _ (P : Term → Phrase) (read : TermReader) (law : Reads bytes P read) (takes : (t : Term) → Takes (P t)) where
    arguments_read : (args : List Term) (ts rest : List Token) → length ts ≤ length bytes → arguments P args ts rest → next_mark OpenParenthesis rest ≡ false → arguments_at (length bytes) (length args) read ts ≡ Ok ((args, length args), rest)
    unfolding arguments_at
    arguments_read [] ts rest near p apart = when_false _ _ _ _ (ap (next_mark OpenParenthesis) p ∙ apart) (ap (λ us. Ok (([], 0), us)) p)
    arguments_read (x ∷ xs) ts rest near p apart =
        let inner = p.2 in
        let declared = length (x ∷ xs) in
        let step = λ (s : List Term × ℕ) (t : Term) (us after : List Token) (fits : Unit {0}) (few : length us ≤ length bytes) (q : P t us after) (away : next_mark OpenParenthesis after ≡ false). then_ok (read us) (t, after) (λ y. Ok (keep_step declared s y.0, y.1)) (Ok (keep_step declared s t, after)) (law t us after few q away) refl in
        let some = separated_read P (keep_step declared) Anything (keeping declared read) (λ s ys fits. tt) takes (length bytes) step (x ∷ xs) ([], 0) p.0 inner.0 tt (omega (arith, near, token_shorter _ ts p.0 p.1)) inner.1 (closing_ends inner.0 rest inner.2) in
        when_true _ _ _ _ (mark_next OpenParenthesis ts p.0 p.1)
        (then_ok _ _ _ _ (ap (commas (keeping declared read) (length bytes) ([], 0)) (token_tail _ ts p.0 p.1) ∙ some ∙ ap (λ (s : List Term × ℕ). Ok (s, inner.0)) (whole_kept declared (x ∷ xs) refl))
        (then_ok _ _ _ _ (mark_read CloseParenthesis inner.0 rest inner.2) refl))

    application_read : (place : Place) (IsFree : Token → Type 0) (s : Symbol) (args : List Term) (ts rest : List Token) → length ts ≤ length bytes → application bytes symbols place IsFree P s args ts rest → next_mark OpenParenthesis rest ≡ false → application_at bytes symbols place read ts ≡ Ok (s, args, rest)
    unfolding application_at
    application_read place IsFree s args ts rest near p apart =
        let t = p.1.0 in
        let here = p.1.1 in
        let name = here.2 in
        then_ok _ _ _ _ (name_read name.0 t ts p.0 name.1 name.2 p.1.2)
        (then_ok _ _ _ _ (symbol_read bytes symbols own named place s (length args) here.0 t here.1 name.3)
        (then_ok _ _ _ _ (arguments_read args p.0 rest (omega (arith, near, token_shorter _ ts p.0 p.1)) p.2 apart)
        (then_ok _ _ _ _ (counted_read t.at s (length args)) refl)))

    sides_read : (s t : Term) (ts rest : List Token) → length ts ≤ length bytes → enclosed (P s ⨾ mark Comma ⨾ P t) ts rest → sides_at read ts ≡ Ok (Equal s t, rest)
    unfolding sides_at
    sides_read s t ts rest near p =
        let left = p.2.1 in
        let comma = left.2 in
        let a = token_shorter _ ts p.0 p.1 in
        let b = fewer p.0 left.0 (takes s p.0 left.0 left.1) in
        let c = token_shorter _ left.0 comma.0 comma.1 in
        then_ok _ _ _ _ (mark_read OpenParenthesis ts p.0 p.1)
        (then_ok _ _ _ _ (law s p.0 left.0 (omega (arith, near, a)) left.1 (other_mark OpenParenthesis Comma left.0 comma.0 comma.1 refl))
        (then_ok _ _ _ _ (mark_read Comma left.0 comma.0 comma.1)
        (then_ok _ _ _ _ (law t comma.0 p.2.0 (omega (arith, near, a, b, c)) comma.2 (closing_ends p.2.0 rest p.2.2).1)
        (then_ok _ _ _ _ (mark_read CloseParenthesis p.2.0 rest p.2.2) refl))))

    pub atom_read : (place : Place) → Reads bytes (atom bytes symbols place P) (atom_with bytes symbols place read)
    unfolding atom_with
    atom_read place a ts rest near (inl p) apart =
        let w = p.4 in
        when_true _ _ _ _ (word_next words.Equal ts w.0 w.1)
        (when_true _ _ _ _ p.3
        (ap (sides_at read) (token_tail _ ts w.0 w.1) ∙ sides_read p.0 p.1 w.0 rest (omega (arith, near, token_shorter _ ts w.0 w.1)) w.2 ∙ ap (λ (b : Atom). Ok (b, rest)) (sym p.2)))
    atom_read place a ts rest near (inr p) apart =
        let s = p.3.1 in
        let name = s.1.2 in
        when_false _ _ _ _ (name_no_word words.Equal name.0 s.0 ts p.3.0 refl name.1 name.2 s.2)
        (then_ok _ _ _ _ (application_read place (λ t. Unit {0}) p.0 p.1 ts rest near p.3 apart) (ap (λ (b : Atom). Ok (b, rest)) (sym p.2)))

  module _ (leaf : Leaf) (writing : Writing) (agree : Agrees leaf writing) where
    pub term_read : (depth : ℕ) → Reads bytes (term bytes symbols writing depth) (term_at bytes symbols leaf depth)
    unfolding term term_at
    term_read zero t ts rest near p apart = absurd p
    term_read (suc depth) t ts rest near (inl p) apart =
        then_ok _ _ _ _ (agree.read p.0 ts rest p.2) (ap (λ u. Ok (u, rest)) (sym p.1))
    term_read (suc depth) t ts rest near (inr p) apart =
        let s = p.3.1 in
        let here = s.1 in
        let name = here.2 in
        let pass = ap leaf.variable s.2 ∙ agree.passed name.0 s.0 p.3.0 name.1 name.2 here.3 ∙ ap (λ us. Ok (None, us)) (sym s.2) in
        then_ok _ _ _ _ pass
        (then_ok _ _ _ _ (application_read (term bytes symbols writing depth) (term_at bytes symbols leaf depth) (term_read depth) (term_takes bytes symbols writing agree.takes depth) places.Term writing.IsFree p.0 p.1 ts rest near p.3 apart)
        (ap (λ u. Ok (u, rest)) (sym p.2)))
