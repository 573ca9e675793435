-- A reason may be replaced by the reasons for which it was hidden itself.
use Rattle.std.proofs.Common.{◌≡◌, ◌⊎◌, inl, inr, ℕ, zero, suc, ◌<◌, Bool, true, false, not, ◌==◌, cond, List, [], ◌∷◌, ◌++◌, length, map, Contains, Option, Some, None, refl, sym, ap, subst, ◌∙◌, arith}
use Rattle.std.specs.Prelude.{filter_map, IsSomeAnd}
use Rattle.std.specs.List.{cons_option, filter}
use Rattle.std.proofs.lemmas.Bool.{eqb-true}
use Rattle.std.proofs.lemmas.List.Elements.{Contains-append_left, Contains-append_right}
use Rattle.std.proofs.lemmas.Option.{same_Some}
use Rattle.spl_terms.specs.declared.clause.Clause.{Clause}
use Rattle.spl_truth.specs.Truth.{Follows}
use Rattle.proof_steps.specs.declared.step.Statement.{Statement}
use Rattle.proof_steps.specs.Steps.{numbered}
use Rattle.proof_steps.specs.StepLaws.{Contains-cons_cases}
use Rattle.calculus.specs.declared.note.HideNote.{HideNote}
use Rattle.calculus.specs.Notes.{reasons_of, IsJustified}
use Rattle.justification.specs.Hiding.{clauses_numbered, HasFollowing, HasFollowingFurther}
use Rattle.justification.proofs.Cut.{cut, among_follows}
use Rattle.justification.proofs.Sound.{clause_there, hidden_follows}

first_or_later : {A : Type 0} (x : A) (xs : List A) (y : A) → Contains xs y → Contains (x ∷ xs) y
first_or_later x xs y (k, below, is) = (suc k, omega (arith, below), is)

-- a clause of the reasons is that of a number among them
record HasNumber (earlier : List Statement) (ns : List ℕ) (c : Clause) : Type 0 where
  pub number : ℕ
  pub among : Contains ns number
  pub statement : Statement
  pub found : numbered earlier number ≡ Some statement
  pub is : statement.clause ≡ c

has_number : (earlier : List Statement) (ns : List ℕ) (c : Clause) → Contains (clauses_numbered earlier ns) c → HasNumber earlier ns c
has_number earlier [] c (k, below, is) = absurd (omega (arith, below))
has_number earlier (n ∷ ns) c there = by_answer (has_number earlier ns c) (numbered earlier n) refl there
  where
    later : HasNumber earlier ns c → HasNumber earlier (n ∷ ns) c
    later h = record { number = h.number; among = first_or_later n ns h.number h.among; statement = h.statement; found = h.found; is = h.is }

    by_answer : (Contains (clauses_numbered earlier ns) c → HasNumber earlier ns c) → (o : Option Statement) → numbered earlier n ≡ o → Contains (map (λ s. s.clause) (cons_option o (filter_map (numbered earlier) ns))) c → HasNumber earlier (n ∷ ns) c
    by_answer rest None e h = later (rest h)
    by_answer rest (Some s) e h = elim (Contains-cons_cases s.clause (clauses_numbered earlier ns) c h) [
      | inl here ↦ record { number = n; among = (0, omega arith, refl); statement = s; found = e; is = here }
      | inr more ↦ later (rest more)
    ]

-- another number stays where one is taken out
stays : (hidden : ℕ) (ns : List ℕ) (n : ℕ) → (n == hidden) ≡ false → Contains ns n → Contains (filter (λ m. not (m == hidden)) ns) n
stays hidden [] n other (k, below, is) = absurd (omega (arith, below))
stays hidden (m ∷ ns) n other there = elim (Contains-cons_cases m ns n there) [
  | inl here ↦ by_first (not (m == hidden)) (ap (λ x. not (x == hidden)) here ∙ ap not other) here
  | inr rest ↦ by_rest (not (m == hidden)) (stays hidden ns n other rest)
]
  where
    by_first : (b : Bool) → b ≡ true → m ≡ n → Contains (cond b (m ∷ filter (λ m. not (m == hidden)) ns) (filter (λ m. not (m == hidden)) ns)) n
    by_first true e here = (0, omega arith, here)
    by_first false e here = absurd (cc)

    by_rest : (b : Bool) → Contains (filter (λ m. not (m == hidden)) ns) n → Contains (cond b (m ∷ filter (λ m. not (m == hidden)) ns) (filter (λ m. not (m == hidden)) ns)) n
    by_rest true h = first_or_later m _ n h
    by_rest false h = h

there_as : (P : Statement → Type 0) (o : Option Statement) (s : Statement) → o ≡ Some s → IsSomeAnd o P → P s
there_as P None s e h = absurd h
there_as P (Some t) s e h = subst P (same_Some t s e) h

-- the reasons of a note without the clause that another one hides
abbrev others : HideNote → HideNote → List ℕ
others note other = filter (λ n. not (n == other.hidden)) (reasons_of note.why)

module _ (note other : HideNote) (earlier : List Statement) (h : IsJustified note earlier) (k : IsJustified other earlier) where
  abbrev further : List Clause
  further = clauses_numbered earlier (others note other ++ reasons_of other.why)

  reason_there : (n : ℕ) (s : Statement) → Contains (others note other ++ reasons_of other.why) n → numbered earlier n ≡ Some s → Follows further s.clause
  reason_there n s among e = among_follows further s.clause (clause_there earlier (others note other ++ reasons_of other.why) n s among e)

  follows_of : (note : HideNote) (h : IsJustified note earlier) → Follows (clauses_numbered earlier (reasons_of note.why)) h.hidden.clause
  follows_of note h = there_as (λ s. Follows (clauses_numbered earlier (reasons_of note.why)) s.clause) (numbered earlier note.hidden) h.hidden h.found (hidden_follows note earlier h)

  -- the reason that is hidden follows too
  hidden_reason : Follows further k.hidden.clause
  hidden_reason d is = cut further (clauses_numbered earlier (reasons_of other.why)) each d (follows_of other k d is)
    where
      each : (c : Clause) → Contains (clauses_numbered earlier (reasons_of other.why)) c → Follows further c
      each c among = (let w = has_number earlier (reasons_of other.why) c among in subst (Follows further) w.is (reason_there w.number w.statement (Contains-append_right (others note other) (reasons_of other.why) w.number w.among) w.found))

  each_reason : (c : Clause) → Contains (clauses_numbered earlier (reasons_of note.why)) c → Follows further c
  each_reason c among = (let w = has_number earlier (reasons_of note.why) c among in by_number w (w.number == other.hidden) refl)
    where
      by_number : (w : HasNumber earlier (reasons_of note.why) c) (b : Bool) → (w.number == other.hidden) ≡ b → Follows further c
      by_number w true e =
          let same : k.hidden ≡ w.statement = same_Some k.hidden w.statement (sym k.found ∙ ap (numbered earlier) (sym (eqb-true w.number other.hidden e)) ∙ w.found) in
          subst (Follows further) (ap (λ (s : Statement). s.clause) same ∙ w.is) hidden_reason
      by_number w false e = subst (Follows further) w.is (reason_there w.number w.statement (Contains-append_left (others note other) (reasons_of other.why) w.number (stays other.hidden (reasons_of note.why) w.number e w.among)) w.found)

  pub hidden_follows_further : HasFollowingFurther note other earlier
  hidden_follows_further =
      subst (λ o. IsSomeAnd o (λ hidden. Follows further hidden.clause)) (sym h.found)
      (λ d is. cut further (clauses_numbered earlier (reasons_of note.why)) each_reason d (follows_of note h d is))
