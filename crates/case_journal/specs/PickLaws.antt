-- Laws that carry proofs, and no definitions that a reader must believe: what is picked is passive, so what is chosen is a clause of the ledger; where clauses were activated or split.
use Rattle.std.specs.Prelude.{fold}
use Rattle.std.proofs.Common.{◌≡◌, ℕ, zero, suc, ◌+◌, ◌≤◌, ◌⊎◌, inl, inr, Bool, true, false, cond, not, ◌&&◌, eqb, List, [], ◌∷◌, Option, Some, None, option_map, refl, sym, ◌∙◌, ap, arith, subst}
use Rattle.std.proofs.lemmas.Bool.{and_parts, cases_Bool, cond-true, cond-false}
use Rattle.std.specs.List.{slice_get}
use Rattle.spl_truth.specs.declared.picking.Candidate.{Candidate}
use Rattle.spl_truth.specs.Picking.{better, is_fifth, is_older, is_lighter}
use Rattle.proof_steps.specs.declared.step.Line.{Line}
use Rattle.case_journal.specs.declared.event.Entry.{Entry}
use Rattle.case_journal.specs.declared.event.Event.{Event}
use Rattle.case_journal.specs.declared.event.Event.TheVariants.{Choose, Activate}
use Rattle.case_journal.specs.Journal.{Setting, ledger, steps}
use Rattle.case_journal.specs.Paths.{subject, first_number}
use Rattle.case_journal.specs.Facts.{listed, worked, split, chosen, chosen_by}
use Rattle.case_journal.specs.Picking.{is_passive, passing, passive, pick_at, choices, weighed}
use Rattle.case_journal.specs.Legal.{IsAsked, IsLegalJournal, IsSplittable, assume}
use Rattle.case_journal.specs.PlaceLaws.{steps_more}
use Rattle.case_journal.specs.ListedLaws.{listed_within}

-- ---- what is picked

passes_step : (b : Bool) (passes : ℕ → Bool) (n k : ℕ) (l : Line) (rest : List Candidate) (c : Candidate) → passes n ≡ b → ((j : ℕ) → slice_get rest j ≡ Some c → passes c.number ≡ true)
    → slice_get (cond b (weighed n l ∷ rest) rest) k ≡ Some c → passes c.number ≡ true
passes_step true passes n zero l rest c e more h = let q : weighed n l ≡ c = cc in ap (λ x. passes x.number) (sym q) ∙ e
passes_step true passes n (suc k) l rest c e more h = more k h
passes_step false passes n k l rest c e more h = more k h

passing_passes : (passes : ℕ → Bool) (n : ℕ) (lines : List Line) (k : ℕ) (c : Candidate) → slice_get (passing passes n lines) k ≡ Some c → passes c.number ≡ true
passing_passes passes n [] k c h = cc
passing_passes passes n (l ∷ ls) k c h = passes_step (passes n) passes n k l (passing passes (n + 1) ls) c refl (λ j g. passing_passes passes (n + 1) ls j c g) h

-- c is one of the candidates
abbrev pub IsOne : Candidate → List Candidate → Type 0
IsOne c cs = (k : ℕ) × (slice_get cs k ≡ Some c)

one_of_two : (b : Bool) (x y c : Candidate) → Some (cond b x y) ≡ Some c → (x ≡ c) ⊎ (y ≡ c)
one_of_two true x y c h = inl (cc)
one_of_two false x y c h = inr (cc)

better_one : (age : Bool) (best : Option Candidate) (x c : Candidate) → better age best x ≡ Some c → (best ≡ Some c) ⊎ (x ≡ c)
better_one age None x c h = inr (cc)
better_one age (Some a) x c h = elim (one_of_two (cond age (is_older x a) (is_lighter x a)) x a c h) [ inl e ↦ inr e | inr e ↦ inl (ap Some e) ]

best_one : (age : Bool) (best : Option Candidate) (cs : List Candidate) (c : Candidate) → fold (better age) best cs ≡ Some c → (best ≡ Some c) ⊎ IsOne c cs
best_one age best [] c h = inl h
best_one age best (x ∷ cs) c h = elim (best_one age (better age best x) cs c h) [
  | inl e ↦ elim (better_one age best x c e) [ inl f ↦ inl f | inr f ↦ inr (0, ap Some f) ]
  | inr one ↦ inr (suc one.0, one.1)
]

of_number : (o : Option Candidate) (i : ℕ) → option_map (λ a. a.number) o ≡ Some i → (c : Candidate) × (o ≡ Some c) × (c.number ≡ i)
of_number None i h = cc
of_number (Some c) i h = (c, refl, cc)

-- what is picked is passive
pub pick_passive : (s : Setting) (past : List Entry) (m i : ℕ) → pick_at s past m ≡ Some i → is_passive s past m i ≡ true
pick_passive s past m i h =
    let r = of_number (fold (better (is_fifth (choices past m))) None (passive s past m)) i h in
    elim (best_one (is_fifth (choices past m)) None (passive s past m) r.0 r.1) [
      | inl bad ↦ cc
      | inr one ↦ ap (is_passive s past m) (sym r.2) ∙ passing_passes (is_passive s past m) 1 (ledger s past) one.0 r.0 one.1
    ]

-- ---- what is chosen

-- i is a number of the ledger
abbrev pub IsClause : Setting → List Entry → ℕ → Type 0
IsClause s past i = (1 ≤ i) × (i ≤ steps s past)

chosen_step : (s : Setting) (past : List Entry) → IsLegalJournal s past → (w : ℕ) (ev : Event) (m i : ℕ) (o : Option ℕ) → IsAsked s past w ev → (o ≡ Some i → IsClause s past i) → chosen_by ev m o ≡ Some i → IsClause s past i
chosen_step s past legal w (Choose node clause selected) m i o p old h = elim (cases_Bool (eqb node m)) [
  | inl same ↦
      let e : Some clause ≡ Some i = sym (cond-true (eqb node m) (Some clause) o same) ∙ h in
      let q : clause ≡ i = cc in
      let t = pick_passive s past node clause p.picked in
      subst (IsClause s past) q (listed_within s past legal node clause (and_parts (listed s past node clause) (not (worked past node clause) && not (split past node clause)) t).0)
  | inr other ↦ old (sym (cond-false (eqb node m) (Some clause) o other) ∙ h)
]
chosen_step s past legal w (Activate node) m i o p old h = elim (cases_Bool (eqb node m)) [
  | inl same ↦ let e : None ≡ Some i = sym (cond-true (eqb node m) None o same) ∙ h in absurd (cc)
  | inr other ↦ old (sym (cond-false (eqb node m) None o other) ∙ h)
]
chosen_step s past legal w _ m i o p old h = old h

more_clauses : (s : Setting) (past : List Entry) (e : Entry) (i : ℕ) → IsClause s past i → IsClause s (e ∷ past) i
more_clauses s past e i h = (h.0, omega (arith, h.1, steps_more s past e))

-- what is chosen is a clause
pub chosen_within : (s : Setting) (past : List Entry) → IsLegalJournal s past → (m i : ℕ) → chosen past m ≡ Some i → IsClause s past i
chosen_within s [] legal m i h = cc
chosen_within s (e ∷ past) legal m i h = more_clauses s past e i (chosen_step s past legal.1 e.by e.event m i (chosen past m) legal.0.asked (λ o. chosen_within s past legal.1 m i o) h)

-- the steps of a Split are about the clause that is chosen
pub subject_is : (s : Setting) (past : List Entry) (w node : ℕ) (lines : List Line) (put_off : List Bool) → (p : IsSplittable s past w node lines put_off) → subject lines ≡ p.clause
subject_is s past w node [] put_off p = let bad = p.steps in absurd (cc)
subject_is s past w node (l ∷ ls) put_off p =
    let same = p.steps in
    let q : l.step ≡ assume p.clause 1 None = cc in
    ap (λ t. first_number t.parents) q
