-- What the lists of a view have, said one clause at a time.
use Rattle.std.specs.Prelude.{slice_get, option_map, option_and_then}
use Rattle.std.proofs.Common.{◌≡◌, ◌⊎◌, ℕ, zero, suc, ◌+◌, ◌-◌, ◌<◌, ◌≤◌, inl, inr, Bool, true, false, cond, ◌&&◌, List, [], ◌∷◌, ◌++◌, length, Option, Some, None, refl, sym, ◌∙◌, ap, subst, arith, eq-eqb}
use Rattle.std.proofs.lemmas.Bool.{or_cases, or_left, or_right, and_parts, and_from, eqb-true, cond-true, false≢true}
use Rattle.proof_steps.specs.declared.step.Line.{Line}
use Rattle.proof_steps.specs.Steps.{numbered}
use Rattle.case_journal.specs.declared.event.Entry.{Entry}
use Rattle.case_journal.specs.declared.event.Event.{Event}
use Rattle.case_journal.specs.declared.event.Event.TheVariants.{Activate}
use Rattle.case_journal.specs.Journal.{Setting, ledger, nodes, lines_of}
use Rattle.case_journal.specs.Paths.{stem, on_path}
use Rattle.case_journal.specs.Facts.{listed, worked, chosen, activates, is_number}
use Rattle.case_journal.specs.Legal.{IsLegalJournal}
use Rattle.case_journal.specs.ListLaws.{get_more, numbered_get}
use Rattle.case_journal.specs.LedgerLaws.{numbered_more}
use Rattle.case_journal.specs.ListedLaws.{listed_within}
use Rattle.case_journal.specs.DependenceLaws.{chosen_listed}
use Rattle.case_view.specs.declared.kept.Kept.{Kept}
use Rattle.case_view.specs.declared.kept.Case.{Case}
use Rattle.case_view.specs.Views.{keep, kept_line, kept_lines, listed_at, given_at, and_more, worked_by, worked_at, IsIn, IsCaseOf, IsKeptLine, HasNumber, HasClauses}

-- ---- the listed clauses

record IsLineAt (on : ℕ → Bool) (n : ℕ) (lines : List Line) (k : Kept) : Type 0 where
  pub place : ℕ
  pub line : Line
  pub found : slice_get lines place ≡ Some line
  pub is : keep (n + place) line ≡ k
  pub passes : on k.number ≡ true

line_first : (on : ℕ → Bool) (n : ℕ) (l : Line) (lines : List Line) (k : Kept) → on n ≡ true → keep n l ≡ k → IsLineAt on n (l ∷ lines) k
line_first on n l lines k pass is = record {
  place = 0;
  line = l;
  found = refl;
  is = ap (λ i. keep i l) (omega arith) ∙ is;
  passes = subst (λ x. on x.number ≡ true) is pass;
}

line_later : (on : ℕ → Bool) (n : ℕ) (l : Line) (lines : List Line) (k : Kept) → IsLineAt on (n + 1) lines k → IsLineAt on n (l ∷ lines) k
line_later on n l lines k h = record {
  place = suc h.place;
  line = h.line;
  found = h.found;
  is = ap (λ i. keep i h.line) (omega arith) ∙ h.is;
  passes = h.passes;
}

in_either : (on : ℕ → Bool) (n : ℕ) (l : Line) (lines : List Line) (k : Kept) (b : Bool) → on n ≡ b → (IsIn (kept_lines on (n + 1) lines) k → IsLineAt on (n + 1) lines k)
    → IsIn (cond b (keep n l ∷ kept_lines on (n + 1) lines) (kept_lines on (n + 1) lines)) k → IsLineAt on n (l ∷ lines) k
in_either on n l lines k true pass rest (zero, at) = let same : keep n l ≡ k = cc in line_first on n l lines k pass same
in_either on n l lines k true pass rest (suc i, at) = line_later on n l lines k (rest (i, at))
in_either on n l lines k false pass rest at = line_later on n l lines k (rest at)

in_lines : (on : ℕ → Bool) (n : ℕ) (lines : List Line) (k : Kept) → IsIn (kept_lines on n lines) k → IsLineAt on n lines k
in_lines on n [] k (i, at) = absurd (cc)
in_lines on n (l ∷ lines) k h = in_either on n l lines k (on n) refl (λ at. in_lines on (n + 1) lines k at) h

in_front : (b : Bool) (x k : Kept) (ks : List Kept) → b ≡ true → x ≡ k → IsIn (cond b (x ∷ ks) ks) k
in_front true x k ks e same = (0, ap Some same)
in_front false x k ks e same = absurd (cc)

in_back : (b : Bool) (x k : Kept) (ks : List Kept) → IsIn ks k → IsIn (cond b (x ∷ ks) ks) k
in_back true x k ks h = (suc h.0, h.1)
in_back false x k ks h = h

lines_in : (on : ℕ → Bool) (n : ℕ) (lines : List Line) (i : ℕ) (l : Line) → slice_get lines i ≡ Some l → on (n + i) ≡ true → IsIn (kept_lines on n lines) (keep (n + i) l)
lines_in on n [] i l at pass = absurd (cc)
lines_in on n (x ∷ lines) zero l at pass =
    let same : x ≡ l = cc in
    let here : keep n x ≡ keep (n + 0) l = ap (keep n) same ∙ ap (λ i. keep i l) (omega arith) in
    in_front (on n) (keep n x) (keep (n + 0) l) (kept_lines on (n + 1) lines) (ap on (omega arith) ∙ pass) here
lines_in on n (x ∷ lines) (suc i) l at pass =
    in_back (on n) (keep n x) (keep (n + suc i) l) (kept_lines on (n + 1) lines)
    (subst (λ j. IsIn (kept_lines on (n + 1) lines) (keep j l)) (omega arith) (lines_in on (n + 1) lines i l at (ap on (omega arith) ∙ pass)))

-- the line with a number past 0 stands one place before
kept_at : (lines : List Line) (i : ℕ) (l : Line) → slice_get lines i ≡ Some l → kept_line lines (1 + i) ≡ Some (keep (1 + i) l)
kept_at lines i l at = ap (option_map (keep (1 + i))) (numbered_get lines (1 + i) (omega arith) ∙ (ap (slice_get lines) (omega arith) ∙ at))

are_listed : (s : Setting) (past : List Entry) (m : ℕ) (k : Kept) → IsIn (listed_at s past m) k → IsKeptLine s past k × (listed s past m k.number ≡ true)
are_listed s past m k h =
    let r = in_lines (listed s past m) 1 (ledger s past) k h in
    (subst (IsKeptLine s past) r.is (kept_at (ledger s past) r.place r.line r.found), r.passes)

get_some : (xs : List Line) (i : ℕ) → i < length xs → (l : Line) × (slice_get xs i ≡ Some l)
get_some [] i low = absurd (omega (arith, low))
get_some (x ∷ xs) zero low = (x, refl)
get_some (x ∷ xs) (suc i) low = get_some xs i (omega (arith, low))

all_listed : (s : Setting) (past : List Entry) → IsLegalJournal s past → (m n : ℕ) → listed s past m n ≡ true → HasNumber (listed_at s past m) n
all_listed s past legal m n on =
    let w = listed_within s past legal m n on in
    let same : 1 + (n - 1) ≡ n = omega (arith, w.0) in
    let r = get_some (ledger s past) (n - 1) (omega (arith, w.0, w.1)) in
    (keep (1 + (n - 1)) r.0, lines_in (listed s past m) 1 (ledger s past) (n - 1) r.0 r.1 (ap (listed s past m) same ∙ on), same)

-- ---- the given clause

of_line : (lines : List Line) (o : Option ℕ) (k : Kept) → option_and_then (kept_line lines) o ≡ Some k → (o ≡ Some k.number) × (kept_line lines k.number ≡ Some k)
of_line lines None k h = absurd (cc)
of_line lines (Some n) k h = by_line (numbered lines n) refl h
  where
    by_line : (l : Option Line) → numbered lines n ≡ l → option_map (keep n) l ≡ Some k → (Some n ≡ Some k.number) × (kept_line lines k.number ≡ Some k)
    by_line None e f = absurd (cc)
    by_line (Some l) e f =
        let same : keep n l ≡ k = cc in
        (ap (λ x. Some x.number) same, subst (λ x. kept_line lines x.number ≡ Some x) same (ap (option_map (keep n)) e))

kept_some : (lines : List Line) (n : ℕ) → 1 ≤ n → n ≤ length lines → (k : Kept) × (kept_line lines n ≡ Some k)
kept_some lines n some low =
    let r = get_some lines (n - 1) (omega (arith, some, low)) in
    (keep n r.0, ap (option_map (keep n)) (numbered_get lines n some ∙ r.1))

given_none : (s : Setting) (past : List Entry) → IsLegalJournal s past → (m : ℕ) (o : Option ℕ) → chosen past m ≡ o → option_and_then (kept_line (ledger s past)) o ≡ None → o ≡ None
given_none s past legal m None e h = refl
given_none s past legal m (Some n) e h =
    let w = listed_within s past legal m n (chosen_listed s past legal m n e).1 in
    let r = kept_some (ledger s past) n w.0 w.1 in
    let bad : None ≡ Some r.0 = sym h ∙ r.1 in
    absurd (cc)

kept_number : (lines : List Line) (n : ℕ) (k : Kept) → kept_line lines n ≡ Some k → k.number ≡ n
kept_number lines n k h = by_line (numbered lines n) h
  where
    by_line : (o : Option Line) → option_map (keep n) o ≡ Some k → k.number ≡ n
    by_line None e = absurd (cc)
    by_line (Some l) e = let same : keep n l ≡ k = cc in ap (λ x. x.number) (sym same)

-- ---- the worked clauses

line_more : (xs ys : List Line) (k : Kept) → kept_line xs k.number ≡ Some k → kept_line (xs ++ ys) k.number ≡ Some k
line_more xs ys k h = by_line (numbered xs k.number) refl h
  where
    by_line : (o : Option Line) → numbered xs k.number ≡ o → option_map (keep k.number) o ≡ Some k → kept_line (xs ++ ys) k.number ≡ Some k
    by_line None e f = absurd (cc)
    by_line (Some l) e f = ap (option_map (keep k.number)) (numbered_more xs ys k.number l e) ∙ f

more_cases : (list : List Kept) (o : Option Kept) (k : Kept) → IsIn (and_more list o) k → IsIn list k ⊎ (o ≡ Some k)
more_cases list None k h = inl h
more_cases [] (Some x) k (zero, at) = inr at
more_cases [] (Some x) k (suc i, at) = absurd (cc)
more_cases (y ∷ list) (Some x) k (zero, at) = inl (0, at)
more_cases (y ∷ list) (Some x) k (suc i, at) = elim (more_cases list (Some x) k (i, at)) [ inl h ↦ inl (suc h.0, h.1) | inr h ↦ inr h ]

in_more : (list : List Kept) (o : Option Kept) (k : Kept) → IsIn list k → IsIn (and_more list o) k
in_more list None k h = h
in_more list (Some x) k (i, at) = (i, get_more list (x ∷ []) i k at)

in_last : (list : List Kept) (k : Kept) → IsIn (and_more list (Some k)) k
in_last [] k = (0, refl)
in_last (x ∷ list) k = let r = in_last list k in (suc r.0, r.1)

number_self : (n : ℕ) → is_number (Some n) n ≡ true
number_self n = eq-eqb n n refl

worked_cases : (ev : Event) (s : Setting) (past : List Entry) (on : ℕ → Bool) (list : List Kept) (k : Kept) → IsIn (worked_by ev (given_at s past) on list) k
    → IsIn list k ⊎ ((activates ev (chosen past) on k.number ≡ true) × (kept_line (ledger s past) k.number ≡ Some k))
worked_cases (Activate node) s past on list k h = go (on node) refl h
  where
    go : (b : Bool) → on node ≡ b → IsIn (cond b (and_more list (given_at s past node)) list) k → IsIn list k ⊎ (((on node && is_number (chosen past node) k.number) ≡ true) × (kept_line (ledger s past) k.number ≡ Some k))
    go true e at = elim (more_cases list (given_at s past node) k at) [
      | inl old ↦ inl old
      | inr new ↦
          let r = of_line (ledger s past) (chosen past node) k new in
          inr (and_from (on node) (is_number (chosen past node) k.number) e (ap (λ o. is_number o k.number) r.0 ∙ number_self k.number), r.1)
    ]
    go false e at = inl at
worked_cases _ s past on list k h = inl h

are_worked : (s : Setting) (past : List Entry) (m : ℕ) (k : Kept) → IsIn (worked_at s past m) k → IsKeptLine s past k × (worked past m k.number ≡ true)
are_worked s [] m k (i, at) = absurd (cc)
are_worked s (e ∷ past) m k h =
    let up = stem e.event (nodes past) m in
    let now = activates e.event (chosen past) (on_path past up) k.number in
    elim (worked_cases e.event s past (on_path past up) (worked_at s past up) k h) [
      | inl old ↦ (let r = are_worked s past up k old in (line_more (ledger s past) (lines_of e.event) k r.0, or_right now (worked past up k.number) r.1))
      | inr new ↦ (line_more (ledger s past) (lines_of e.event) k new.1, or_left now (worked past up k.number) new.0)
    ]

some_number : (o : Option ℕ) (n : ℕ) → is_number o n ≡ true → o ≡ Some n
some_number None n e = absurd (false≢true e)
some_number (Some x) n e = ap Some (eqb-true x n e)

activated : (s : Setting) (past : List Entry) → IsLegalJournal s past → (ev : Event) (on : ℕ → Bool) (list : List Kept) (n : ℕ) → activates ev (chosen past) on n ≡ true → HasNumber (worked_by ev (given_at s past) on list) n
activated s past legal (Activate node) on list n h =
    let p = and_parts (on node) (is_number (chosen past node) n) h in
    let at = some_number (chosen past node) n p.1 in
    let w = listed_within s past legal node n (chosen_listed s past legal node n at).1 in
    let r = kept_some (ledger s past) n w.0 w.1 in
    let given : given_at s past node ≡ Some r.0 = ap (option_and_then (kept_line (ledger s past))) at ∙ r.1 in
    let list_is : cond (on node) (and_more list (given_at s past node)) list ≡ and_more list (Some r.0) = cond-true (on node) (and_more list (given_at s past node)) list p.0 ∙ ap (and_more list) given in
    subst (λ ks. HasNumber ks n) (sym list_is) (r.0, in_last list r.0, kept_number (ledger s past) n r.0 r.1)
activated s past legal _ on list n h = absurd (false≢true h)

kept_by : (ev : Event) (given : ℕ → Option Kept) (on : ℕ → Bool) (list : List Kept) (k : Kept) → IsIn list k → IsIn (worked_by ev given on list) k
kept_by (Activate node) given on list k h = go (on node)
  where
    go : (b : Bool) → IsIn (cond b (and_more list (given node)) list) k
    go true = in_more list (given node) k h
    go false = h
kept_by _ given on list k h = h

all_worked : (s : Setting) (past : List Entry) → IsLegalJournal s past → (m n : ℕ) → worked past m n ≡ true → HasNumber (worked_at s past m) n
all_worked s [] legal m n h = absurd (false≢true h)
all_worked s (e ∷ past) legal m n h =
    let up = stem e.event (nodes past) m in
    let list = worked_at s past up in
    elim (or_cases (activates e.event (chosen past) (on_path past up) n) (worked past up n) h) [
      | inl now ↦ activated s past legal.1 e.event (on_path past up) list n now
      | inr old ↦ (let r = all_worked s past legal.1 up n old in (r.0, kept_by e.event (given_at s past) (on_path past up) list r.0 r.1, r.2))
    ]

-- ---- the view

pub has_clauses : (s : Setting) (past : List Entry) (v : Case) → IsLegalJournal s past → IsCaseOf s past v → HasClauses s past v
has_clauses s past v legal h = record {
  given = λ k is. (let r = of_line (ledger s past) (chosen past v.node) k (sym h.given ∙ is) in (r.1, r.0));
  none = λ is. given_none s past legal v.node (chosen past v.node) refl (sym h.given ∙ is);
  are_worked = λ k at. are_worked s past v.node k (subst (λ ks. IsIn ks k) h.worked at);
  all_worked = λ n on. subst (λ ks. HasNumber ks n) (sym h.worked) (all_worked s past legal v.node n on);
  are_listed = λ k at. are_listed s past v.node k (subst (λ ks. IsIn ks k) h.listed at);
  all_listed = λ n on. subst (λ ks. HasNumber ks n) (sym h.listed) (all_listed s past legal v.node n on);
}
