-- What is listed, chosen and worked off at a node, as the journal goes on.
use Rattle.std.specs.Prelude.{slice_get, option_map, option_and_then, take}
use Rattle.std.proofs.Common.{◌≡◌, ℕ, zero, suc, ◌+◌, ◌<◌, ◌≤◌, inl, inr, Bool, true, false, cond, ◌&&◌, ◌||◌, eqb, ltb, leb, List, [], ◌∷◌, ◌++◌, length, Option, Some, None, refl, sym, ◌∙◌, ap, arith, eq-eqb, append_assoc}
use Rattle.std.proofs.lemmas.Bool.{eqb-true, cases_Bool, cond-true, cond-false, false≢true, false_from_ne_true, leb-true, le-leb, and_from}
use Rattle.std.proofs.Math.Seq.{take-suc}
use Rattle.std.proofs.lemmas.List.{append-nil, length-take-le, take_all}
use Rattle.std.proofs.lemmas.Option.{slice_get_within, get_or_from_slice_get}
use Rattle.proof_steps.specs.declared.step.Line.{Line}
use Rattle.proof_steps.specs.Steps.{numbered}
use Rattle.case_journal.specs.declared.event.Entry.{Entry}
use Rattle.case_journal.specs.declared.event.Event.{Event}
use Rattle.case_journal.specs.declared.event.Event.TheVariants.{Choose, Publish, Split, Activate}
use Rattle.case_journal.specs.Journal.{Setting, ledger, nodes, steps, lines_of}
use Rattle.case_journal.specs.Paths.{stem, on_path}
use Rattle.case_journal.specs.Facts.{lists, listed, chosen}
use Rattle.case_journal.specs.Legal.{IsAsked, IsLegalJournal}
use Rattle.case_journal.specs.ListedLaws.{listed_within}
use Rattle.case_journal.specs.PlaceLaws.{lists_new, steps_more}
use Rattle.case_journal.specs.ListLaws.{get_left, numbered_get, length-input_lines}
use Rattle.case_journal.specs.PathLaws.{leaf_path, on_path-self, or_no}
use Rattle.case_journal.specs.FreshLaws.{fresh_chosen}
use Rattle.case_journal.specs.DependenceLaws.{chosen_listed, picked_listed, numbered_old}
use Rattle.case_journal.specs.PickLaws.{pick_passive}
use Rattle.case_view.specs.declared.kept.Kept.{Kept}
use Rattle.case_view.specs.Views.{keep, kept_line, kept_lines, listed_at, given_at, and_more, worked_by, worked_at, path_nodes}
use Rattle.case_view.specs.Walks.{is_among, given_by, worked_with}
use Rattle.case_view.proofs.PathSteps.{among_path}

-- ---- the listed clauses

either_append : (b : Bool) (k : Kept) (whole front back : List Kept) → whole ≡ front ++ back → cond b (k ∷ whole) whole ≡ cond b (k ∷ front) front ++ back
either_append true k whole front back h = ap (λ ks. k ∷ ks) h
either_append false k whole front back h = h

pub kept_append : (on : ℕ → Bool) (n : ℕ) (xs ys : List Line) → kept_lines on n (xs ++ ys) ≡ kept_lines on n xs ++ kept_lines on (n + length xs) ys
kept_append on n [] ys = ap (λ k. kept_lines on k ys) (omega arith)
kept_append on n (x ∷ xs) ys =
    either_append (on n) (keep n x) (kept_lines on (n + 1) (xs ++ ys)) (kept_lines on (n + 1) xs) (kept_lines on (n + suc (length xs)) ys)
    (kept_append on (n + 1) xs ys ∙ ap (λ k. kept_lines on (n + 1) xs ++ kept_lines on k ys) (omega arith))

pub kept_same : (on off : ℕ → Bool) (n : ℕ) (xs : List Line) → ((i : ℕ) → n ≤ i → i < n + length xs → on i ≡ off i) → kept_lines on n xs ≡ kept_lines off n xs
kept_same on off n [] h = refl
kept_same on off n (x ∷ xs) h =
    let rest = kept_same on off (n + 1) xs (λ i le low. h i (omega (arith, le)) (omega (arith, low))) in
    ap (λ b. cond b (keep n x ∷ kept_lines on (n + 1) xs) (kept_lines on (n + 1) xs)) (h n (omega arith) (omega arith))
    ∙ ap (λ ks. cond (off n) (keep n x ∷ ks) ks) rest

lists_old : (s : Setting) (past : List Entry) (w : ℕ) (ev : Event) (on : ℕ → Bool) (m i : ℕ) → IsAsked s past w ev → i ≤ steps s past → lists ev (nodes past) (steps s past) on m i ≡ false
lists_old s past w ev on m i p few = false_from_ne_true (lists ev (nodes past) (steps s past) on m i) (λ h. let b = lists_new s past w ev (nodes past) on m i p h in omega (arith, b.0, few))

or_none : (x y : Bool) → x ≡ false → (x || y) ≡ y
or_none true y h = absurd (cc)
or_none false y h = refl

-- who lists by a Publish hangs where it did
lists_on : (ev : Event) (past : List Entry) (size b i : ℕ) (ns : List ℕ) → ns ≡ path_nodes past (stem ev (nodes past) b) → lists ev (nodes past) size (on_path past b) b i ≡ lists ev (nodes past) size (is_among ns) b i
lists_on (Publish node chain put_off) past size b i ns is =
    ap (λ x. x && (ltb size i && eqb i (size + length chain))) (sym (ap (λ xs. is_among xs node) is ∙ among_path past b node))
lists_on (Split node lines put_off) past size b i ns is = refl
lists_on _ past size b i ns is = refl

pub listed_step : (s : Setting) (past : List Entry) → IsLegalJournal s past → (e : Entry) → IsAsked s past e.by e.event → (b : ℕ) (ns : List ℕ) → ns ≡ path_nodes past (stem e.event (nodes past) b)
    → listed_at s (e ∷ past) b ≡ listed_at s past (stem e.event (nodes past) b) ++ kept_lines (lists e.event (nodes past) (steps s past) (is_among ns) b) (steps s past + 1) (lines_of e.event)
listed_step s past legal e asked b ns is =
    let a = stem e.event (nodes past) b in
    let on = listed s (e ∷ past) b in
    let new = lists e.event (nodes past) (steps s past) (on_path past b) b in
    kept_append on 1 (ledger s past) (lines_of e.event)
    ∙ (ap (λ ks. ks ++ kept_lines on (1 + steps s past) (lines_of e.event))
    (kept_same on (listed s past a) 1 (ledger s past) (λ i le low. or_none (new i) (listed s past a i) (lists_old s past e.by e.event (on_path past b) b i asked (omega (arith, low)))))
    ∙ ap (λ ks. listed_at s past a ++ ks)
    (ap (λ k. kept_lines on k (lines_of e.event)) (omega arith)
    ∙ kept_same on (lists e.event (nodes past) (steps s past) (is_among ns) b) (steps s past + 1) (lines_of e.event) (λ i le low.
    ap (λ x. new i || x) (false_from_ne_true (listed s past a i) (λ h. let w = listed_within s past legal a i h in omega (arith, w.1, le)))
    ∙ (or_no (new i) ∙ lists_on e.event past (steps s past) b i ns is))))

-- ---- the given clause

pub kept_old : (xs ys : List Line) (n : ℕ) → 1 ≤ n → n ≤ length xs → kept_line (xs ++ ys) n ≡ kept_line xs n
kept_old xs ys n some few = ap (option_map (keep n)) (numbered_old xs ys n some few)

-- what is chosen states the same in a longer ledger
pub given_old : (s : Setting) (past : List Entry) → IsLegalJournal s past → (m : ℕ) (more : List Line) (o : Option ℕ) → chosen past m ≡ o → option_and_then (kept_line (ledger s past ++ more)) o ≡ option_and_then (kept_line (ledger s past)) o
given_old s past legal m more None h = refl
given_old s past legal m more (Some c) h =
    let at = listed_within s past legal m c (chosen_listed s past legal m c h).1 in
    kept_old (ledger s past) more c at.0 at.1

-- the clause that an event chooses is in the ledger
pub choice_within : (s : Setting) (past : List Entry) → IsLegalJournal s past → (w node clause : ℕ) (selected : Option ℕ) → IsAsked s past w (Choose node clause selected) → (1 ≤ clause) × (clause ≤ steps s past)
choice_within s past legal w node clause selected p =
    listed_within s past legal node clause (picked_listed s past node clause (pick_passive s past node clause p.picked))

given_choose : (s : Setting) (past : List Entry) → IsLegalJournal s past → (w node clause : ℕ) (selected : Option ℕ) → IsAsked s past w (Choose node clause selected) → (b : ℕ) (full more : List Line) → full ≡ ledger s past ++ more
    → cond (eqb node b) (kept_line full clause) (given_at s past b) ≡ option_and_then (kept_line (ledger s past ++ [])) (cond (eqb node b) (Some clause) (chosen past b))
given_choose s past legal w node clause selected p b full more is = elim (cases_Bool (eqb node b)) [
  | inl here ↦
      let at = choice_within s past legal w node clause selected p in
      cond-true (eqb node b) (kept_line full clause) (given_at s past b) here
      ∙ (ap (λ ls. kept_line ls clause) is
      ∙ (kept_old (ledger s past) more clause at.0 at.1
      ∙ (sym (kept_old (ledger s past) [] clause at.0 at.1)
      ∙ ap (option_and_then (kept_line (ledger s past ++ []))) (sym (cond-true (eqb node b) (Some clause) (chosen past b) here)))))
  | inr other ↦
      cond-false (eqb node b) (kept_line full clause) (given_at s past b) other
      ∙ (sym (given_old s past legal b [] (chosen past b) refl)
      ∙ ap (option_and_then (kept_line (ledger s past ++ []))) (sym (cond-false (eqb node b) (Some clause) (chosen past b) other)))
]

given_activate : (s : Setting) (past : List Entry) → IsLegalJournal s past → (node b : ℕ)
    → cond (eqb node b) None (given_at s past b) ≡ option_and_then (kept_line (ledger s past ++ [])) (cond (eqb node b) None (chosen past b))
given_activate s past legal node b = elim (cases_Bool (eqb node b)) [
  | inl here ↦
      cond-true (eqb node b) None (given_at s past b) here
      ∙ ap (option_and_then (kept_line (ledger s past ++ []))) (sym (cond-true (eqb node b) None (chosen past b) here))
  | inr other ↦
      cond-false (eqb node b) None (given_at s past b) other
      ∙ (sym (given_old s past legal b [] (chosen past b) refl)
      ∙ ap (option_and_then (kept_line (ledger s past ++ []))) (sym (cond-false (eqb node b) None (chosen past b) other)))
]

given_split : (s : Setting) (past : List Entry) → IsLegalJournal s past → (node b : ℕ) (lines : List Line)
    → cond (eqb b (cond (leb (nodes past) b) node b)) (given_at s past (cond (leb (nodes past) b) node b)) None ≡ option_and_then (kept_line (ledger s past ++ lines)) (chosen past b)
given_split s past legal node b lines = elim (cases_Bool (eqb b (cond (leb (nodes past) b) node b))) [
  | inl same ↦
      cond-true (eqb b (cond (leb (nodes past) b) node b)) (given_at s past (cond (leb (nodes past) b) node b)) None same
      ∙ (ap (given_at s past) (sym (eqb-true b (cond (leb (nodes past) b) node b) same))
      ∙ sym (given_old s past legal b lines (chosen past b) refl))
  | inr other ↦
      cond-false (eqb b (cond (leb (nodes past) b) node b)) (given_at s past (cond (leb (nodes past) b) node b)) None other
      ∙ ap (option_and_then (kept_line (ledger s past ++ lines))) (sym (elim (cases_Bool (leb (nodes past) b)) [
        | inl high ↦ fresh_chosen s past legal b (leb-true (nodes past) b high)
        | inr low ↦ absurd (false≢true (sym other ∙ eq-eqb b (cond (leb (nodes past) b) node b) (sym (cond-false (leb (nodes past) b) node b low))))
      ]))
]

pub given_step : (s : Setting) (past : List Entry) → IsLegalJournal s past → (w : ℕ) (ev : Event) → IsAsked s past w ev → (b : ℕ) (full more : List Line) → full ≡ ledger s past ++ more
    → given_by ev full (stem ev (nodes past) b) b (given_at s past (stem ev (nodes past) b)) ≡ given_at s (record { by = w; event = ev } ∷ past) b
given_step s past legal w (Choose node clause selected) p b full more is = given_choose s past legal w node clause selected p b full more is
given_step s past legal w (Activate node) p b full more is = given_activate s past legal node b
given_step s past legal w (Split node lines put_off) p b full more is = given_split s past legal node b lines
given_step s past legal w (Publish node chain put_off) p b full more is = sym (given_old s past legal b chain (chosen past b) refl)
given_step s past legal w _ p b full more is = sym (given_old s past legal b [] (chosen past b) refl)

-- ---- the worked clauses

pub worked_step : (s : Setting) (past : List Entry) → IsLegalJournal s past → (w : ℕ) (ev : Event) → IsAsked s past w ev → (a : ℕ) → a < nodes past
    → worked_with ev a (given_at s past a) (worked_at s past a) ≡ worked_by ev (given_at s past) (on_path past a) (worked_at s past a)
worked_step s past legal w (Activate node) p a there =
    let list = worked_at s past a in
    elim (cases_Bool (eqb node a)) [
      | inl here ↦
          let q = eqb-true node a here in
          cond-true (eqb node a) (and_more list (given_at s past a)) list here
          ∙ (ap (λ n. and_more list (given_at s past n)) (sym q)
          ∙ sym (cond-true (on_path past a node) (and_more list (given_at s past node)) list (ap (on_path past a) q ∙ on_path-self past a)))
      | inr other ↦
          cond-false (eqb node a) (and_more list (given_at s past a)) list other
          ∙ sym (cond-false (on_path past a node) (and_more list (given_at s past node)) list (false_from_ne_true (on_path past a node) (λ on.
          false≢true (sym other ∙ eq-eqb node a (leaf_path s past legal a node there p.holds.leaf on)))))
    ]
worked_step s past legal w _ p a there = refl

-- ---- lists as they are made

take_more : {A : Type 0} (xs : List A) (k : ℕ) (x : A) → slice_get xs k ≡ Some x → take (suc k) xs ≡ take k xs ++ x ∷ []
take_more xs k x h = take-suc xs k x (slice_get_within xs k x h) ∙ ap (λ y. take k xs ++ y ∷ []) (get_or_from_slice_get xs k x x h)

-- one line more
pub kept_more : (on : ℕ → Bool) (n : ℕ) (xs : List Line) (k : ℕ) (x : Line) → slice_get xs k ≡ Some x
    → kept_lines on n (take (k + 1) xs) ≡ kept_lines on n (take k xs) ++ cond (on (n + k)) (keep (n + k) x ∷ []) []
kept_more on n xs k x h =
    let next : k + 1 ≡ suc k = omega arith in
    let short : length (take k xs) ≡ k = length-take-le k xs (omega (arith, slice_get_within xs k x h)) in
    ap (λ j. kept_lines on n (take j xs)) next
    ∙ (ap (kept_lines on n) (take_more xs k x h)
    ∙ (kept_append on n (take k xs) (x ∷ [])
    ∙ ap (λ j. kept_lines on n (take k xs) ++ kept_lines on (n + j) (x ∷ [])) short))

pub listed_pushed : (on : ℕ → Bool) (base : ℕ) (xs : List Line) (k : ℕ) (x : Line) (first old new : List Kept) → slice_get xs k ≡ Some x → on (base + k + 1) ≡ true → old ≡ first ++ kept_lines on (base + 1) (take k xs)
    → new ≡ old ++ keep (base + k + 1) x ∷ [] → new ≡ first ++ kept_lines on (base + 1) (take (k + 1) xs)
listed_pushed on base xs k x first old new h pass before now =
    let at : base + k + 1 ≡ base + 1 + k = omega arith in
    let one : cond (on (base + 1 + k)) (keep (base + 1 + k) x ∷ []) [] ≡ keep (base + k + 1) x ∷ [] =
    cond-true (on (base + 1 + k)) (keep (base + 1 + k) x ∷ []) [] (ap on (sym at) ∙ pass) ∙ ap (λ j. keep j x ∷ []) (sym at) in
    now
    ∙ (ap (λ ks. ks ++ keep (base + k + 1) x ∷ []) before
    ∙ (append_assoc first (kept_lines on (base + 1) (take k xs)) (keep (base + k + 1) x ∷ [])
    ∙ ap (λ ks. first ++ ks) (sym (kept_more on (base + 1) xs k x h ∙ ap (λ ks. kept_lines on (base + 1) (take k xs) ++ ks) one))))

pub listed_passed : (on : ℕ → Bool) (base : ℕ) (xs : List Line) (k : ℕ) (x : Line) (first old : List Kept) → slice_get xs k ≡ Some x → on (base + k + 1) ≡ false → old ≡ first ++ kept_lines on (base + 1) (take k xs)
    → old ≡ first ++ kept_lines on (base + 1) (take (k + 1) xs)
listed_passed on base xs k x first old h pass before =
    let at : base + k + 1 ≡ base + 1 + k = omega arith in
    before
    ∙ ap (λ ks. first ++ ks) (sym (kept_more on (base + 1) xs k x h
    ∙ (ap (λ ks. kept_lines on (base + 1) (take k xs) ++ ks) (cond-false (on (base + 1 + k)) (keep (base + 1 + k) x ∷ []) [] (ap on (sym at) ∙ pass))
    ∙ append-nil (kept_lines on (base + 1) (take k xs)))))

get_some : {A : Type 0} (xs : List A) (i : ℕ) → i < length xs → (x : A) × (slice_get xs i ≡ Some x)
get_some [] i low = absurd (omega (arith, low))
get_some (x ∷ xs) zero low = (x, refl)
get_some (x ∷ xs) (suc i) low = get_some xs i (omega (arith, low))

-- whether it is listed or not
pub listed_at_place : (on : ℕ → Bool) (base : ℕ) (xs : List Line) (k : ℕ) (first old : List Kept) → k < length xs → on (base + k + 1) ≡ false → old ≡ first ++ kept_lines on (base + 1) (take k xs)
    → old ≡ first ++ kept_lines on (base + 1) (take (k + 1) xs)
listed_at_place on base xs k first old low pass before = let r = get_some xs k low in listed_passed on base xs k r.0 first old r.1 pass before

-- ---- the clauses of the input

pub input_within : (s : Setting) (past : List Entry) → length s.input ≤ steps s past
input_within s [] = omega (arith, length-input_lines 1 s.input)
input_within s (e ∷ past) = omega (arith, input_within s past, steps_more s past e)

input_first : (s : Setting) (past : List Entry) (k : ℕ) → k < length s.input → slice_get (ledger s past) k ≡ slice_get (ledger s []) k
input_first s [] k low = refl
input_first s (e ∷ past) k low = get_left (ledger s past) (lines_of e.event) k (omega (arith, low, input_within s past)) ∙ input_first s past k low

input_on : (s : Setting) (k : ℕ) → k < length s.input → listed s [] 0 (1 + k) ≡ true
input_on s k low = and_from (leb 1 (1 + k)) (leb (1 + k) (length s.input)) (le-leb 1 (1 + k) (omega arith)) (le-leb (1 + k) (length s.input) (omega (arith, low)))

pub input_pushed : (s : Setting) (past : List Entry) (k : ℕ) (l : Line) (old new : List Kept) → k < length s.input → numbered (ledger s past) (k + 1) ≡ Some l → old ≡ kept_lines (listed s [] 0) 1 (take k (ledger s []))
    → new ≡ old ++ keep (k + 1) l ∷ [] → new ≡ kept_lines (listed s [] 0) 1 (take (k + 1) (ledger s []))
input_pushed s past k l old new low found before now =
    let there : slice_get (ledger s []) k ≡ Some l = sym (input_first s past k low) ∙ (ap (slice_get (ledger s past)) (omega arith) ∙ (sym (numbered_get (ledger s past) (k + 1) (omega arith)) ∙ found)) in
    let one : cond (listed s [] 0 (1 + k)) (keep (1 + k) l ∷ []) [] ≡ keep (k + 1) l ∷ [] =
    cond-true (listed s [] 0 (1 + k)) (keep (1 + k) l ∷ []) [] (input_on s k low) ∙ ap (λ j. keep j l ∷ []) (omega arith) in
    now
    ∙ (ap (λ ks. ks ++ keep (k + 1) l ∷ []) before
    ∙ sym (kept_more (listed s [] 0) 1 (ledger s []) k l there ∙ ap (λ ks. kept_lines (listed s [] 0) 1 (take k (ledger s [])) ++ ks) one))

pub input_all : (s : Setting) (k : ℕ) (list : List Kept) → length s.input ≤ k → list ≡ kept_lines (listed s [] 0) 1 (take k (ledger s [])) → list ≡ listed_at s [] 0
input_all s k list far h = h ∙ ap (kept_lines (listed s [] 0) 1) (take_all k (ledger s []) (omega (arith, far, length-input_lines 1 s.input)))
