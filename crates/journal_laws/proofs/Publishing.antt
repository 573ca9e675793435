-- The lines of a batch may be published one after another, whatever others append meanwhile.
use Rattle.std.proofs.Common.{◌≡◌, ◌⊎◌, ℕ, zero, suc, ◌+◌, ◌<◌, ◌≤◌, inl, inr, Bool, true, false, ◌&&◌, cond, eqb, ltb, List, [], ◌∷◌, ◌++◌, length, take, Option, Some, None, refl, sym, ◌∙◌, ap, subst, arith}
use Rattle.std.specs.Prelude.{Contains, count_by}
use Rattle.std.specs.List.{slice_get}
use Rattle.std.proofs.lemmas.Option.{slice_get_within}
use Rattle.std.proofs.lemmas.Bool.{or_cases, or_left, and_parts, and_from, eqb-true, eq-eqb, lt-ltb, cond-true, cond-false}
use Rattle.spl_terms.specs.declared.clause.Part.{Part}
use Rattle.spl_terms.specs.declared.clause.Clause.{Clause}
use Rattle.spl_terms.specs.Clauses.{is_empty}
use Rattle.dep_sets.specs.declared.deps.Assumption.{Assumption}
use Rattle.proof_steps.specs.declared.step.Step.{Step}
use Rattle.proof_steps.specs.declared.step.Line.{Line}
use Rattle.spl_terms.specs.Lists.{numbered}
use Rattle.proof_steps.specs.Steps.{ground_resolve}
use Rattle.proof_steps.specs.Covering.{IsVariant}
use Rattle.case_journal.specs.declared.event.Entry.{Entry}
use Rattle.case_journal.specs.declared.event.Event.TheVariants.{Publish}
use Rattle.case_journal.specs.declared.event.End.{End}
use Rattle.case_journal.specs.declared.event.End.TheVariants.{Proved}
use Rattle.case_journal.specs.Journal.{Setting, ledger, nodes, steps, counted, count_of, is_counted}
use Rattle.case_journal.specs.Paths.{on_path, owner}
use Rattle.case_journal.specs.Facts.{listed, chosen, claimed, Holds, IsLive, before_choice, is_case_rule, published_since}
use Rattle.case_journal.specs.Ending.{first_end, or_else, no_assumptions}
use Rattle.case_journal.specs.Legal.{IsLegal, IsLegalJournal, IsInferred, IsPair, HasNoVariant, IsPublishable, IsListed, IsSettled}
use Rattle.case_journal.specs.PlaceLaws.{claimed_within}
use Rattle.case_journal.specs.ListedLaws.{listed_within}
use Rattle.case_journal.specs.LeafLaws.{claimer_within}
use Rattle.case_journal.specs.DependenceLaws.{numbered_old, numbered_new}
use Rattle.journal_laws.specs.Frame.{NoneBy, StillHolds}
use Rattle.journal_laws.specs.Batches.{IsRoundLine, IsBatch, publication, newest_first, IsUnderWay, with_lines, IsStated, CanGoOn}
use Rattle.journal_laws.proofs.Holders.{live_before}
use Rattle.case_journal.specs.DeathLaws.{dead_below, owner_on}
use Rattle.journal_laws.proofs.Frame.{own_by, quiet_keeps, some_of, one_of, still_self, still_more, others_leave_the_leaf}
use Rattle.journal_laws.proofs.Conclusions.{conclusion_more}

-- ---- a line stays publishable

same_leaf : (past : List Entry) (w m n : ℕ) → claimed past w ≡ Some m → claimed past w ≡ Some n → n ≡ m
same_leaf past w m n a b = let e : Some n ≡ Some m = sym b ∙ a in cc

pub inferred_still : (s : Setting) (old new : List Entry) (w m : ℕ) (own : List Clause) (l : Line) → Holds s old w m → StillHolds s old new w m own → IsRoundLine s old w m l → ((d : Clause) → Contains own d → ¬ IsVariant d l.stated.clause)
    → IsInferred s new w (owner new l.stated.deps m) l
inferred_still s old new w m own l holds h line apart =
    let i = line.inferred in
    let at : i.leaf ≡ m = same_leaf old w m i.leaf holds.claims i.holds.claims in
    record {
      leaf = m;
      holds = h.holds;
      clause = i.clause;
      chosen = h.chosen ∙ (ap (chosen old) (sym at) ∙ i.chosen);
      first = i.first;
      second = i.second;
      pair = subst (λ p. IsPair s p m i.clause i.first i.second) (sym h.before) (subst (λ n. IsPair s (before_choice old n) n i.clause i.first i.second) at i.pair);
      i = i.i;
      part = i.part;
      j = i.j;
      step = i.step;
      owner = refl;
      new = subst (λ p. HasNoVariant s p m l.stated.clause) (sym h.before) (subst (λ n. HasNoVariant s (before_choice old n) n l.stated.clause) at i.new);
      unpublished = λ d there. elim (some_of own (published_since old w m) d (subst (λ cs. Contains cs d) h.since there)) [
        | inl now ↦ apart d now
        | inr before ↦ i.unpublished d (subst (λ n. Contains (published_since old w n) d) (sym at) before)
      ];
    }

pub publishable_still : (s : Setting) (old new : List Entry) (w m : ℕ) (own : List Clause) (l : Line) → IsLegalJournal s new → Holds s old w m → StillHolds s old new w m own → IsRoundLine s old w m l
    → ((d : Clause) → Contains own d → ¬ IsVariant d l.stated.clause) → IsPublishable s new w (owner new l.stated.deps m) (l ∷ []) false
publishable_still s old new w m own l legal holds h line apart =
    let there = claimed_within s new legal w m h.holds.claims in
    record {
      line = l;
      one = refl;
      concluded = conclusion_more s.input (ledger s old) (ledger s new) h.lines l h.ledger line.concluded;
      live = λ dead. h.holds.live (dead_below s new legal m (owner new l.stated.deps m) there (owner_on s new legal l.stated.deps m there) dead);
      typed = refl;
      cause = inl (inferred_still s old new w m own l holds h line apart);
    }

counts_one : (l : Line) (i : ℕ) (part : Part) (j first second : ℕ) → l.step ≡ ground_resolve i part j first second → count_of (l ∷ []) ≡ 1
counts_one l i part j first second e = ap (λ (t : Step). count_by (λ b. b) (is_counted t.rule ∷ [])) e

pub line_counts : (s : Setting) (past : List Entry) (w m : ℕ) (l : Line) → IsRoundLine s past w m l → count_of (l ∷ []) ≡ 1
line_counts s past w m l h = let i = h.inferred in counts_one l i.i i.part i.j i.first i.second i.step

-- ---- what the first lines state

take_none : (xs : List Line) → take 0 xs ≡ []
take_none [] = refl
take_none (x ∷ xs) = refl

pub first_with : (lines : List Line) (k : ℕ) (l : Line) (own : List Clause) → slice_get lines k ≡ Some l → newest_first (take (suc k) lines) own ≡ l.stated.clause ∷ newest_first (take k lines) own
first_with [] k l own h = absurd (cc)
first_with (x ∷ xs) zero l own h =
    let q : x ≡ l = cc in
    ap (λ ls. newest_first ls (x.stated.clause ∷ own)) (take_none xs) ∙ ap (λ y. y.stated.clause ∷ own) q
first_with (x ∷ xs) (suc k) l own h = first_with xs k l (x.stated.clause ∷ own) h

pub first_stated : (lines : List Line) (own : List Clause) (c : Clause) → Contains (newest_first lines own) c → IsStated lines c ⊎ Contains own c
first_stated [] own c h = inr h
first_stated (x ∷ xs) own c h = elim (first_stated xs (x.stated.clause ∷ own) c h) [
  | inl at ↦ inl (record { place = suc at.place; line = at.line; found = at.found; is = at.is })
  | inr there ↦ elim (one_of x.stated.clause own c there) [
    | inl here ↦ inl (record { place = 0; line = x; found = refl; is = here })
    | inr before ↦ inr before
  ]
]

pub get_take : (xs : List Line) (k j : ℕ) (x : Line) → slice_get (take k xs) j ≡ Some x → (j < k) × (slice_get xs j ≡ Some x)
get_take [] zero j x h = absurd (cc)
get_take [] (suc k) j x h = absurd (cc)
get_take (y ∷ ys) zero j x h = absurd (cc)
get_take (y ∷ ys) (suc k) zero x h = (omega arith, h)
get_take (y ∷ ys) (suc k) (suc j) x h = let r = get_take ys k j x h in (omega (arith, r.0), r.1)

no_first : (c : Clause) → Contains [] c → ⊥
no_first c h = absurd (omega (arith, h.1))

-- no variant of a line of the batch is stated by one before it
first_apart : (s : Setting) (past : List Entry) (w m : ℕ) (lines : List Line) (k : ℕ) (l : Line) → IsBatch s past w m lines → slice_get lines k ≡ Some l → (d : Clause) → Contains (newest_first (take k lines) []) d → ¬ IsVariant d l.stated.clause
first_apart s past w m lines k l batch at d there = elim (first_stated (take k lines) [] d there) [
  | inl r ↦
      let g = get_take lines k r.place r.line r.found in
      subst (λ c. ¬ IsVariant c l.stated.clause) r.is (batch.apart r.place k r.line l g.0 g.1 at)
  | inr none ↦ absurd (no_first d none)
]

-- ---- one line after another

pub may_go_on : (s : Setting) (start past : List Entry) (w m : ℕ) (lines : List Line) (k : ℕ) (l : Line) → IsLegalJournal s past → first_end past ≡ None → IsUnderWay s start past w m lines k → slice_get lines k ≡ Some l → CanGoOn s past w m l
may_go_on s start past w m lines k l legal unended h at =
    let b = h.batch in
    let line = b.each k l at in
    let can = publishable_still s start past w m (newest_first (take k lines) []) l legal b.holds h.still line (first_apart s start w m lines k l b at) in
    let by = claimer_within s past legal w m h.still.holds.claims in
    let one = line_counts s start w m l line in
    record {
      publishes = λ few. record { some = by.0; worker = by.1; unended = λ e. unended; asked = record { asked = can; few = omega (arith, few, one) } };
      full = λ many. record { some = by.0; worker = by.1; unended = λ e. unended; asked = record { holds = h.still.holds; wanted = inl (owner past l.stated.deps m, can); many = omega (arith, many, one) } };
    }

last_stated : (s : Setting) (past : List Entry) (l : Line) → numbered (ledger s past ++ l ∷ []) (steps s past + 1) ≡ Some l
last_stated s past l = numbered_new (ledger s past) (l ∷ []) (steps s past + 1) 0 (omega arith)

live_with : (s : Setting) (past : List Entry) (w m node : ℕ) (l : Line) → IsLegalJournal s past → is_empty l.stated.clause ≡ false → IsLive s past m → IsLive s (publication w node l ∷ past) m
live_with s past w m node l legal full live = λ d.
    let i = d.0 in
    let e = d.1 in
    elim (or_cases (on_path past m node && (ltb (steps s past) i && eqb i (steps s past + 1))) (listed s past m i) e.lists) [
      | inl now ↦
          let p = and_parts (on_path past m node) (ltb (steps s past) i && eqb i (steps s past + 1)) now in
          let q = eqb-true i (steps s past + 1) (and_parts (ltb (steps s past) i) (eqb i (steps s past + 1)) p.1).1 in
          let at : Some l ≡ Some e.line = sym (ap (numbered (ledger s past ++ l ∷ [])) q ∙ last_stated s past l) ∙ e.found in
          let same : l ≡ e.line = cc in
          let bad : false ≡ true = sym full ∙ (ap (λ (x : Line). is_empty x.stated.clause) same ∙ e.empty) in
          cc
      | inr before ↦
          let r = listed_within s past legal m i before in
          live (i, record { lists = before; line = e.line; found = sym (numbered_old (ledger s past) (l ∷ []) i r.0 r.1) ∙ e.found; empty = e.empty })
    ]

-- and the tree stays settled
pub settled_with : (s : Setting) (past : List Entry) (w node : ℕ) (l : Line) → IsLegalJournal s past → is_empty l.stated.clause ≡ false → IsSettled s past → IsSettled s (publication w node l ∷ past)
settled_with s past w node l legal full h m there inner live =
    let low : m < nodes past = omega (arith, there) in
    let c = h m low inner (live_before s past (publication w node l) m low live) in
    record {
      clause = c.clause;
      side = c.side;
      child = c.child;
      is = record { there = (let t = c.is.there in omega arith); hangs = c.is.hangs };
      live = live_with s past w c.child node l legal full c.live;
    }

own_is : (w node : ℕ) (l : Line) → is_case_rule l.step.rule ≡ false → own_by w (publication w node l) ≡ l.stated.clause ∷ []
own_is w node l e = cond-true (eqb w w) (cond (is_case_rule l.step.rule) [] (l.stated.clause ∷ [])) [] (eq-eqb w w refl) ∙ cond-false (is_case_rule l.step.rule) [] (l.stated.clause ∷ []) e

pub not_case : (l : Line) (i : ℕ) (part : Part) (j first second : ℕ) → l.step ≡ ground_resolve i part j first second → is_case_rule l.step.rule ≡ false
not_case l i part j first second e = ap (λ (t : Step). is_case_rule t.rule) e

claims_same : (past : List Entry) (w node : ℕ) (l : Line) → claimed (publication w node l ∷ past) w ≡ claimed past w
claims_same past w node l = cond-true (eqb w w) (claimed past w) (claimed past w) (eq-eqb w w refl)

pub listed_now : (s : Setting) (past : List Entry) (w m node : ℕ) (l : Line) → on_path past m node ≡ true → IsListed s (publication w node l ∷ past) m l.stated.clause
listed_now s past w m node l on =
    let size = steps s past in (
      size + 1,
      record {
        lists = or_left (on_path past m node && (ltb size (size + 1) && eqb (size + 1) (size + 1))) (listed s past m (size + 1))
            (and_from (on_path past m node) _ on (and_from (ltb size (size + 1)) _ (lt-ltb size (size + 1) (omega arith)) (eq-eqb (size + 1) (size + 1) refl)));
        line = l;
        found = last_stated s past l;
        is = refl;
      },
    )

-- w holds its leaf after it has published a line that is no empty clause
pub own_keeps : (s : Setting) (past : List Entry) (w m node : ℕ) (l : Line) → IsLegalJournal s past → IsLegal s past w (Publish node (l ∷ []) false) → Holds s past w m → on_path past m node ≡ true → is_case_rule l.step.rule ≡ false → is_empty l.stated.clause ≡ false
    → StillHolds s past (publication w node l ∷ past) w m (l.stated.clause ∷ [])
own_keeps s past w m node l legal now holds on rule full =
    let e = publication w node l in
    let is = own_is w node l rule in
    let none = no_first l.stated.clause in
    subst (StillHolds s past (e ∷ past) w m) is
    (quiet_keeps s past e w m legal now.asked holds
    (record { leaves = λ o. refl; chooses = refl; whole = refl; activates = λ n. refl; split = λ n. refl; choices = λ n. refl })
    (claims_same past w node l) (live_with s past w m node l legal full holds.live)
    (λ c at. elim (one_of l.stated.clause [] c (subst (λ cs. Contains cs c) is at)) [
      | inl own ↦ subst (IsListed s (e ∷ past) m) own (listed_now s past w m node l on)
      | inr none ↦ absurd (no_first c none)
    ]))

pub under_way_more : (s : Setting) (start past : List Entry) (w m : ℕ) (lines : List Line) (k : ℕ) (l : Line) → IsLegalJournal s past → IsLegal s past w (Publish (owner past l.stated.deps m) (l ∷ []) false) → IsUnderWay s start past w m lines k → slice_get lines k ≡ Some l
    → is_empty l.stated.clause ≡ false → IsUnderWay s start (publication w (owner past l.stated.deps m) l ∷ past) w m lines (suc k)
under_way_more s start past w m lines k l legal now h at full =
    let i = (h.batch.each k l at).inferred in
    let node = owner past l.stated.deps m in
    let there = claimed_within s past legal w m h.still.holds.claims in
    let own = own_keeps s past w m node l legal now h.still.holds (owner_on s past legal l.stated.deps m there) (not_case l i.i i.part i.j i.first i.second i.step) full in
    record {
      batch = h.batch;
      still = subst (StillHolds s start (publication w node l ∷ past) w m) (sym (first_with lines k l [] at))
          (still_more s start past (publication w node l ∷ past) w m (newest_first (take k lines) []) (l.stated.clause ∷ []) h.still own);
    }

-- ---- the whole batch

pub unended_line : (b : Bool) (deps : List Assumption) (o : Option End) → b ≡ false → o ≡ None → or_else o (cond (b && no_assumptions deps) (Some Proved) None) ≡ None
unended_line b deps o e f =
    ap (λ p. or_else p (cond (b && no_assumptions deps) (Some Proved) None)) f
    ∙ ap (λ b. or_else None (cond (b && no_assumptions deps) (Some Proved) None)) e

pub with_more : (start : List Entry) (w m : ℕ) (lines : List Line) (k : ℕ) (l : Line) (past : List Entry) → slice_get lines k ≡ Some l
    → with_lines start w m (take (suc k) lines) past ≡ publication w (owner start l.stated.deps m) l ∷ with_lines start w m (take k lines) past
with_more start w m [] k l past h = absurd (cc)
with_more start w m (x ∷ xs) zero l past h =
    let q : x ≡ l = cc in
    ap (λ ls. with_lines start w m ls (publication w (owner start x.stated.deps m) x ∷ past)) (take_none xs) ∙ ap (λ y. publication w (owner start y.stated.deps m) y ∷ past) q
with_more start w m (x ∷ xs) (suc k) l past h = with_more start w m xs k l (publication w (owner start x.stated.deps m) x ∷ past) h

-- the first k lines are published
record IsThere (s : Setting) (start past now : List Entry) (w m : ℕ) (lines : List Line) (k : ℕ) : Type 0 where
  pub legal : IsLegalJournal s now
  pub unended : first_end now ≡ None
  pub way : IsUnderWay s start now w m lines k
  pub count : counted now ≡ counted past + k

get_some : (xs : List Line) (k : ℕ) → k < length xs → (x : Line) × (slice_get xs k ≡ Some x)
get_some [] k h = absurd (omega arith)
get_some (x ∷ xs) zero h = (x, refl)
get_some (x ∷ xs) (suc k) h = get_some xs k (omega arith)

there_more : (s : Setting) (start past now : List Entry) (w m : ℕ) (lines : List Line) (k : ℕ) (l : Line) → IsThere s start past now w m lines k → slice_get lines k ≡ Some l → suc k < length lines → counted past + suc k ≤ s.limits.steps
    → IsThere s start past (publication w (owner start l.stated.deps m) l ∷ now) w m lines (suc k)
there_more s start past now w m lines k l h at more few =
    let can = may_go_on s start now w m lines k l h.legal h.unended h.way at in
    let publish = can.publishes (omega (arith, few, h.count)) in
    let full = h.way.batch.full k l more at in
    let is = h.way.still.owners l.stated.deps in
    let line = h.way.batch.each k l at in
    subst (λ n. IsThere s start past (publication w n l ∷ now) w m lines (suc k)) is (record {
      legal = (publish, h.legal);
      unended = unended_line (is_empty l.stated.clause) l.stated.deps (first_end now) full h.unended;
      way = under_way_more s start now w m lines k l h.legal publish h.way at full;
      count = omega (arith, h.count, line_counts s start w m l line);
    })

all_there : (s : Setting) (start past : List Entry) (w m : ℕ) (lines : List Line) → IsLegalJournal s past → first_end past ≡ None → IsUnderWay s start past w m lines 0 → (k : ℕ) → k < length lines → counted past + k ≤ s.limits.steps
    → IsThere s start past (with_lines start w m (take k lines) past) w m lines k
all_there s start past w m lines legal unended way zero low few =
    subst (λ ls. IsThere s start past (with_lines start w m ls past) w m lines 0) (sym (take_none lines)) (record { legal = legal; unended = unended; way = way; count = omega arith })
all_there s start past w m lines legal unended way (suc k) low few =
    let r = get_some lines k (omega arith) in
    let before = all_there s start past w m lines legal unended way k (omega arith) (omega (arith, few)) in
    subst (λ p. IsThere s start past p w m lines (suc k)) (sym (with_more start w m lines k r.0 past r.1))
    (there_more s start past (with_lines start w m (take k lines) past) w m lines k r.0 before r.1 low few)

-- a batch that was made is ready, and stays so
pub ready_here : (s : Setting) (past : List Entry) (w m : ℕ) (lines : List Line) → IsBatch s past w m lines → IsUnderWay s past past w m lines 0
ready_here s past w m lines batch = record {
  batch = batch;
  still = subst (λ ls. StillHolds s past past w m (newest_first ls [])) (sym (take_none lines)) (still_self s past w m batch.holds);
}

pub under_way_after : (s : Setting) (start past later : List Entry) (w m : ℕ) (lines : List Line) → IsLegalJournal s (later ++ past) → NoneBy w later → IsLive s (later ++ past) m → IsUnderWay s start past w m lines 0 → IsUnderWay s start (later ++ past) w m lines 0
under_way_after s start past later w m lines legal none live h =
    let f = others_leave_the_leaf s past later w m legal h.still.holds none live in
    record { batch = h.batch; still = still_more s start past (later ++ past) w m (newest_first (take 0 lines) []) [] h.still f }

pub batch_is_legal : (s : Setting) (past later : List Entry) (w m : ℕ) (lines : List Line) → IsBatch s past w m lines → IsLegalJournal s (later ++ past) → NoneBy w later → IsLive s (later ++ past) m → first_end (later ++ past) ≡ None
    → (k : ℕ) (l : Line) → slice_get lines k ≡ Some l → counted (later ++ past) + k ≤ s.limits.steps
    → IsLegalJournal s (with_lines past w m (take k lines) (later ++ past)) × CanGoOn s (with_lines past w m (take k lines) (later ++ past)) w m l
batch_is_legal s past later w m lines batch legal none live unended k l at few =
    let way = under_way_after s past past later w m lines legal none live (ready_here s past w m lines batch) in
    let t = all_there s past (later ++ past) w m lines legal unended way k (slice_get_within lines k l at) few in
    (t.legal, may_go_on s past (with_lines past w m (take k lines) (later ++ past)) w m lines k l t.legal t.unended t.way at)
