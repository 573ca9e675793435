-- The tree stays settled where a clause is split: the left child is live, and each other live node keeps its live child.
use Rattle.std.proofs.Common.{◌≡◌, inl, inr, ℕ, zero, suc, ◌<◌, Bool, true, false, not, ◌&&◌, eqb, List, [], ◌∷◌, length, map, Some, None, option_map, option_and_then, refl, sym, ap, ◌∙◌, subst, arith, eq-eqb}
use Rattle.std.specs.List.{slice_get}
use Rattle.std.proofs.lemmas.Bool.{cases_Bool, cases_lt, or_cases, eqb-true, cond-true, false≢true}
use Rattle.spl_terms.specs.declared.clause.Clause.{Clause}
use Rattle.spl_terms.specs.Clauses.{is_empty}
use Rattle.proof_steps.specs.declared.step.Statement.{Statement}
use Rattle.proof_steps.specs.declared.step.Line.{Line}
use Rattle.proof_steps.specs.Steps.{conclude, states, side_of}
use Rattle.proof_steps.specs.SplitLaws.{assumed_of_two, assumption_of-two}
use Rattle.proof_steps.specs.Checked.{stated}
use Rattle.case_journal.specs.declared.event.Entry.{Entry}
use Rattle.case_journal.specs.declared.event.Event.TheVariants.{Split}
use Rattle.case_journal.specs.Journal.{Setting, ledger, nodes, steps}
use Rattle.case_journal.specs.Paths.{stem, on_path, branch, branch_to, is_leaf, subject}
use Rattle.case_journal.specs.Facts.{lists, listed, IsDead, IsLive}
use Rattle.case_journal.specs.Legal.{assume, IsLegalJournal, IsSplittable, IsSettled, HasLiveChild}
use Rattle.case_journal.specs.BranchLaws.{branch_old}
use Rattle.case_journal.specs.PathLaws.{stem_old, stem_high}
use Rattle.case_journal.specs.DependenceLaws.{listed_after, numbered_old, numbered_new}
use Rattle.case_journal.specs.ListedLaws.{listed_within}
use Rattle.case_journal.specs.LedgerLaws.{numbered_more}
use Rattle.case_journal.specs.StandingLaws.{split_here}
use Rattle.case_journal.specs.FreshLaws.{fresh_leaf}
use Rattle.clause_splitting.proofs.Left.{left_full}
use Rattle.clause_splitting.proofs.Sizes.{assume_concludes}

abbrev pub splitting : ℕ → ℕ → List Line → List Bool → Entry
splitting w node lines put_off = record { by = w; event = Split node lines put_off }

-- ---- the first line states the left part

step_at : (lines : List Line) (k : ℕ) (l : Line) → slice_get lines k ≡ Some l → slice_get (map (λ (x : Line). x.step) lines) k ≡ Some l.step
step_at [] k l e = absurd (cc)
step_at (x ∷ lines) zero l e = let same : x ≡ l = cc in ap (λ (y : Line). Some y.step) same
step_at (x ∷ lines) (suc k) l e = step_at lines k l e

first_full : (s : Setting) (past : List Entry) (w node : ℕ) (lines : List Line) (put_off : List Bool) → IsSplittable s past w node lines put_off → (l : Line) → slice_get lines 0 ≡ Some l → is_empty l.stated.clause ≡ false
first_full s past w node lines put_off p l e =
    let same : Some (assume p.clause 1 None) ≡ Some l.step = ap (λ xs. slice_get xs 0) (sym p.steps) ∙ step_at lines 0 l e in
    let step : assume p.clause 1 None ≡ l.step = cc in
    let ends = assumption_of-two p.clause 1 None p.split.stated ∙ ap (option_map (λ (c : Clause). states c (side_of p.clause 1 ∷ []))) (ap (option_and_then (assumed_of_two 1 None)) p.parted) in
    let made : Some (states p.parts.left (side_of p.clause 1 ∷ [])) ≡ Some l.stated =
    sym ends ∙ (sym (assume_concludes (ledger s past) p.clause 1 None p.split p.found) ∙ (ap (conclude s.input (stated (ledger s past))) step ∙ (p.concluded 0 l e).0)) in
    let is : states p.parts.left (side_of p.clause 1 ∷ []) ≡ l.stated = cc in
    ap (λ (t : Statement). is_empty t.clause) (sym is) ∙ left_full p.split.stated.clause p.parts p.parted

-- ---- dead nodes, before and after

-- an older node is dead only where it was
dead_before : (s : Setting) (past : List Entry) (w node : ℕ) (lines : List Line) (put_off : List Bool) → IsLegalJournal s past → (m : ℕ) → m < nodes past → IsDead s (splitting w node lines put_off ∷ past) m → IsDead s past m
dead_before s past w node lines put_off legal m there d =
    let i = d.0 in
    let size = steps s past in
    let old : listed s past m i ≡ true = elim (or_cases (lists (Split node lines put_off) (nodes past) size (on_path past m) m i) (listed s past (stem (Split node lines put_off) (nodes past) m) i) d.1.lists) [
      | inl new ↦ absurd (elim (split_here m (nodes past) i size (length lines) new) [ inl q ↦ (let a = q.0 in omega arith) | inr q ↦ (let a = q.0 in omega arith) ])
      | inr before ↦ ap (λ k. listed s past k i) (sym (stem_old (Split node lines put_off) (nodes past) m there)) ∙ before
    ] in
    let r = listed_within s past legal m i old in
    (i, record { lists = old; line = d.1.line; found = sym (numbered_old (ledger s past) lines i r.0 r.1) ∙ d.1.found; empty = d.1.empty })

-- a dead node stays dead
dead_after : (s : Setting) (past : List Entry) (w node : ℕ) (lines : List Line) (put_off : List Bool) (m : ℕ) → m < nodes past → IsDead s past m → IsDead s (splitting w node lines put_off ∷ past) m
dead_after s past w node lines put_off m there d =
    (d.0, record { lists = listed_after s past (splitting w node lines put_off) m d.0 there d.1.lists; line = d.1.line; found = numbered_more (ledger s past) lines d.0 d.1.line d.1.found; empty = d.1.empty })

-- the left child is live: its own clause is not empty, and what else is listed there was listed at the node
left_live : (s : Setting) (past : List Entry) (w node : ℕ) (lines : List Line) (put_off : List Bool) → IsLegalJournal s past → IsSplittable s past w node lines put_off → IsLive s (splitting w node lines put_off ∷ past) (nodes past)
left_live s past w node lines put_off legal p d =
    let count = nodes past in
    let size = steps s past in
    let i = d.0 in
    elim (or_cases (lists (Split node lines put_off) count size (on_path past count) count i) (listed s past (stem (Split node lines put_off) count count) i) d.1.lists) [
      | inl new ↦ elim (split_here count count i size (length lines) new) [
        | inl q ↦
            let at : slice_get lines 0 ≡ Some d.1.line = sym (numbered_new (ledger s past) lines i 0 (let a = q.1 in omega arith)) ∙ d.1.found in
            false≢true (sym (first_full s past w node lines put_off p d.1.line at) ∙ d.1.empty)
        | inr q ↦ absurd (let a = q.0 in omega arith)
      ]
      | inr before ↦
          let old : listed s past node i ≡ true = ap (λ k. listed s past k i) (sym (stem_high node count count (omega arith))) ∙ before in
          let r = listed_within s past legal node i old in
          p.holds.live (i, record { lists = old; line = d.1.line; found = sym (numbered_old (ledger s past) lines i r.0 r.1) ∙ d.1.found; empty = d.1.empty })
    ]

-- ---- live children

own_child : (s : Setting) (past : List Entry) (w node : ℕ) (lines : List Line) (put_off : List Bool) → IsLegalJournal s past → IsSplittable s past w node lines put_off → HasLiveChild s (splitting w node lines put_off ∷ past) node
own_child s past w node lines put_off legal p =
    let count = nodes past in
    record {
      clause = subject lines;
      side = 1;
      child = count;
      is = record { there = omega arith; hangs = cond-true (eqb count count) (Some (branch_to node (subject lines) 1)) _ (eq-eqb count count refl) };
      live = λ d. left_live s past w node lines put_off legal p d;
    }

old_child : (s : Setting) (past : List Entry) (w node : ℕ) (lines : List Line) (put_off : List Bool) → IsLegalJournal s past → (m : ℕ) → HasLiveChild s past m → HasLiveChild s (splitting w node lines put_off ∷ past) m
old_child s past w node lines put_off legal m c = record {
  clause = c.clause;
  side = c.side;
  child = c.child;
  is = record { there = (let t = c.is.there in omega arith); hangs = branch_old (Split node lines put_off) (nodes past) c.child (branch past c.child) c.is.there ∙ c.is.hangs };
  live = λ d. c.live (dead_before s past w node lines put_off legal c.child c.is.there d);
}

inner_before : (a b : Bool) → a ≡ false → (not a && b) ≡ false → b ≡ false
inner_before true b e h = absurd (false≢true (sym e))
inner_before false b e h = h

-- an inner node other than the one that was split was one before
older : (s : Setting) (past : List Entry) → IsLegalJournal s past → (m : ℕ) → is_leaf past m ≡ false → m < nodes past
older s past legal m inner = elim (cases_lt m (nodes past)) [
  | inl low ↦ low
  | inr high ↦ absurd (false≢true (sym inner ∙ fresh_leaf s past legal m (omega arith)))
]

pub split_settled : (s : Setting) (past : List Entry) (w node : ℕ) (lines : List Line) (put_off : List Bool) → IsLegalJournal s past → IsSplittable s past w node lines put_off → IsSettled s (splitting w node lines put_off ∷ past)
split_settled s past w node lines put_off legal p m there inner live =
    elim (cases_Bool (eqb node m)) [
      | inl same ↦ subst (HasLiveChild s (splitting w node lines put_off ∷ past)) (eqb-true node m same) (own_child s past w node lines put_off legal p)
      | inr other ↦
          let leaf = inner_before (eqb node m) (is_leaf past m) other inner in
          let low = older s past legal m leaf in
          old_child s past w node lines put_off legal m (p.settled m low leaf (λ d. live (dead_after s past w node lines put_off m low d)))
    ]
