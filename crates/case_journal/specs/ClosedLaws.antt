-- Laws that carry proofs, and no definitions that a reader must believe: each dead node is closed by an empty clause that depends on assumptions of a node of its path, and not on a split that is discarded.
use Rattle.std.proofs.Common.{◌≡◌, ℕ, ◌+◌, ◌<◌, ◌≤◌, inl, inr, true, false, not, ◌&&◌, ◌||◌, eqb, List, [], ◌∷◌, Option, Some, None, refl, sym, ◌∙◌, ap, subst, arith, eq-eqb}
use Rattle.std.proofs.lemmas.Bool.{or_cases, or_left, or_right, or_from, and_parts, eqb-true, cases_Bool, cases_lt, cond-true, cond-false, false≢true, false_from_ne_true, not-true, ne_eqb}
use Rattle.dep_sets.specs.declared.deps.Assumption.{Assumption}
use Rattle.dep_sets.specs.Assumptions.{contains_assumption}
use Rattle.proof_steps.specs.Steps.{side_of}
use Rattle.case_journal.specs.declared.branch.Branch.{Branch}
use Rattle.case_journal.specs.declared.event.Entry.{Entry}
use Rattle.case_journal.specs.declared.event.Event.{Event}
use Rattle.case_journal.specs.declared.event.Event.TheVariants.{Choose, Split, Activate}
use Rattle.case_journal.specs.Journal.{Setting, nodes, nodes_of}
use Rattle.case_journal.specs.Paths.{stem, on_path, branch, branch_by, subject, is_leaf, splits_node}
use Rattle.case_journal.specs.Facts.{listed, worked, split, splits_clause, chosen, chosen_by, IsDead}
use Rattle.case_journal.specs.Legal.{IsAsked, IsLegalJournal}
use Rattle.case_journal.specs.Closing.{IsEmptyOf, IsAssumedAt, IsClosed}
use Rattle.case_journal.specs.PlaceLaws.{claimed_within, stem_there, split_there}
use Rattle.case_journal.specs.PathLaws.{on_path-self, on_path_within, stem_old, stem_high, leaf_path, not_true}
use Rattle.case_journal.specs.BranchLaws.{branch_old, climbs}
use Rattle.case_journal.specs.PickLaws.{pick_passive, subject_is}
use Rattle.case_journal.specs.FreshLaws.{fresh_chosen}
use Rattle.case_journal.specs.StandingLaws.{assumed_below, assumed_before, new_branch, listed_stands}
use Rattle.case_journal.specs.DependenceLaws.{deps_assumed, split_listed}

-- ---- the clauses that were split on a path

new_split : (s : Setting) (past : List Entry) → IsLegalJournal s past → (w : ℕ) (ev : Event) (m : ℕ) (b : Branch) → IsAsked s past w ev → nodes past ≤ m → m < nodes past + nodes_of ev → branch_by ev (nodes past) m (branch past m) ≡ Some b
    → splits_clause ev (on_path past (stem ev (nodes past) m)) b.assumed.split ≡ true
new_split s past legal w (Split node lines put_off) m b p high there h =
    let on : on_path past (stem (Split node lines put_off) (nodes past) m) node ≡ true = ap (λ x. on_path past x node) (stem_high node (nodes past) m high) ∙ on_path-self past node in
    let at = λ (q : b.assumed.split ≡ subject lines). ap (λ t. t && eqb (subject lines) b.assumed.split) on ∙ eq-eqb (subject lines) b.assumed.split (sym q) in
    elim (new_branch node (subject lines) (nodes past) m (branch past m) b high there h) [
      | inl r ↦ at (ap (λ x. x.assumed.split) r.1)
      | inr r ↦ at (ap (λ x. x.assumed.split) r.1)
    ]
new_split s past legal w _ m b p high there h = absurd (omega arith)

-- an assumption on a path is about a clause that was split on it
split_above : (s : Setting) (past : List Entry) → IsLegalJournal s past → (m k : ℕ) (b : Branch) → m < nodes past → on_path past m k ≡ true → branch past k ≡ Some b → split past m b.assumed.split ≡ true
split_above s [] legal m k b there on h = cc
split_above s (e ∷ past) legal m k b there on h =
    let count = nodes past in
    let u = stem e.event count m in
    let u_there = stem_there s past legal.1 e.by e.event m legal.0.asked there in
    let c = b.assumed.split in
    let new = splits_clause e.event (on_path past u) c in
    let deeper = λ (g : on_path past u k ≡ true).
    let low = on_path_within s past legal.1 u k u_there g in
    or_right new (split past u c) (split_above s past legal.1 u k b u_there g (sym (branch_old e.event count k (branch past k) low) ∙ h)) in
    elim (or_cases (eqb k m) (on_path past u k) on) [
      | inl same ↦
          let q = eqb-true k m same in
          elim (cases_lt m count) [
            | inl low ↦ deeper (ap (λ x. on_path past x k) (stem_old e.event count m low) ∙ (ap (on_path past m) q ∙ on_path-self past m))
            | inr high ↦ or_left new (split past u c) (new_split s past legal.1 e.by e.event m b legal.0.asked high there (ap (branch (e ∷ past)) (sym q) ∙ h))
          ]
      | inr up ↦ deeper up
    ]

-- ---- a chosen clause was not split

unsplit_step : (s : Setting) (past : List Entry) → IsLegalJournal s past → (w : ℕ) (ev : Event) (m i : ℕ) (o : Option ℕ) → IsAsked s past w ev → m < nodes past → not (splits_node ev m) ≡ true → (o ≡ Some i → split past m i ≡ false) → chosen_by ev m o ≡ Some i
    → (splits_clause ev (on_path past (stem ev (nodes past) m)) i || split past (stem ev (nodes past) m) i) ≡ false
unsplit_step s past legal w (Choose node clause selected) m i o p low whole old h = elim (cases_Bool (eqb node m)) [
  | inl same ↦
      let e : Some clause ≡ Some i = sym (cond-true (eqb node m) (Some clause) o same) ∙ h in
      let q : clause ≡ i = cc in
      let z = eqb-true node m same in
      let passive = pick_passive s past node clause p.picked in
      let rest = (and_parts (listed s past node clause) (not (worked past node clause) && not (split past node clause)) passive).1 in
      let off = not-true (split past node clause) (and_parts (not (worked past node clause)) (not (split past node clause)) rest).1 in
      ap (λ x. split past x i) (sym z) ∙ (ap (split past node) (sym q) ∙ off)
  | inr other ↦ old (sym (cond-false (eqb node m) (Some clause) o other) ∙ h)
]
unsplit_step s past legal w (Activate node) m i o p low whole old h = elim (cases_Bool (eqb node m)) [
  | inl same ↦ let e : None ≡ Some i = sym (cond-true (eqb node m) None o same) ∙ h in absurd (cc)
  | inr other ↦ old (sym (cond-false (eqb node m) None o other) ∙ h)
]
unsplit_step s past legal w (Split node lines put_off) m i o p low whole old h =
    let u = stem (Split node lines put_off) (nodes past) m in
    let z = stem_old (Split node lines put_off) (nodes past) m low in
    let off : on_path past u node ≡ false = false_from_ne_true (on_path past u node) (λ t.
    let q = leaf_path s past legal m node low p.asked.holds.leaf (ap (λ x. on_path past x node) (sym z) ∙ t) in
    not_true (eqb node m) whole (eq-eqb node m q)) in
    or_from (on_path past u node && eqb (subject lines) i) (split past u i) (ap (λ b. b && eqb (subject lines) i) off) (ap (λ x. split past x i) z ∙ old h)
unsplit_step s past legal w _ m i o p low whole old h = old h

-- what is chosen at a leaf was not split on its path
chosen_unsplit : (s : Setting) (past : List Entry) → IsLegalJournal s past → (m i : ℕ) → is_leaf past m ≡ true → chosen past m ≡ Some i → split past m i ≡ false
chosen_unsplit s [] legal m i leaf h = refl
chosen_unsplit s (e ∷ past) legal m i leaf h =
    let parts = and_parts (not (splits_node e.event m)) (is_leaf past m) leaf in
    elim (cases_lt m (nodes past)) [
      | inl low ↦ unsplit_step s past legal.1 e.by e.event m i (chosen past m) legal.0.asked low parts.0 (λ o. chosen_unsplit s past legal.1 m i parts.1 o) h
      | inr high ↦
          let none = chosen_none s past legal.1 e.by e.event m legal.0.asked high in
          let bad : None ≡ Some i = sym none ∙ h in
          absurd (cc)
    ]
  where
    chosen_none : (s : Setting) (past : List Entry) → IsLegalJournal s past → (w : ℕ) (ev : Event) (m : ℕ) → IsAsked s past w ev → nodes past ≤ m → chosen_by ev m (chosen past m) ≡ None
    chosen_none s past legal w (Choose node clause selected) m p high = cond-false (eqb node m) (Some clause) (chosen past m) (ne_eqb node m (λ q. let low = claimed_within s past legal w node p.holds.claims in omega arith)) ∙ fresh_chosen s past legal m high
    chosen_none s past legal w (Activate node) m p high = cond-false (eqb node m) None (chosen past m) (ne_eqb node m (λ q. let low = claimed_within s past legal w node p.holds.claims in omega arith)) ∙ fresh_chosen s past legal m high
    chosen_none s past legal w _ m p high = fresh_chosen s past legal m high

new_apart : (s : Setting) (past : List Entry) → IsLegalJournal s past → (w : ℕ) (ev : Event) (m : ℕ) (b : Branch) (a : Assumption) → IsAsked s past w ev → nodes past ≤ m → m < nodes past + nodes_of ev → branch_by ev (nodes past) m (branch past m) ≡ Some b
    → IsAssumedAt (record { by = w; event = ev } ∷ past) b.parent a → a.split ≡ b.assumed.split → ⊥
new_apart s past legal w (Split node lines put_off) m b a p high there h above q =
    let e : Entry = record { by = w; event = Split node lines put_off } in
    let low = split_there s past legal w node lines put_off p in
    let off = chosen_unsplit s past legal node p.asked.clause p.asked.holds.leaf p.asked.chosen in
    let is = subject_is s past w node lines put_off p.asked in
    let bad = λ (x : b.parent ≡ node) (y : b.assumed.split ≡ subject lines).
    let at = assumed_before s past legal e node a low (subst (λ n. IsAssumedAt (e ∷ past) n a) x above) in
    let on = split_above s past legal node at.node at.up low at.on at.hangs in
    let z : at.up.assumed.split ≡ p.asked.clause = ap (λ t. t.split) at.is ∙ (q ∙ (y ∙ is)) in
    false≢true (sym off ∙ (ap (split past node) (sym z) ∙ on)) in
    elim (new_branch node (subject lines) (nodes past) m (branch past m) b high there h) [
      | inl r ↦ bad (ap (λ x. x.parent) r.1) (ap (λ x. x.assumed.split) r.1)
      | inr r ↦ bad (ap (λ x. x.parent) r.1) (ap (λ x. x.assumed.split) r.1)
    ]
new_apart s past legal w _ m b a p high there h above q = absurd (omega arith)

-- no node above another assumes a side of the split that made that one
pub assumed_apart : (s : Setting) (past : List Entry) → IsLegalJournal s past → (m : ℕ) (b : Branch) (a : Assumption) → m < nodes past → branch past m ≡ Some b → IsAssumedAt past b.parent a → a.split ≡ b.assumed.split → ⊥
assumed_apart s [] legal m b a there h above q = cc
assumed_apart s (e ∷ past) legal m b a there h above q = elim (cases_lt m (nodes past)) [
  | inl low ↦
      let g = sym (branch_old e.event (nodes past) m (branch past m) low) ∙ h in
      let b_there = parent_there s past legal.1 m b low g in
      assumed_apart s past legal.1 m b a low g (assumed_before s past legal.1 e b.parent a b_there above) q
  | inr high ↦ new_apart s past legal.1 e.by e.event m b a legal.0.asked high there h above q
]
  where
    parent_there : (s : Setting) (past : List Entry) → IsLegalJournal s past → (m : ℕ) (b : Branch) → m < nodes past → branch past m ≡ Some b → b.parent < nodes past
    parent_there s past legal m b there h = (split_listed s past legal m b there h).0

-- ---- dead nodes

-- a node between m and its parent's path
above_parent : (s : Setting) (past : List Entry) → IsLegalJournal s past → (m n : ℕ) (b : Branch) → 0 < m → m < nodes past → branch past m ≡ Some b → on_path past m n ≡ true → (n ≡ m → ⊥) → on_path past b.parent n ≡ true
above_parent s past legal m n b some there h on other =
    let r = climbs s past legal m some there in
    let same : Some r.up ≡ Some b = sym r.hangs ∙ h in
    let q : r.up ≡ b = cc in
    elim (or_cases (eqb n m) (on_path past r.up.parent n) (sym (r.goes n) ∙ on)) [
      | inl here ↦ absurd (other (eqb-true n m here))
      | inr up ↦ ap (λ x. on_path past x.parent n) (sym q) ∙ up
    ]

pub dead_closed : (s : Setting) (past : List Entry) → IsLegalJournal s past → (m : ℕ) → m < nodes past → IsDead s past m → IsClosed s past m
dead_closed s past legal m there dead =
    let i = dead.0 in
    let d = dead.1 in
    let r = listed_stands s past m i d.lists in
    let n = r.node in
    let closes : IsEmptyOf s past n i = record { stands = r.stands; line = d.line; found = d.found; empty = d.empty } in
    let each = λ (a : Assumption) (has : contains_assumption d.line.stated.deps a ≡ true). deps_assumed s past legal n i d.line a r.stands d.found has in
    record {
      node = n;
      on = r.on;
      number = i;
      closes = closes;
      assumed = each;
      apart = λ gone b h side. false_from_ne_true (contains_assumption d.line.stated.deps (side_of b.assumed.split side)) (λ has.
          let other : n ≡ m → ⊥ = λ q. gone.bare i (subst (λ x. IsEmptyOf s past x i) q closes) in
          let up = above_parent s past legal m n b gone.other there h r.on other in
          let low = (split_listed s past legal m b there h).0 in
          assumed_apart s past legal m b (side_of b.assumed.split side) there h (assumed_below s past legal b.parent n (side_of b.assumed.split side) low up (each (side_of b.assumed.split side) has)) refl);
    }
