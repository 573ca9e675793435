-- Laws that carry proofs, and no definitions that a reader must believe: which nodes an empty clause makes dead, and on which assumption it depends.
use Rattle.std.proofs.Common.{◌≡◌, ℕ, zero, suc, ◌+◌, ◌-◌, ◌<◌, ◌≤◌, ◌⊎◌, inl, inr, Bool, true, false, cond, ◌&&◌, ◌||◌, eqb, ltb, leb, List, [], ◌∷◌, ◌++◌, length, Some, refl, sym, ◌∙◌, ap, arith, eq-eqb}
use Rattle.std.proofs.lemmas.Bool.{or_cases, or_left, or_right, and_parts, and_from, eqb-true, ltb-true, lt-ltb, cases_Bool, cases_lt, cond-true, cond-false, false≢true}
use Rattle.spl_terms.specs.Clauses.{is_empty}
use Rattle.dep_sets.specs.declared.deps.Assumption.{Assumption}
use Rattle.dep_sets.specs.Assumptions.{contains_assumption, is_same_assumption}
use Rattle.proof_steps.specs.declared.step.Line.{Line}
use Rattle.proof_steps.specs.Steps.{numbered, side_of}
use Rattle.case_journal.specs.declared.branch.Branch.{Branch}
use Rattle.case_journal.specs.declared.event.Entry.{Entry}
use Rattle.case_journal.specs.declared.event.Event.{Event}
use Rattle.case_journal.specs.declared.event.Event.TheVariants.{Publish, Split}
use Rattle.case_journal.specs.Journal.{Setting, nodes, nodes_of, ledger, steps, lines_of}
use Rattle.case_journal.specs.Paths.{stem, on_path, branch, branch_by, branch_to, owner, owner_by, subject}
use Rattle.case_journal.specs.Facts.{lists, listed, IsEmptyAt, IsDead, IsLive}
use Rattle.case_journal.specs.Legal.{IsAsked, IsLegalJournal, IsChild, IsPublishable, IsSplittable}
use Rattle.case_journal.specs.Closing.{published}
use Rattle.case_journal.specs.PlaceLaws.{stem_there, claimed_within}
use Rattle.case_journal.specs.PathLaws.{on_path-self, on_path_within, on_path_grow, stem_old}
use Rattle.case_journal.specs.BranchLaws.{branch_old, branch_root, climbs}
use Rattle.case_journal.specs.ListedLaws.{listed_within}
use Rattle.case_journal.specs.LedgerLaws.{numbered_more}
use Rattle.case_journal.specs.PickLaws.{subject_is}
use Rattle.case_journal.specs.StandingLaws.{on_path_trans, on_path_before, owner_root, owner_climbs, new_branch, listed_stands, split_here, published_within}
use Rattle.dep_sets.specs.OrderLaws.{same_self}
use Rattle.case_journal.specs.DependenceLaws.{listed_after, child_some, chain_line, side_deps, numbered_old, numbered_new}

-- ---- what stands on a path is listed

stands_new : (s : Setting) (past : List Entry) → IsLegalJournal s past → (w : ℕ) (ev : Event) → IsAsked s past w ev → (m k i : ℕ) → m < nodes past + nodes_of ev → on_path (record { by = w; event = ev } ∷ past) m k ≡ true
    → lists ev (nodes past) (steps s past) (λ j. eqb j k) k i ≡ true → lists ev (nodes past) (steps s past) (on_path past m) m i ≡ true
stands_new s past legal w (Publish node chain put_off) p m k i there on h =
    let size = steps s past in
    let parts = and_parts (eqb node k) (ltb size i && eqb i (size + length chain)) h in
    let q = eqb-true node k parts.0 in
    let at : on_path past m k ≡ true = on_path_before past (record { by = w; event = Publish node chain put_off }) m k (omega arith) on in
    and_from (on_path past m node) (ltb size i && eqb i (size + length chain)) (ap (on_path past m) q ∙ at) parts.1
stands_new s past legal w (Split node lines put_off) p m k i there on h =
    let e : Entry = record { by = w; event = Split node lines put_off } in
    let u = stem (Split node lines put_off) (nodes past) m in
    let same : k ≡ m = elim (or_cases (eqb k m) (on_path past u k) on) [
      | inl here ↦ eqb-true k m here
      | inr up ↦
          let low = on_path_within s past legal u k (stem_there s past legal w (Split node lines put_off) m p there) up in
          absurd (elim (split_here k (nodes past) i (steps s past) (length lines) h) [ inl q ↦ (let a = q.0 in omega arith) | inr q ↦ (let a = q.0 in omega arith) ])
    ] in
    ap (λ x. (eqb x (nodes past) && eqb i (steps s past + 1)) || (eqb x (nodes past + 1) && (leb (steps s past + 2) i && leb i (steps s past + length lines)))) (sym same) ∙ h
stands_new s past legal w _ p m k i there on h = absurd (false≢true h)

pub stands_listed : (s : Setting) (past : List Entry) → IsLegalJournal s past → (m k i : ℕ) → m < nodes past → on_path past m k ≡ true → published s past k i ≡ true → listed s past m i ≡ true
stands_listed s [] legal m k i there on h = let q = eqb-true k m on in ap (λ x. listed s [] x i) (sym q) ∙ h
stands_listed s (e ∷ past) legal m k i there on h =
    let u = stem e.event (nodes past) m in
    let new = lists e.event (nodes past) (steps s past) (on_path past m) m i in
    elim (or_cases (lists e.event (nodes past) (steps s past) (λ j. eqb j k) k i) (published s past k i) h) [
      | inl now ↦ or_left new (listed s past u i) (stands_new s past legal.1 e.by e.event legal.0.asked m k i there on now)
      | inr old ↦
          let low = (published_within s past legal.1 k i old).2 in
          or_right new (listed s past u i) (stands_listed s past legal.1 u k i (stem_there s past legal.1 e.by e.event m legal.0.asked there) (sym (on_path_grow past e m k low) ∙ on) old)
    ]

-- what is listed at a node is listed below it
pub listed_below : (s : Setting) (past : List Entry) → IsLegalJournal s past → (m n i : ℕ) → m < nodes past → on_path past m n ≡ true → listed s past n i ≡ true → listed s past m i ≡ true
listed_below s past legal m n i there on h =
    let r = listed_stands s past n i h in
    stands_listed s past legal m r.node i there (on_path_trans s past legal m n r.node there on r.on) r.stands

pub empty_below : (s : Setting) (past : List Entry) → IsLegalJournal s past → (m n i : ℕ) → m < nodes past → on_path past m n ≡ true → IsEmptyAt s past n i → IsEmptyAt s past m i
empty_below s past legal m n i there on h = record { lists = listed_below s past legal m n i there on h.lists; line = h.line; found = h.found; empty = h.empty }

-- below a dead node all are dead
pub dead_below : (s : Setting) (past : List Entry) → IsLegalJournal s past → (m n : ℕ) → m < nodes past → on_path past m n ≡ true → IsDead s past n → IsDead s past m
dead_below s past legal m n there on dead = (dead.0, empty_below s past legal m n dead.0 there on dead.1)

-- ---- owners

owner_either : (ev : Event) (count m above : ℕ) (deps : List Assumption) → (owner_by ev count deps m above ≡ m) ⊎ (owner_by ev count deps m above ≡ above)
owner_either (Split node lines put_off) count m above deps = go ((eqb m count && contains_assumption deps (side_of (subject lines) 1)) || (eqb m (count + 1) && contains_assumption deps (side_of (subject lines) 2)))
  where
    go : (b : Bool) → (cond b m above ≡ m) ⊎ (cond b m above ≡ above)
    go true = inl refl
    go false = inr refl
owner_either _ count m above deps = inr refl

pub owner_on : (s : Setting) (past : List Entry) → IsLegalJournal s past → (deps : List Assumption) (m : ℕ) → m < nodes past → on_path past m (owner past deps m) ≡ true
owner_on s [] legal deps m there = eq-eqb 0 m (omega arith)
owner_on s (e ∷ past) legal deps m there =
    let u = stem e.event (nodes past) m in
    let above = owner past deps u in
    elim (owner_either e.event (nodes past) m above deps) [
      | inl own ↦ ap (on_path (e ∷ past) m) own ∙ on_path-self (e ∷ past) m
      | inr up ↦ ap (on_path (e ∷ past) m) up ∙ or_right (eqb above m) (on_path past u above) (owner_on s past legal.1 deps u (stem_there s past legal.1 e.by e.event m legal.0.asked there))
    ]

-- a path goes down in number
pub on_path_le : (s : Setting) (past : List Entry) → IsLegalJournal s past → (m n : ℕ) → m < nodes past → on_path past m n ≡ true → n ≤ m
on_path_le s [] legal m n there h = let q = eqb-true n m h in omega arith
on_path_le s (e ∷ past) legal m n there h =
    let u = stem e.event (nodes past) m in
    let low = stem_there s past legal.1 e.by e.event m legal.0.asked there in
    elim (or_cases (eqb n m) (on_path past u n) h) [
      | inl same ↦ let q = eqb-true n m same in omega arith
      | inr up ↦
          let r = on_path_le s past legal.1 u n low up in
          elim (cases_lt m (nodes past)) [ inl old ↦ (let z = stem_old e.event (nodes past) m old in omega arith) | inr new ↦ omega arith ]
    ]

-- the assumption of the owner is one of these
owner_has : (s : Setting) (past : List Entry) → IsLegalJournal s past → (deps : List Assumption) (fuel m : ℕ) (b : Branch) → m < nodes past → m ≤ fuel → branch past (owner past deps m) ≡ Some b → contains_assumption deps b.assumed ≡ true
owner_has s past legal deps fuel zero b there few h = let bad = sym (ap (branch past) (owner_root past deps) ∙ branch_root past) ∙ h in absurd (cc)
owner_has s past legal deps zero (suc n) b there few h = absurd (omega arith)
owner_has s past legal deps (suc fuel) (suc n) b there few h =
    let r = climbs s past legal (suc n) (omega arith) there in
    let up = owner_climbs s past legal deps (suc n) r.up there r.hangs in
    let test = contains_assumption deps r.up.assumed in
    let above = owner past deps r.up.parent in
    let low = r.below in
    elim (cases_Bool test) [
      | inl own ↦
          let at = up ∙ cond-true test (suc n) above own in
          let same : Some r.up ≡ Some b = sym r.hangs ∙ (ap (branch past) (sym at) ∙ h) in
          let q : r.up ≡ b = cc in
          ap (λ x. contains_assumption deps x.assumed) (sym q) ∙ own
      | inr none ↦
          let at = up ∙ cond-false test (suc n) above none in
          owner_has s past legal deps fuel r.up.parent b (omega arith) (omega arith) (ap (branch past) (sym at) ∙ h)
    ]

-- ---- what was published at a node depends on the node's assumption

one_has : (deps : List Assumption) (a : Assumption) → deps ≡ a ∷ [] → contains_assumption deps a ≡ true
one_has deps a e = ap (λ d. contains_assumption d a) e ∙ or_left (is_same_assumption a a) false (same_self a)

split_own : (s : Setting) (past : List Entry) (w node : ℕ) (lines : List Line) (put_off : List Bool) → IsSplittable s past w node lines put_off → (n i : ℕ) (l : Line) (b : Branch)
    → lists (Split node lines put_off) (nodes past) (steps s past) (λ k. eqb k n) n i ≡ true → numbered (ledger s past ++ lines) i ≡ Some l → n < nodes past + 2 → branch_by (Split node lines put_off) (nodes past) n (branch past n) ≡ Some b
    → contains_assumption l.stated.deps b.assumed ≡ true
split_own s past w node lines put_off p n i l b h found there hangs =
    let count = nodes past in
    let about = subject_is s past w node lines put_off p in
    elim (split_here n count i (steps s past) (length lines) h) [
      | inl q ↦
          let z = q.1 in
          let y = q.0 in
          let at = sym (numbered_new (ledger s past) lines i 0 (omega arith)) ∙ found in
          let d = one_has l.stated.deps (side_of p.clause 1) (side_deps s past w node lines put_off p 0 l at) in
          elim (new_branch node (subject lines) count n (branch past n) b (omega arith) there hangs) [
            | inl r ↦ ap (λ x. contains_assumption l.stated.deps x.assumed) r.1 ∙ (ap (λ c. contains_assumption l.stated.deps (side_of c 1)) about ∙ d)
            | inr r ↦ (let bad = r.0 in absurd (omega arith))
          ]
      | inr q ↦
          let z = q.1 in
          let y = q.0 in
          let k = i - (steps s past + 2) in
          let at = sym (numbered_new (ledger s past) lines i (suc k) (omega arith)) ∙ found in
          let d = one_has l.stated.deps (side_of p.clause 2) (side_deps s past w node lines put_off p (suc k) l at) in
          elim (new_branch node (subject lines) count n (branch past n) b (omega arith) there hangs) [
            | inl r ↦ (let bad = r.0 in absurd (omega arith))
            | inr r ↦ ap (λ x. contains_assumption l.stated.deps x.assumed) r.1 ∙ (ap (λ c. contains_assumption l.stated.deps (side_of c 2)) about ∙ d)
          ]
    ]

publish_own : (s : Setting) (past : List Entry) → IsLegalJournal s past → (w node : ℕ) (chain : List Line) (put_off : Bool) → IsPublishable s past w node chain put_off → (i : ℕ) (l : Line) (b : Branch) → i ≡ steps s past + length chain
    → numbered (ledger s past ++ chain) i ≡ Some l → branch past node ≡ Some b → contains_assumption l.stated.deps b.assumed ≡ true
publish_own s past legal w node chain put_off p i l b at found hangs =
    let q = chain_line s past w node chain put_off p i l at found in
    ap (λ x. contains_assumption x.stated.deps b.assumed) (sym q)
    ∙ elim p.cause [
      | inl f ↦ (let there = claimed_within s past legal w f.leaf f.holds.claims in owner_has s past legal p.line.stated.deps f.leaf f.leaf b there (omega arith) (ap (branch past) (sym f.owner) ∙ hangs))
      | inr f ↦ owner_has s past legal p.line.stated.deps f.inner f.inner b f.there (omega arith) (ap (branch past) (sym f.owner) ∙ hangs)
    ]

new_own : (s : Setting) (past : List Entry) → IsLegalJournal s past → (w : ℕ) (ev : Event) → IsAsked s past w ev → (n i : ℕ) (l : Line) (b : Branch)
    → lists ev (nodes past) (steps s past) (λ k. eqb k n) n i ≡ true → n < nodes past + nodes_of ev → numbered (ledger s past ++ lines_of ev) i ≡ Some l → branch_by ev (nodes past) n (branch past n) ≡ Some b → contains_assumption l.stated.deps b.assumed ≡ true
new_own s past legal w (Publish node chain put_off) p n i l b h there found hangs =
    let parts = and_parts (eqb node n) _ h in
    let q = eqb-true node n parts.0 in
    let at = eqb-true i (steps s past + length chain) (and_parts _ (eqb i (steps s past + length chain)) parts.1).1 in
    publish_own s past legal w node chain put_off p.asked i l b at found (ap (branch past) q ∙ hangs)
new_own s past legal w (Split node lines put_off) p n i l b h there found hangs = split_own s past w node lines put_off p.asked n i l b h found there hangs
new_own s past legal w _ p n i l b h there found hangs = absurd (false≢true h)

pub own_assumption : (s : Setting) (past : List Entry) → IsLegalJournal s past → (n i : ℕ) (l : Line) (b : Branch) → published s past n i ≡ true → numbered (ledger s past) i ≡ Some l → branch past n ≡ Some b → contains_assumption l.stated.deps b.assumed ≡ true
own_assumption s [] legal n i l b h found hangs = cc
own_assumption s (e ∷ past) legal n i l b h found hangs =
    let there = (published_within s (e ∷ past) legal n i h).2 in
    elim (or_cases (lists e.event (nodes past) (steps s past) (λ k. eqb k n) n i) (published s past n i) h) [
      | inl new ↦ new_own s past legal.1 e.by e.event legal.0.asked n i l b new there found hangs
      | inr old ↦
          let w = published_within s past legal.1 n i old in
          own_assumption s past legal.1 n i l b old (sym (numbered_old (ledger s past) (lines_of e.event) i w.0 w.1) ∙ found) (sym (branch_old e.event (nodes past) n (branch past n) w.2) ∙ hangs)
    ]

-- an empty clause that is listed at the child of a live node depends on the child's assumption
pub child_depends : (s : Setting) (past : List Entry) → IsLegalJournal s past → (m clause side child i : ℕ) → IsChild past m clause side child → IsLive s past m → (d : IsEmptyAt s past child i) → contains_assumption d.line.stated.deps (side_of clause side) ≡ true
child_depends s past legal m clause side child i c live d =
    let r = listed_stands s past child i d.lists in
    let k = climbs s past legal child (child_some past m clause side child c) c.there in
    let same : Some k.up ≡ Some (branch_to m clause side) = sym k.hangs ∙ c.hangs in
    let q : k.up ≡ branch_to m clause side = cc in
    let low = k.below in
    let m_there : m < nodes past = (let t = c.there in omega (arith, ap (λ x. x.parent) q)) in
    elim (or_cases (eqb r.node child) (on_path past k.up.parent r.node) (sym (k.goes r.node) ∙ r.on)) [
      | inl here ↦
          let z = eqb-true r.node child here in
          own_assumption s past legal child i d.line (branch_to m clause side) (ap (λ x. published s past x i) (sym z) ∙ r.stands) d.found c.hangs
      | inr up ↦
          let on = ap (λ x. on_path past x.parent r.node) (sym q) ∙ up in
          absurd (live (i, record { lists = stands_listed s past legal m r.node i m_there on r.stands; line = d.line; found = d.found; empty = d.empty }))
    ]

-- ---- one empty clause more

-- the journal with one line that is published
abbrev pub with_line : ℕ → ℕ → Line → List Entry → List Entry
with_line w n l past = record { by = w; event = Publish n (l ∷ []) false } ∷ past

pub dead_after : (s : Setting) (past : List Entry) (e : Entry) (m : ℕ) → m < nodes past → IsDead s past m → IsDead s (e ∷ past) m
dead_after s past e m low dead =
    let d = dead.1 in
    (dead.0, record { lists = listed_after s past e m dead.0 low d.lists; line = d.line; found = numbered_more (ledger s past) (lines_of e.event) dead.0 d.line d.found; empty = d.empty })

pub new_empty : (s : Setting) (past : List Entry) (w n : ℕ) (l : Line) (m : ℕ) → is_empty l.stated.clause ≡ true → on_path past m n ≡ true → IsEmptyAt s (with_line w n l past) m (steps s past + 1)
new_empty s past w n l m empty on =
    let size = steps s past in
    record {
      lists = or_left (on_path past m n && (ltb size (size + 1) && eqb (size + 1) (size + 1))) (listed s past m (size + 1))
          (and_from (on_path past m n) (ltb size (size + 1) && eqb (size + 1) (size + 1)) on (and_from (ltb size (size + 1)) (eqb (size + 1) (size + 1)) (lt-ltb size (size + 1) (omega arith)) (eq-eqb (size + 1) (size + 1) refl)));
      line = l;
      found = numbered_new (ledger s past) (l ∷ []) (size + 1) 0 (omega arith);
      empty = empty;
    }

-- an empty clause that was there before
pub empty_before : (s : Setting) (past : List Entry) → IsLegalJournal s past → (w n : ℕ) (l : Line) (m i : ℕ) → i ≤ steps s past → IsEmptyAt s (with_line w n l past) m i → IsEmptyAt s past m i
empty_before s past legal w n l m i low d =
    let size = steps s past in
    elim (or_cases (on_path past m n && (ltb size i && eqb i (size + 1))) (listed s past m i) d.lists) [
      | inl new ↦
          let p = and_parts (ltb size i) (eqb i (size + 1)) (and_parts (on_path past m n) (ltb size i && eqb i (size + 1)) new).1 in
          let q = ltb-true size i p.0 in
          absurd (omega arith)
      | inr old ↦
          let r = listed_within s past legal m i old in
          record { lists = old; line = d.line; found = sym (numbered_old (ledger s past) (l ∷ []) i r.0 r.1) ∙ d.found; empty = d.empty }
    ]

pub listed_apart : (s : Setting) (past : List Entry) (w n : ℕ) (l : Line) (m i : ℕ) → on_path past m n ≡ false → listed s (with_line w n l past) m i ≡ listed s past m i
listed_apart s past w n l m i off = ap (λ b. (b && (ltb (steps s past) i && eqb i (steps s past + 1))) || listed s past m i) off

pub dead_before : (s : Setting) (past : List Entry) → IsLegalJournal s past → (w n : ℕ) (l : Line) (m : ℕ) → on_path past m n ≡ false → IsDead s (with_line w n l past) m → IsDead s past m
dead_before s past legal w n l m off dead =
    let d = dead.1 in
    let old = sym (listed_apart s past w n l m dead.0 off) ∙ d.lists in
    let r = listed_within s past legal m dead.0 old in
    (dead.0, record { lists = old; line = d.line; found = sym (numbered_old (ledger s past) (l ∷ []) dead.0 r.0 r.1) ∙ d.found; empty = d.empty })
