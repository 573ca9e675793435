-- Laws that carry proofs, and no definitions that a reader must believe: where clauses stand, and that each depends on assumptions of the path alone.
use Rattle.std.proofs.Common.{◌≡◌, ℕ, zero, suc, ◌+◌, ◌<◌, ◌≤◌, ◌⊎◌, inl, inr, Bool, true, false, cond, ◌&&◌, ◌||◌, eqb, ltb, leb, List, [], ◌∷◌, length, Option, Some, refl, sym, ◌∙◌, ap, subst, arith, eq-eqb}
use Rattle.std.proofs.lemmas.Bool.{or_cases, or_left, or_right, and_parts, and_from, eqb-true, leb-true, cases_Bool, cases_lt, cond-true, cond-false, false≢true, ne_eqb}
use Rattle.dep_sets.specs.declared.deps.Assumption.{Assumption}
use Rattle.dep_sets.specs.Assumptions.{contains_assumption}
use Rattle.proof_steps.specs.Steps.{side_of}
use Rattle.case_journal.specs.declared.branch.Branch.{Branch}
use Rattle.case_journal.specs.declared.event.Entry.{Entry}
use Rattle.case_journal.specs.declared.event.Event.{Event}
use Rattle.case_journal.specs.declared.event.Event.TheVariants.{Publish, Split}
use Rattle.case_journal.specs.Journal.{Setting, nodes, nodes_of, steps}
use Rattle.case_journal.specs.Paths.{stem, on_path, branch, branch_by, branch_to, owner, owner_by, subject}
use Rattle.case_journal.specs.Facts.{lists, listed}
use Rattle.case_journal.specs.Legal.{IsAsked, IsLegalJournal}
use Rattle.case_journal.specs.Closing.{published, IsAssumedAt}
use Rattle.case_journal.specs.PlaceLaws.{steps_more, lists_new, stem_there, publish_there, owner_within, in_input, split_there}
use Rattle.case_journal.specs.PathLaws.{on_path-self, on_path_within, stem_old, stem_high, nodes_some}
use Rattle.case_journal.specs.BranchLaws.{branch_old, branch_root, climbs}
use Rattle.case_journal.specs.ListLaws.{length-input_lines}

-- ---- paths

-- a path goes on above each of its nodes
pub on_path_trans : (s : Setting) (past : List Entry) → IsLegalJournal s past → (m n k : ℕ) → m < nodes past → on_path past m n ≡ true → on_path past n k ≡ true → on_path past m k ≡ true
on_path_trans s [] legal m n k there h g = let q = eqb-true n m h in let r = eqb-true k n g in eq-eqb k m (r ∙ q)
on_path_trans s (e ∷ past) legal m n k there h g =
    let u = stem e.event (nodes past) m in
    let u_there = stem_there s past legal.1 e.by e.event m legal.0.asked there in
    elim (or_cases (eqb n m) (on_path past u n) h) [
      | inl same ↦ let q = eqb-true n m same in subst (λ x. on_path (e ∷ past) x k ≡ true) q g
      | inr up ↦
          let low = on_path_within s past legal.1 u n u_there up in
          or_right (eqb k m) (on_path past u k)
          (elim (or_cases (eqb k n) (on_path past (stem e.event (nodes past) n) k) g) [
            | inl here ↦ let q = eqb-true k n here in ap (on_path past u) q ∙ up
            | inr more ↦ on_path_trans s past legal.1 u n k u_there up (ap (λ x. on_path past x k) (sym (stem_old e.event (nodes past) n low)) ∙ more)
          ])
    ]

-- the path of a node that was there, before the event
pub on_path_before : (past : List Entry) (e : Entry) (m k : ℕ) → m < nodes past → on_path (e ∷ past) m k ≡ true → on_path past m k ≡ true
on_path_before past e m k low h = elim (or_cases (eqb k m) (on_path past (stem e.event (nodes past) m) k) h) [
  | inl same ↦ let q = eqb-true k m same in ap (on_path past m) q ∙ on_path-self past m
  | inr up ↦ ap (λ x. on_path past x k) (sym (stem_old e.event (nodes past) m low)) ∙ up
]

pub on_path_after : (past : List Entry) (e : Entry) (m k : ℕ) → m < nodes past → on_path past m k ≡ true → on_path (e ∷ past) m k ≡ true
on_path_after past e m k low h = or_right (eqb k m) (on_path past (stem e.event (nodes past) m) k) (ap (λ x. on_path past x k) (stem_old e.event (nodes past) m low) ∙ h)

-- ---- assumptions on a path

pub assumed_after : (s : Setting) (past : List Entry) → IsLegalJournal s past → (e : Entry) (n : ℕ) (a : Assumption) → n < nodes past → IsAssumedAt past n a → IsAssumedAt (e ∷ past) n a
assumed_after s past legal e n a low h =
    let k = h.node in
    let there = on_path_within s past legal n k low h.on in
    record { node = k; on = on_path_after past e n k low h.on; up = h.up; hangs = branch_old e.event (nodes past) k (branch past k) there ∙ h.hangs; is = h.is }

pub assumed_before : (s : Setting) (past : List Entry) → IsLegalJournal s past → (e : Entry) (n : ℕ) (a : Assumption) → n < nodes past → IsAssumedAt (e ∷ past) n a → IsAssumedAt past n a
assumed_before s past legal e n a low h =
    let k = h.node in
    let on = on_path_before past e n k low h.on in
    let there = on_path_within s past legal n k low on in
    record { node = k; on = on; up = h.up; hangs = sym (branch_old e.event (nodes past) k (branch past k) there) ∙ h.hangs; is = h.is }

pub assumed_below : (s : Setting) (past : List Entry) → IsLegalJournal s past → (m n : ℕ) (a : Assumption) → m < nodes past → on_path past m n ≡ true → IsAssumedAt past n a → IsAssumedAt past m a
assumed_below s past legal m n a there on h = record { node = h.node; on = on_path_trans s past legal m n h.node there on h.on; up = h.up; hangs = h.hangs; is = h.is }

-- ---- the owner

-- a parent is before its children
pub parent_below : (s : Setting) (past : List Entry) → IsLegalJournal s past → (m : ℕ) (b : Branch) → m < nodes past → branch past m ≡ Some b → b.parent < m
parent_below s past legal zero b there h = let bad = sym (branch_root past) ∙ h in absurd (cc)
parent_below s past legal (suc n) b there h =
    let r = climbs s past legal (suc n) (omega arith) there in
    let same : Some r.up ≡ Some b = sym r.hangs ∙ h in
    let q : r.up ≡ b = cc in
    let low = r.below in
    omega (arith, ap (λ x. x.parent) q)

owner_old : (ev : Event) (count m above : ℕ) (deps : List Assumption) → m < count → owner_by ev count deps m above ≡ above
owner_old (Split node lines put_off) count m above deps low =
    let one = contains_assumption deps (side_of (subject lines) 1) in
    let two = contains_assumption deps (side_of (subject lines) 2) in
    let x = ne_eqb m count (λ q. omega arith) in
    let y = ne_eqb m (count + 1) (λ q. omega arith) in
    ap (λ b. cond ((b && one) || (eqb m (count + 1) && two)) m above) x ∙ ap (λ b. cond (b && two) m above) y
owner_old _ count m above deps low = refl

pub new_branch : (node split count m : ℕ) (o : Option Branch) (up : Branch) → count ≤ m → m < count + 2 → cond (eqb m count) (Some (branch_to node split 1)) (cond (eqb m (count + 1)) (Some (branch_to node split 2)) o) ≡ Some up
    → ((m ≡ count) × (up ≡ branch_to node split 1)) ⊎ ((m ≡ count + 1) × (up ≡ branch_to node split 2))
new_branch node split count m o up high there h =
    let one = Some (branch_to node split 1) in
    let two = Some (branch_to node split 2) in
    elim (cases_lt m (count + 1)) [
      | inl low ↦
          let at : m ≡ count = omega arith in
          let e = sym (cond-true (eqb m count) one (cond (eqb m (count + 1)) two o) (eq-eqb m count at)) ∙ h in
          inl (at, cc)
      | inr more ↦
          let at : m ≡ count + 1 = omega arith in
          let e = sym (cond-false (eqb m count) one (cond (eqb m (count + 1)) two o) (ne_eqb m count (λ r. omega arith)) ∙ cond-true (eqb m (count + 1)) two o (eq-eqb m (count + 1) at)) ∙ h in
          inr (at, cc)
    ]

-- the owner's test at a new node
owner_test : (split count m : ℕ) (deps : List Assumption) (a : Assumption) (side : ℕ) → ((m ≡ count) × (side ≡ 1)) ⊎ ((m ≡ count + 1) × (side ≡ 2)) → side_of split side ≡ a → contains_assumption deps a ≡ true
    → ((eqb m count && contains_assumption deps (side_of split 1)) || (eqb m (count + 1) && contains_assumption deps (side_of split 2))) ≡ true
owner_test split count m deps a side (inl p) q h =
    or_left (eqb m count && contains_assumption deps (side_of split 1)) (eqb m (count + 1) && contains_assumption deps (side_of split 2))
    (and_from (eqb m count) (contains_assumption deps (side_of split 1)) (eq-eqb m count p.0) (ap (λ n. contains_assumption deps (side_of split n)) (sym p.1) ∙ (ap (contains_assumption deps) q ∙ h)))
owner_test split count m deps a side (inr p) q h =
    or_right (eqb m count && contains_assumption deps (side_of split 1)) (eqb m (count + 1) && contains_assumption deps (side_of split 2))
    (and_from (eqb m (count + 1)) (contains_assumption deps (side_of split 2)) (eq-eqb m (count + 1) p.0) (ap (λ n. contains_assumption deps (side_of split n)) (sym p.1) ∙ (ap (contains_assumption deps) q ∙ h)))

-- a new node: it is the owner, or what is assumed on its path is so at the node that was split
owner_new : (s : Setting) (past : List Entry) → IsLegalJournal s past → (w : ℕ) (ev : Event) → IsAsked s past w ev → (deps : List Assumption) (m : ℕ) (a : Assumption) → nodes past ≤ m → m < nodes past + nodes_of ev
    → contains_assumption deps a ≡ true → IsAssumedAt (record { by = w; event = ev } ∷ past) m a
    → (owner (record { by = w; event = ev } ∷ past) deps m ≡ m) ⊎ ((owner (record { by = w; event = ev } ∷ past) deps m ≡ owner past deps (stem ev (nodes past) m)) × IsAssumedAt past (stem ev (nodes past) m) a)
owner_new s past legal w (Split node lines put_off) asked deps m a high there has h =
    let count = nodes past in
    let u = stem (Split node lines put_off) count m in
    let split = subject lines in
    let test = (eqb m count && contains_assumption deps (side_of split 1)) || (eqb m (count + 1) && contains_assumption deps (side_of split 2)) in
    let above = owner past deps u in
    elim (cases_Bool test) [
      | inl own ↦ inl (cond-true test m above own)
      | inr up ↦ inr (
        cond-false test m above up,
        (let k = h.node in
            elim (or_cases (eqb k m) (on_path past u k) h.on) [
              | inl same ↦
                  let q = eqb-true k m same in
                  let at = ap (branch (record { by = w; event = Split node lines put_off } ∷ past)) (sym q) ∙ h.hangs in
                  absurd (elim (new_branch node split count m (branch past m) h.up high there at) [
                    | inl p ↦ let t = owner_test split count m deps a 1 (inl (p.0, refl)) (ap (λ b. b.assumed) (sym p.1) ∙ h.is) has in false≢true (sym up ∙ t)
                    | inr p ↦ let t = owner_test split count m deps a 2 (inr (p.0, refl)) (ap (λ b. b.assumed) (sym p.1) ∙ h.is) has in false≢true (sym up ∙ t)
                  ])
              | inr on ↦
                  let low = on_path_within s past legal u k (stem_there s past legal w (Split node lines put_off) m asked there) on in
                  record { node = k; on = on; up = h.up; hangs = sym (branch_old (Split node lines put_off) count k (branch past k) low) ∙ h.hangs; is = h.is }
            ]),
      )
    ]
owner_new s past legal w _ asked deps m a high there has h = absurd (omega arith)

-- what is assumed on the path is assumed at the owner
pub owner_assumes : (s : Setting) (past : List Entry) → IsLegalJournal s past → (deps : List Assumption) (m : ℕ) (a : Assumption) → m < nodes past → contains_assumption deps a ≡ true → IsAssumedAt past m a → IsAssumedAt past (owner past deps m) a
owner_assumes s [] legal deps m a there has h = let bad = h.hangs in cc
owner_assumes s (e ∷ past) legal deps m a there has h =
    let u = stem e.event (nodes past) m in
    let above = owner past deps u in
    elim (cases_lt m (nodes past)) [
      | inl low ↦
          let is = owner_old e.event (nodes past) m above deps low ∙ ap (owner past deps) (stem_old e.event (nodes past) m low) in
          let old = owner_assumes s past legal.1 deps m a low has (assumed_before s past legal.1 e m a low h) in
          subst (λ n. IsAssumedAt (e ∷ past) n a) (sym is) (assumed_after s past legal.1 e (owner past deps m) a (owner_within s past legal.1 deps m low) old)
      | inr high ↦ elim (owner_new s past legal.1 e.by e.event legal.0.asked deps m a high there has h) [
        | inl own ↦ subst (λ n. IsAssumedAt (e ∷ past) n a) (sym own) h
        | inr up ↦
            let u_there = stem_there s past legal.1 e.by e.event m legal.0.asked there in
            let old = owner_assumes s past legal.1 deps u a u_there has up.1 in
            subst (λ n. IsAssumedAt (e ∷ past) n a) (sym up.0) (assumed_after s past legal.1 e above a (owner_within s past legal.1 deps u u_there) old)
      ]
    ]

pub owner_same : (past : List Entry) (e : Entry) (deps : List Assumption) (m : ℕ) → m < nodes past → owner (e ∷ past) deps m ≡ owner past deps m
owner_same past e deps m low = owner_old e.event (nodes past) m (owner past deps (stem e.event (nodes past) m)) deps low ∙ ap (owner past deps) (stem_old e.event (nodes past) m low)

pub owner_root : (past : List Entry) (deps : List Assumption) → owner past deps 0 ≡ 0
owner_root [] deps = refl
owner_root (e ∷ past) deps = owner_same past e deps 0 (let b = nodes_some past in omega arith) ∙ owner_root past deps

first_of : (x y : Bool) → ((true && x) || (false && y)) ≡ x
first_of true y = refl
first_of false y = refl

owner_fresh : (s : Setting) (past : List Entry) → IsLegalJournal s past → (w : ℕ) (ev : Event) → IsAsked s past w ev → (deps : List Assumption) (m : ℕ) (b : Branch) → nodes past ≤ m → m < nodes past + nodes_of ev → branch_by ev (nodes past) m (branch past m) ≡ Some b
    → owner_by ev (nodes past) deps m (owner past deps (stem ev (nodes past) m)) ≡ cond (contains_assumption deps b.assumed) m (owner (record { by = w; event = ev } ∷ past) deps b.parent)
owner_fresh s past legal w (Split node lines put_off) asked deps m b high there h =
    let e : Entry = record { by = w; event = Split node lines put_off } in
    let count = nodes past in
    let one = contains_assumption deps (side_of (subject lines) 1) in
    let two = contains_assumption deps (side_of (subject lines) 2) in
    let low = split_there s past legal w node lines put_off asked in
    let up = ap (owner past deps) (stem_high node count m high) ∙ sym (owner_same past e deps node low) in
    elim (new_branch node (subject lines) count m (branch past m) b high there h) [
      | inl r ↦
          let z = r.0 in
          let x = eq-eqb m count z in
          let y = ne_eqb m (count + 1) (λ q. omega arith) in
          let test : ((eqb m count && one) || (eqb m (count + 1) && two)) ≡ one = ap (λ t. (t && one) || (eqb m (count + 1) && two)) x ∙ (ap (λ t. (true && one) || (t && two)) y ∙ first_of one two) in
          ap (λ t. cond t m (owner past deps (stem (Split node lines put_off) count m))) test ∙ (ap (cond one m) up
          ∙ ap (λ c. cond (contains_assumption deps c.assumed) m (owner (e ∷ past) deps c.parent)) (sym r.1))
      | inr r ↦
          let z = r.0 in
          let x = ne_eqb m count (λ q. omega arith) in
          let y = eq-eqb m (count + 1) z in
          let test : ((eqb m count && one) || (eqb m (count + 1) && two)) ≡ two = ap (λ t. (t && one) || (eqb m (count + 1) && two)) x ∙ ap (λ t. (false && one) || (t && two)) y in
          ap (λ t. cond t m (owner past deps (stem (Split node lines put_off) count m))) test ∙ (ap (cond two m) up
          ∙ ap (λ c. cond (contains_assumption deps c.assumed) m (owner (e ∷ past) deps c.parent)) (sym r.1))
    ]
owner_fresh s past legal w _ asked deps m b high there h = absurd (omega arith)

-- the owner at a node is the node itself, or the owner at its parent
pub owner_climbs : (s : Setting) (past : List Entry) → IsLegalJournal s past → (deps : List Assumption) (m : ℕ) (b : Branch) → m < nodes past → branch past m ≡ Some b
    → owner past deps m ≡ cond (contains_assumption deps b.assumed) m (owner past deps b.parent)
owner_climbs s [] legal deps m b there h = cc
owner_climbs s (e ∷ past) legal deps m b there h = elim (cases_lt m (nodes past)) [
  | inl low ↦
      let g = sym (branch_old e.event (nodes past) m (branch past m) low) ∙ h in
      let p_low : b.parent < nodes past = (let k = parent_below s past legal.1 m b low g in omega arith) in
      owner_same past e deps m low ∙ (owner_climbs s past legal.1 deps m b low g ∙ ap (cond (contains_assumption deps b.assumed) m) (sym (owner_same past e deps b.parent p_low)))
  | inr high ↦ owner_fresh s past legal.1 e.by e.event legal.0.asked deps m b high there h
]

-- ---- where a listed clause stands

-- clause i was published at a node of the path of m
pub record StandsAbove (s : Setting) (past : List Entry) (m i : ℕ) : Type 0 where
  pub node : ℕ
  pub on : on_path past m node ≡ true
  pub stands : published s past node i ≡ true

lists_above : (w : ℕ) (past : List Entry) (ev : Event) (count size m i : ℕ) → lists ev count size (on_path past m) m i ≡ true
    → (n : ℕ) × (on_path (record { by = w; event = ev } ∷ past) m n ≡ true) × (lists ev count size (λ k. eqb k n) n i ≡ true)
lists_above w past (Publish node chain put_off) count size m i h =
    let p = and_parts (on_path past m node) (ltb size i && eqb i (size + length chain)) h in
    (node, or_right (eqb node m) (on_path past m node) p.0, and_from (eqb node node) (ltb size i && eqb i (size + length chain)) (eq-eqb node node refl) p.1)
lists_above w past (Split node lines put_off) count size m i h = (m, on_path-self (record { by = w; event = Split node lines put_off } ∷ past) m, h)
lists_above w past _ count size m i h = absurd (false≢true h)

pub listed_stands : (s : Setting) (past : List Entry) (m i : ℕ) → listed s past m i ≡ true → StandsAbove s past m i
listed_stands s [] m i h =
    let p = and_parts (eqb m 0) (leb 1 i && leb i (length s.input)) h in
    record { node = m; on = on_path-self [] m; stands = h }
listed_stands s (e ∷ past) m i h =
    let u = stem e.event (nodes past) m in
    elim (or_cases (lists e.event (nodes past) (steps s past) (on_path past m) m i) (listed s past u i) h) [
      | inl new ↦
          let r = lists_above e.by past e.event (nodes past) (steps s past) m i new in
          record { node = r.0; on = r.1; stands = or_left (lists e.event (nodes past) (steps s past) (λ k. eqb k r.0) r.0 i) (published s past r.0 i) r.2 }
      | inr old ↦
          let r = listed_stands s past u i old in
          record { node = r.node; on = or_right (eqb r.node m) (on_path past u r.node) r.on; stands = or_right (lists e.event (nodes past) (steps s past) (λ k. eqb k r.node) r.node i) (published s past r.node i) r.stands }
    ]

pub split_here : (n count i size len : ℕ) → ((eqb n count && eqb i (size + 1)) || (eqb n (count + 1) && (leb (size + 2) i && leb i (size + len)))) ≡ true → ((n ≡ count) × (i ≡ size + 1)) ⊎ ((n ≡ count + 1) × (size + 2 ≤ i))
split_here n count i size len h = elim (or_cases (eqb n count && eqb i (size + 1)) (eqb n (count + 1) && (leb (size + 2) i && leb i (size + len))) h) [
  | inl l ↦ let p = and_parts (eqb n count) (eqb i (size + 1)) l in inl (eqb-true n count p.0, eqb-true i (size + 1) p.1)
  | inr r ↦
      let p = and_parts (eqb n (count + 1)) (leb (size + 2) i && leb i (size + len)) r in
      let q = and_parts (leb (size + 2) i) (leb i (size + len)) p.1 in
      inr (eqb-true n (count + 1) p.0, leb-true (size + 2) i q.0)
]

-- where an event publishes is a node
lists_there : (s : Setting) (past : List Entry) → IsLegalJournal s past → (w : ℕ) (ev : Event) (n i : ℕ) → IsAsked s past w ev → lists ev (nodes past) (steps s past) (λ k. eqb k n) n i ≡ true → n < nodes past + nodes_of ev
lists_there s past legal w (Publish node chain put_off) n i p h =
    let q = eqb-true node n (and_parts (eqb node n) (ltb (steps s past) i && eqb i (steps s past + length chain)) h).0 in
    let low = publish_there s past legal w node chain put_off p.asked in
    omega arith
lists_there s past legal w (Split node lines put_off) n i p h = elim (split_here n (nodes past) i (steps s past) (length lines) h) [ inl q ↦ (let a = q.0 in omega arith) | inr q ↦ (let a = q.0 in omega arith) ]
lists_there s past legal w _ n i p h = absurd (false≢true h)

-- what was published is a clause of the ledger, at a node
pub published_within : (s : Setting) (past : List Entry) → IsLegalJournal s past → (n i : ℕ) → published s past n i ≡ true → (1 ≤ i) × (i ≤ steps s past) × (n < nodes past)
published_within s [] legal n i h =
    let r = in_input (eqb n 0) i (length s.input) h in
    let q = eqb-true n 0 (and_parts (eqb n 0) (leb 1 i && leb i (length s.input)) h).0 in
    (r.0, omega (arith, r.1, length-input_lines 1 s.input), omega arith)
published_within s (e ∷ past) legal n i h =
    let more = steps_more s past e in
    let count = nodes past in
    elim (or_cases (lists e.event count (steps s past) (λ k. eqb k n) n i) (published s past n i) h) [
      | inl new ↦
          let q = lists_new s past e.by e.event count (λ k. eqb k n) n i legal.0.asked new in
          (omega (arith, q.0), omega (arith, q.1), lists_there s past legal.1 e.by e.event n i legal.0.asked new)
      | inr old ↦
          let q = published_within s past legal.1 n i old in
          (q.0, omega (arith, q.1), omega (arith, q.2))
    ]
