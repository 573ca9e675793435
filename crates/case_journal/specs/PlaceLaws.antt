-- Laws that carry proofs, and no definitions that a reader must believe: where listed numbers, claimed nodes and owners lie.
use Rattle.std.proofs.Common.{◌≡◌, ℕ, ◌+◌, ◌<◌, ◌≤◌, inl, inr, Bool, true, false, ◌&&◌, ◌||◌, eqb, ltb, leb, List, [], ◌∷◌, length, cond, Option, Some, sym, ◌∙◌, ap, arith, length-append}
use Rattle.std.proofs.lemmas.Bool.{or_cases, and_parts, leb-true, leb-false, ltb-true, eqb-true, false≢true, cases_Bool, cond-true, cond-false}
use Rattle.std.proofs.lemmas.List.{length-map}
use Rattle.dep_sets.specs.declared.deps.Assumption.{Assumption}
use Rattle.dep_sets.specs.Assumptions.{contains_assumption}
use Rattle.proof_steps.specs.declared.step.Line.{Line}
use Rattle.proof_steps.specs.Steps.{side_of}
use Rattle.case_journal.specs.declared.event.Entry.{Entry}
use Rattle.case_journal.specs.declared.event.Event.{Event}
use Rattle.case_journal.specs.declared.event.Event.TheVariants.{Claim, Publish, Split}
use Rattle.case_journal.specs.Journal.{Setting, lines_of, nodes_of, nodes, ledger, steps}
use Rattle.case_journal.specs.Paths.{stem, owner, owner_by, subject}
use Rattle.case_journal.specs.Facts.{lists, claimed, claimed_by}
use Rattle.case_journal.specs.Legal.{IsAsked, IsLegalJournal, IsPublishable, IsSplittable}

-- the ledger grows by the event's steps
pub steps_more : (s : Setting) (past : List Entry) (e : Entry) → steps s (e ∷ past) ≡ steps s past + length (lines_of e.event)
steps_more s past e = length-append (ledger s past) (lines_of e.event)

-- ---- claimed nodes

claims_there : (s : Setting) (past : List Entry) (w : ℕ) (ev : Event) (o : Option ℕ) (n : ℕ) → IsAsked s past w ev → claimed_by ev o ≡ Some n → (o ≡ Some n → n < nodes past) → n < nodes past + nodes_of ev
claims_there s past w (Claim node) o n p h old = let low = p.claimable.there in let q : node ≡ n = cc in omega arith
claims_there s past w ev o n p h old = let low = old h in omega arith

-- a worker has claimed a node
pub claimed_within : (s : Setting) (past : List Entry) → IsLegalJournal s past → (w n : ℕ) → claimed past w ≡ Some n → n < nodes past
claimed_within s [] legal w n h = cc
claimed_within s (e ∷ past) legal w n h =
    let before = λ (o : claimed past w ≡ Some n). claimed_within s past legal.1 w n o in
    elim (cases_Bool (eqb e.by w)) [
      | inl own ↦ claims_there s past e.by e.event (claimed past w) n legal.0.asked (sym (cond-true (eqb e.by w) (claimed_by e.event (claimed past w)) (claimed past w) own) ∙ h) before
      | inr other ↦ let low = before (sym (cond-false (eqb e.by w) (claimed_by e.event (claimed past w)) (claimed past w) other) ∙ h) in omega arith
    ]

-- ---- what events name

pub one_line : (s : Setting) (past : List Entry) (w node : ℕ) (chain : List Line) (put_off : Bool) → IsPublishable s past w node chain put_off → length chain ≡ 1
one_line s past w node chain put_off p = ap length p.one

pub two_lines : (s : Setting) (past : List Entry) (w node : ℕ) (lines : List Line) (put_off : List Bool) → IsSplittable s past w node lines put_off → 2 ≤ length lines
two_lines s past w node lines put_off p = omega (arith, ap length p.steps, length-map lines (λ l. l.step))

-- a node that is split is there
pub split_there : (s : Setting) (past : List Entry) → IsLegalJournal s past → (w node : ℕ) (lines : List Line) (put_off : List Bool) → IsAsked s past w (Split node lines put_off) → node < nodes past
split_there s past legal w node lines put_off p = claimed_within s past legal w node p.asked.holds.claims

stem_split : (node count m : ℕ) → node < count → m < count + 2 → cond (leb count m) node m < count
stem_split node count m p q = elim (cases_Bool (leb count m)) [
  | inl new ↦ omega (arith, cond-true (leb count m) node m new)
  | inr old ↦ let low = leb-false count m old in omega (arith, cond-false (leb count m) node m old)
]

-- the node at whose place m hung was there
pub stem_there : (s : Setting) (past : List Entry) → IsLegalJournal s past → (w : ℕ) (ev : Event) (m : ℕ) → IsAsked s past w ev → m < nodes past + nodes_of ev → stem ev (nodes past) m < nodes past
stem_there s past legal w (Split node lines put_off) m p h = stem_split node (nodes past) m (split_there s past legal w node lines put_off p) h
stem_there s past legal w ev m p h = omega arith

owner_split : (x : Bool) (m above n : ℕ) → m < n → above < n → cond x m above < n
owner_split true m above n p q = p
owner_split false m above n p q = q

owner_step : (ev : Event) (count m above n : ℕ) (deps : List Assumption) → m < n → above < n → owner_by ev count deps m above < n
owner_step (Split node lines put_off) count m above n deps p q =
    owner_split (((eqb m count) && contains_assumption deps (side_of (subject lines) 1)) || ((eqb m (count + 1)) && contains_assumption deps (side_of (subject lines) 2))) m above n p q
owner_step _ count m above n deps p q = q

-- an owner is a node
pub owner_within : (s : Setting) (past : List Entry) → IsLegalJournal s past → (deps : List Assumption) (m : ℕ) → m < nodes past → owner past deps m < nodes past
owner_within s [] legal deps m h = omega arith
owner_within s (e ∷ past) legal deps m h =
    let low = owner_within s past legal.1 deps (stem e.event (nodes past) m) (stem_there s past legal.1 e.by e.event m legal.0.asked h) in
    owner_step e.event (nodes past) m (owner past deps (stem e.event (nodes past) m)) (nodes past + nodes_of e.event) deps h (omega arith)

-- what is published goes to a node
pub publish_there : (s : Setting) (past : List Entry) → IsLegalJournal s past → (w node : ℕ) (chain : List Line) (put_off : Bool) → IsPublishable s past w node chain put_off → node < nodes past
publish_there s past legal w node chain put_off p = elim p.cause [
  | inl i ↦ omega (arith, i.owner, owner_within s past legal p.line.stated.deps i.leaf (claimed_within s past legal w i.leaf i.holds.claims))
  | inr c ↦ omega (arith, c.owner, owner_within s past legal p.line.stated.deps c.inner c.there)
]

-- ---- listed numbers

at_last : (on : Bool) (i size n : ℕ) → (on && (ltb size i && eqb i (size + n))) ≡ true → (size < i) × (i ≤ size + n)
at_last on i size n h =
    let a = (and_parts on (ltb size i && eqb i (size + n)) h).1 in
    let b = and_parts (ltb size i) (eqb i (size + n)) a in
    (ltb-true size i b.0, (let q = eqb-true i (size + n) b.1 in omega arith))

in_split : (x y : Bool) (i size n : ℕ) → ((x && eqb i (size + 1)) || (y && (leb (size + 2) i && leb i (size + n)))) ≡ true → 1 ≤ n → (size < i) × (i ≤ size + n)
in_split x y i size n h some =
    elim (or_cases (x && eqb i (size + 1)) (y && (leb (size + 2) i && leb i (size + n))) h) [
      | inl l ↦ let q = eqb-true i (size + 1) (and_parts x (eqb i (size + 1)) l).1 in (omega arith, omega arith)
      | inr r ↦
          let b = and_parts (leb (size + 2) i) (leb i (size + n)) (and_parts y (leb (size + 2) i && leb i (size + n)) r).1 in
          let p = leb-true (size + 2) i b.0 in
          let q = leb-true i (size + n) b.1 in
          (omega arith, omega arith)
    ]

-- what an event lists is new
pub lists_new : (s : Setting) (past : List Entry) (w : ℕ) (ev : Event) (count : ℕ) (on : ℕ → Bool) (m i : ℕ) → IsAsked s past w ev
    → lists ev count (steps s past) on m i ≡ true → (steps s past < i) × (i ≤ steps s past + length (lines_of ev))
lists_new s past w (Publish node chain put_off) count on m i p h = at_last (on node) i (steps s past) (length chain) h
lists_new s past w (Split node lines put_off) count on m i p h = in_split (eqb m count) (eqb m (count + 1)) i (steps s past) (length lines) h (omega (arith, two_lines s past w node lines put_off p.asked))
lists_new s past w _ count on m i p h = absurd (false≢true h)

pub in_input : (x : Bool) (i n : ℕ) → (x && (leb 1 i && leb i n)) ≡ true → (1 ≤ i) × (i ≤ n)
in_input x i n h =
    let b = and_parts (leb 1 i) (leb i n) (and_parts x (leb 1 i && leb i n) h).1 in
    (leb-true 1 i b.0, leb-true i n b.1)
