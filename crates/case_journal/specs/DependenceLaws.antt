-- Laws that carry proofs, and no definitions that a reader must believe: what was published at a node depends on assumptions of the node's path alone.
use Rattle.std.proofs.Common.{◌≡◌, ℕ, zero, suc, ◌+◌, ◌-◌, ◌<◌, ◌≤◌, inl, inr, Bool, true, false, cond, not, ◌&&◌, ◌||◌, eqb, List, [], ◌∷◌, ◌++◌, length, Option, Some, None, option_map, refl, sym, ◌∙◌, ap, subst, arith, eq-eqb}
use Rattle.std.proofs.lemmas.Bool.{or_cases, or_right, and_parts, eqb-true, cases_Bool, cases_lt, cond-true, cond-false, false≢true, ne_eqb}
use Rattle.std.proofs.lemmas.Option.{slice_get-map}
use Rattle.std.specs.List.{slice_get}
use Rattle.spl_terms.specs.declared.clause.Clause.{Clause}
use Rattle.dep_sets.specs.declared.deps.Assumption.{Assumption}
use Rattle.dep_sets.specs.Assumptions.{contains_assumption, is_same_assumption, united, without_assumption}
use Rattle.dep_sets.specs.OrderLaws.{same_self, same-is_same}
use Rattle.dep_sets.specs.SetLaws.{united_contains, without_contains}
use Rattle.proof_steps.specs.declared.step.Statement.{Statement}
use Rattle.proof_steps.specs.declared.step.Step.{Step}
use Rattle.proof_steps.specs.declared.step.Line.{Line}
use Rattle.proof_steps.specs.Parts.{Parted}
use Rattle.proof_steps.specs.Steps.{numbered, side_of, states, when, of_one, of_two, of_three, from_two, resolution, closes, both_closed, assumption_of, conclude, ground_resolve}
use Rattle.proof_steps.specs.Checked.{stated, IsConclusion}
use Rattle.case_journal.specs.declared.branch.Branch.{Branch}
use Rattle.case_journal.specs.declared.event.Entry.{Entry}
use Rattle.case_journal.specs.declared.event.Event.{Event}
use Rattle.case_journal.specs.declared.event.Event.TheVariants.{Choose, Publish, Split, Activate}
use Rattle.case_journal.specs.Journal.{Setting, nodes, nodes_of, ledger, steps, lines_of, input_lines}
use Rattle.case_journal.specs.Paths.{stem, on_path, branch, branch_by, branch_to, subject}
use Rattle.case_journal.specs.Facts.{lists, listed, worked, split, chosen, chosen_by, chooses_at, before_choice}
use Rattle.case_journal.specs.Legal.{IsAsked, IsLegalJournal, IsPublishable, IsSplittable, IsInferred, IsClosing, IsPremise, IsChild, case_step, assume, assume_steps, negation_steps}
use Rattle.case_journal.specs.Closing.{published, IsAssumedAt}
use Rattle.case_journal.specs.ListLaws.{get_left, get_right, numbered_get}
use Rattle.case_journal.specs.PlaceLaws.{claimed_within, one_line}
use Rattle.case_journal.specs.PathLaws.{on_path-self, stem_old, nodes_some}
use Rattle.case_journal.specs.BranchLaws.{branch_old, branch_root, climbs}
use Rattle.case_journal.specs.PickLaws.{pick_passive, subject_is}
use Rattle.case_journal.specs.LedgerLaws.{input_line_at}
use Rattle.case_journal.specs.StandingLaws.{assumed_after, assumed_below, owner_assumes, new_branch, listed_stands, split_here, published_within}

-- ---- listed clauses, as the journal goes on

pub listed_after : (s : Setting) (past : List Entry) (e : Entry) (m i : ℕ) → m < nodes past → listed s past m i ≡ true → listed s (e ∷ past) m i ≡ true
listed_after s past e m i low h =
    or_right (lists e.event (nodes past) (steps s past) (on_path past m) m i) (listed s past (stem e.event (nodes past) m) i) (ap (λ x. listed s past x i) (stem_old e.event (nodes past) m low) ∙ h)

pub picked_listed : (s : Setting) (past : List Entry) (m i : ℕ) → (listed s past m i && (not (worked past m i) && not (split past m i))) ≡ true → listed s past m i ≡ true
picked_listed s past m i h = (and_parts (listed s past m i) (not (worked past m i) && not (split past m i)) h).0

chosen_step : (s : Setting) (past : List Entry) → IsLegalJournal s past → (w : ℕ) (ev : Event) (m i : ℕ) (o : Option ℕ) → IsAsked s past w ev → (o ≡ Some i → (m < nodes past) × (listed s past m i ≡ true))
    → chosen_by ev m o ≡ Some i → (m < nodes past) × (listed s past m i ≡ true)
chosen_step s past legal w (Choose node clause selected) m i o p old h = elim (cases_Bool (eqb node m)) [
  | inl same ↦
      let e : Some clause ≡ Some i = sym (cond-true (eqb node m) (Some clause) o same) ∙ h in
      let q : clause ≡ i = cc in
      let z = eqb-true node m same in
      let t = picked_listed s past node clause (pick_passive s past node clause p.picked) in
      let low = claimed_within s past legal w node p.holds.claims in
      (omega arith, ap (λ x. listed s past x i) (sym z) ∙ (ap (listed s past node) (sym q) ∙ t))
  | inr other ↦ old (sym (cond-false (eqb node m) (Some clause) o other) ∙ h)
]
chosen_step s past legal w (Activate node) m i o p old h = elim (cases_Bool (eqb node m)) [
  | inl same ↦ let e : None ≡ Some i = sym (cond-true (eqb node m) None o same) ∙ h in absurd (cc)
  | inr other ↦ old (sym (cond-false (eqb node m) None o other) ∙ h)
]
chosen_step s past legal w _ m i o p old h = old h

-- what is chosen at a node is listed there
pub chosen_listed : (s : Setting) (past : List Entry) → IsLegalJournal s past → (m i : ℕ) → chosen past m ≡ Some i → (m < nodes past) × (listed s past m i ≡ true)
chosen_listed s [] legal m i h = cc
chosen_listed s (e ∷ past) legal m i h =
    let r = chosen_step s past legal.1 e.by e.event m i (chosen past m) legal.0.asked (λ o. chosen_listed s past legal.1 m i o) h in
    (omega (arith, r.0), listed_after s past e m i r.0 r.1)

choice_there : (s : Setting) (past : List Entry) → IsLegalJournal s past → (w : ℕ) (ev : Event) (m : ℕ) → IsAsked s past w ev → chooses_at ev m ≡ true → m < nodes past
choice_there s past legal w (Choose node clause selected) m p h = let q = eqb-true node m h in let low = claimed_within s past legal w node p.holds.claims in omega arith
choice_there s past legal w _ m p h = absurd (false≢true h)

fresh_choice : (s : Setting) (past : List Entry) → IsLegalJournal s past → (m : ℕ) → nodes past ≤ m → before_choice past m ≡ []
fresh_choice s [] legal m high = refl
fresh_choice s (e ∷ past) legal m high = elim (cases_Bool (chooses_at e.event m)) [
  | inl here ↦ let low = choice_there s past legal.1 e.by e.event m legal.0.asked here in absurd (omega arith)
  | inr none ↦ cond-false (chooses_at e.event m) past (before_choice past m) none ∙ fresh_choice s past legal.1 m (omega arith)
]

-- what was listed when a clause was chosen is listed
pub before_listed : (s : Setting) (past : List Entry) → IsLegalJournal s past → (m i : ℕ) → listed s (before_choice past m) m i ≡ true → listed s past m i ≡ true
before_listed s [] legal m i h = h
before_listed s (e ∷ past) legal m i h = elim (cases_Bool (chooses_at e.event m)) [
  | inl here ↦
      listed_after s past e m i (choice_there s past legal.1 e.by e.event m legal.0.asked here)
      (ap (λ p. listed s p m i) (sym (cond-true (chooses_at e.event m) past (before_choice past m) here)) ∙ h)
  | inr none ↦
      let g = ap (λ p. listed s p m i) (sym (cond-false (chooses_at e.event m) past (before_choice past m) none)) ∙ h in
      elim (cases_lt m (nodes past)) [
        | inl low ↦ listed_after s past e m i low (before_listed s past legal.1 m i g)
        | inr high ↦
            let z = ap (λ p. listed s p m i) (sym (fresh_choice s past legal.1 m high)) ∙ g in
            let q = eqb-true m 0 (and_parts (eqb m 0) _ z).0 in
            absurd (omega (arith, nodes_some past))
      ]
]

pub premise_listed : (s : Setting) (past : List Entry) → IsLegalJournal s past → (leaf clause n : ℕ) → chosen past leaf ≡ Some clause → IsPremise s (before_choice past leaf) leaf clause n → listed s past leaf n ≡ true
premise_listed s past legal leaf clause n h (inl q) = ap (listed s past leaf) q ∙ (chosen_listed s past legal leaf clause h).1
premise_listed s past legal leaf clause n h (inr partner) = before_listed s past legal leaf n partner.kept

split_step : (s : Setting) (past : List Entry) → IsLegalJournal s past → (w : ℕ) (ev : Event) (m : ℕ) (b : Branch) → IsAsked s past w ev → nodes past ≤ m → m < nodes past + nodes_of ev → branch_by ev (nodes past) m (branch past m) ≡ Some b
    → (b.parent < nodes past) × (listed s past b.parent b.assumed.split ≡ true)
split_step s past legal w (Split node lines put_off) m b p high there h =
    let q = p.asked in
    let low = claimed_within s past legal w node q.holds.claims in
    let on : listed s past node (subject lines) ≡ true = ap (listed s past node) (subject_is s past w node lines put_off q) ∙ q.kept in
    elim (new_branch node (subject lines) (nodes past) m (branch past m) b high there h) [
      | inl r ↦ let z = r.1 in (omega (arith, ap (λ x. x.parent) z), ap (λ x. listed s past x.parent x.assumed.split) z ∙ on)
      | inr r ↦ let z = r.1 in (omega (arith, ap (λ x. x.parent) z), ap (λ x. listed s past x.parent x.assumed.split) z ∙ on)
    ]
split_step s past legal w _ m b p high there h = absurd (omega arith)

-- the clause that was split is listed at the node
pub split_listed : (s : Setting) (past : List Entry) → IsLegalJournal s past → (m : ℕ) (b : Branch) → m < nodes past → branch past m ≡ Some b → (b.parent < nodes past) × (listed s past b.parent b.assumed.split ≡ true)
split_listed s [] legal m b there h = cc
split_listed s (e ∷ past) legal m b there h = elim (cases_lt m (nodes past)) [
  | inl low ↦
      let r = split_listed s past legal.1 m b low (sym (branch_old e.event (nodes past) m (branch past m) low) ∙ h) in
      (omega (arith, r.0), listed_after s past e b.parent b.assumed.split r.0 r.1)
  | inr high ↦
      let r = split_step s past legal.1 e.by e.event m b legal.0.asked high there h in
      (omega (arith, r.0), listed_after s past e b.parent b.assumed.split r.0 r.1)
]

-- ---- the assumptions of a conclusion

pub line_of_stated : (lines : List Line) (m : ℕ) (p : Statement) → numbered (stated lines) m ≡ Some p → (l : Line) × (numbered lines m ≡ Some l) × (l.stated ≡ p)
line_of_stated lines zero p h = cc
line_of_stated lines (suc k) p h = found (slice_get lines k) refl (sym (slice_get-map (λ l. l.stated) lines k) ∙ h)
  where
    found : (o : Option Line) → slice_get lines k ≡ o → option_map (λ l. l.stated) o ≡ Some p → (l : Line) × (slice_get lines k ≡ Some l) × (l.stated ≡ p)
    found None e h = cc
    found (Some l) e h = (l, e, cc)

mapped_deps : (o : Option Clause) (deps : List Assumption) (st : Statement) → option_map (λ c. states c deps) o ≡ Some st → st.deps ≡ deps
mapped_deps None deps st h = cc
mapped_deps (Some c) deps st h = let q : states c deps ≡ st = cc in ap (λ x. x.deps) (sym q)

record HasTwo (xs : List Statement) (m n : ℕ) (st : Statement) : Type 0 where
  pub p : Statement
  pub q : Statement
  pub first : numbered xs m ≡ Some p
  pub second : numbered xs n ≡ Some q
  pub deps : st.deps ≡ united p.deps q.deps

two_deps : (xs : List Statement) (m n : ℕ) (f : Clause → Clause → Option Clause) (st : Statement) (a b : Option Statement) → numbered xs m ≡ a → numbered xs n ≡ b → of_two (from_two f) a b ≡ Some st → HasTwo xs m n st
two_deps xs m n f st (Some p) (Some q) e g h = record { p = p; q = q; first = e; second = g; deps = mapped_deps (f p.clause q.clause) (united p.deps q.deps) st h }
two_deps xs m n f st (Some p) None e g h = cc
two_deps xs m n f st None b e g h = cc

pub record HasThree (xs : List Statement) (m n o : ℕ) (st : Statement) : Type 0 where
  pub r : Statement
  pub e : Statement
  pub f : Statement
  pub first : numbered xs m ≡ Some r
  pub second : numbered xs n ≡ Some e
  pub third : numbered xs o ≡ Some f
  pub deps : st.deps ≡ united (united (without_assumption (side_of m 1) e.deps) (without_assumption (side_of m 2) f.deps)) r.deps

when_is : (b : Bool) (x st : Statement) → when b x ≡ Some st → x ≡ st
when_is true x st h = cc
when_is false x st h = cc

three_deps : (xs : List Statement) (m n o : ℕ) (st : Statement) (a b c : Option Statement) → numbered xs m ≡ a → numbered xs n ≡ b → numbered xs o ≡ c → of_three (both_closed m) a b c ≡ Some st → HasThree xs m n o st
three_deps xs m n o st (Some r) (Some e) (Some f) i j k h = record { r = r; e = e; f = f; first = i; second = j; third = k; deps = ap (λ x. x.deps) (sym (when_is (closes (side_of m 1) e && closes (side_of m 2) f) _ st h)) }
three_deps xs m n o st (Some r) (Some e) None i j k h = cc
three_deps xs m n o st (Some r) None c i j k h = cc
three_deps xs m n o st None b c i j k h = cc

assume_deps : (m side : ℕ) (negated : Option ℕ) (st : Statement) (o : Option Statement) → of_one (assumption_of m side negated) o ≡ Some st → st.deps ≡ side_of m side ∷ []
assume_deps m side negated st (Some r) h = mapped_deps _ (side_of m side ∷ []) st h
assume_deps m side negated st None h = cc

-- ---- what was published

-- each assumption of what was published at a node is one of its path
abbrev pub AreDepsAssumed : Setting → List Entry → Type 0
AreDepsAssumed s past = (n i : ℕ) (l : Line) (a : Assumption) → published s past n i ≡ true → numbered (ledger s past) i ≡ Some l → contains_assumption l.stated.deps a ≡ true → IsAssumedAt past n a

pub listed_assumed : (s : Setting) (past : List Entry) → IsLegalJournal s past → AreDepsAssumed s past → (m i : ℕ) (l : Line) (a : Assumption) → m < nodes past → listed s past m i ≡ true → numbered (ledger s past) i ≡ Some l
    → contains_assumption l.stated.deps a ≡ true → IsAssumedAt past m a
listed_assumed s past legal each m i l a there h found has = let r = listed_stands s past m i h in assumed_below s past legal m r.node a there r.on (each r.node i l a r.stands found has)

stated_assumed : (s : Setting) (past : List Entry) → IsLegalJournal s past → AreDepsAssumed s past → (m i : ℕ) (q : Statement) (a : Assumption) → m < nodes past → listed s past m i ≡ true → numbered (stated (ledger s past)) i ≡ Some q
    → contains_assumption q.deps a ≡ true → IsAssumedAt past m a
stated_assumed s past legal each m i q a there h found has =
    let r = line_of_stated (ledger s past) i q found in
    listed_assumed s past legal each m i r.0 a there h r.1 (ap (λ x. contains_assumption x.deps a) r.2 ∙ has)

inferred_assumed : (s : Setting) (past : List Entry) → IsLegalJournal s past → AreDepsAssumed s past → (w node : ℕ) (l : Line) (a : Assumption) → IsConclusion s.input (stated (ledger s past)) l → IsInferred s past w node l
    → contains_assumption l.stated.deps a ≡ true → IsAssumedAt past node a
inferred_assumed s past legal each w node l a c p has =
    let xs = stated (ledger s past) in
    let e : conclude s.input xs (ground_resolve p.i p.part p.j p.first p.second) ≡ Some l.stated = ap (conclude s.input xs) (sym p.step) ∙ c.0 in
    let t = two_deps xs p.first p.second (resolution p.i p.part p.j [] []) l.stated (numbered xs p.first) (numbered xs p.second) refl refl e in
    let there = claimed_within s past legal w p.leaf p.holds.claims in
    let some = sym (united_contains a t.p.deps t.q.deps) ∙ (ap (λ d. contains_assumption d a) (sym t.deps) ∙ has) in
    let at : IsAssumedAt past p.leaf a = elim (or_cases (contains_assumption t.p.deps a) (contains_assumption t.q.deps a) some) [
      | inl one ↦ stated_assumed s past legal each p.leaf p.first t.p a there (premise_listed s past legal p.leaf p.clause p.first p.chosen p.pair.left) t.first one
      | inr two ↦ stated_assumed s past legal each p.leaf p.second t.q a there (premise_listed s past legal p.leaf p.clause p.second p.chosen p.pair.right) t.second two
    ] in
    subst (λ n. IsAssumedAt past n a) (sym p.owner) (owner_assumes s past legal l.stated.deps p.leaf a there has at)

pub child_some : (past : List Entry) (m clause side child : ℕ) → IsChild past m clause side child → 0 < child
child_some past m clause side zero h = let bad = sym (branch_root past) ∙ h.hangs in absurd (cc)
child_some past m clause side (suc n) h = omega arith

-- what is assumed at a child, but for its own assumption, is assumed at the node
up_from : (s : Setting) (past : List Entry) → IsLegalJournal s past → (m clause side child : ℕ) (a : Assumption) → IsChild past m clause side child → IsAssumedAt past child a → not (is_same_assumption (side_of clause side) a) ≡ true → IsAssumedAt past m a
up_from s past legal m clause side child a c h other =
    let r = climbs s past legal child (child_some past m clause side child c) c.there in
    let same : Some r.up ≡ Some (branch_to m clause side) = sym r.hangs ∙ c.hangs in
    let up : r.up ≡ branch_to m clause side = cc in
    let k = h.node in
    elim (or_cases (eqb k child) (on_path past r.up.parent k) (sym (r.goes k) ∙ h.on)) [
      | inl here ↦
          let q = eqb-true k child here in
          let e : Some h.up ≡ Some (branch_to m clause side) = sym h.hangs ∙ (ap (branch past) q ∙ c.hangs) in
          let f : h.up ≡ branch_to m clause side = cc in
          let z : side_of clause side ≡ a = ap (λ b. b.assumed) (sym f) ∙ h.is in
          let t = ap (λ x. not (is_same_assumption (side_of clause side) x)) (sym z) ∙ (let g = same_self (side_of clause side) in ap not g) in
          absurd (false≢true (sym t ∙ other))
      | inr on ↦ record { node = k; on = ap (λ b. on_path past b.parent k) (sym up) ∙ on; up = h.up; hangs = h.hangs; is = h.is }
    ]

closing_assumed : (s : Setting) (past : List Entry) → IsLegalJournal s past → AreDepsAssumed s past → (node : ℕ) (l : Line) (a : Assumption) → IsConclusion s.input (stated (ledger s past)) l → IsClosing s past node l
    → contains_assumption l.stated.deps a ≡ true → IsAssumedAt past node a
closing_assumed s past legal each node l a c p has =
    let xs = stated (ledger s past) in
    let e : conclude s.input xs (case_step p.clause p.left_empty p.right_empty) ≡ Some l.stated = ap (conclude s.input xs) (sym p.step) ∙ c.0 in
    let t = three_deps xs p.clause p.left_empty p.right_empty l.stated (numbered xs p.clause) (numbered xs p.left_empty) (numbered xs p.right_empty) refl refl refl e in
    let one = without_assumption (side_of p.clause 1) t.e.deps in
    let two = without_assumption (side_of p.clause 2) t.f.deps in
    let in_all = sym (united_contains a (united one two) t.r.deps) ∙ (ap (λ d. contains_assumption d a) (sym t.deps) ∙ has) in
    let at : IsAssumedAt past p.inner a = elim (or_cases (contains_assumption (united one two) a) (contains_assumption t.r.deps a) in_all) [
      | inl sides ↦ elim (or_cases (contains_assumption one a) (contains_assumption two a) (sym (united_contains a one two) ∙ sides)) [
        | inl x ↦
            let y = and_parts (not (is_same_assumption (side_of p.clause 1) a)) (contains_assumption t.e.deps a) (sym (without_contains a (side_of p.clause 1) t.e.deps) ∙ x) in
            up_from s past legal p.inner p.clause 1 p.left a p.left_child (stated_assumed s past legal each p.left p.left_empty t.e a p.left_child.there p.first_left.empty.lists t.second y.1) y.0
        | inr x ↦
            let y = and_parts (not (is_same_assumption (side_of p.clause 2) a)) (contains_assumption t.f.deps a) (sym (without_contains a (side_of p.clause 2) t.f.deps) ∙ x) in
            up_from s past legal p.inner p.clause 2 p.right a p.right_child (stated_assumed s past legal each p.right p.right_empty t.f a p.right_child.there p.first_right.empty.lists t.third y.1) y.0
      ]
      | inr whole ↦
          let r = split_listed s past legal p.left (branch_to p.inner p.clause 1) p.left_child.there p.left_child.hangs in
          stated_assumed s past legal each p.inner p.clause t.r a p.there r.1 t.first whole
    ] in
    subst (λ n. IsAssumedAt past n a) (sym p.owner) (owner_assumes s past legal l.stated.deps p.inner a p.there has at)

pub numbered_old : {A : Type 0} (xs ys : List A) (i : ℕ) → 1 ≤ i → i ≤ length xs → numbered (xs ++ ys) i ≡ numbered xs i
numbered_old xs ys i some low = numbered_get (xs ++ ys) i some ∙ (get_left xs ys (i - 1) (omega arith) ∙ sym (numbered_get xs i some))

pub numbered_new : {A : Type 0} (xs ys : List A) (i k : ℕ) → i ≡ length xs + k + 1 → numbered (xs ++ ys) i ≡ slice_get ys k
numbered_new xs ys i k e = let z : i - 1 ≡ length xs + k = omega arith in numbered_get (xs ++ ys) i (omega arith) ∙ (ap (slice_get (xs ++ ys)) z ∙ get_right xs ys k)

-- ---- a Split

first_step : (s : Setting) (past : List Entry) (w node : ℕ) (lines : List Line) (put_off : List Bool) → (p : IsSplittable s past w node lines put_off) → (k : ℕ) (l : Line) → slice_get lines k ≡ Some l → slice_get (assume_steps p.clause p.parts) k ≡ Some l.step
first_step s past w node lines put_off p k l h = ap (λ xs. slice_get xs k) (sym p.steps) ∙ (slice_get-map (λ x. x.step) lines k ∙ ap (option_map (λ x. x.step)) h)

negated_later : (clause k n j : ℕ) (step : Step) → slice_get (negation_steps clause k n) j ≡ Some step → (o : Option ℕ) × (step ≡ assume clause 2 o)
negated_later clause k zero j step h = cc
negated_later clause k (suc n) zero step h = (Some k, cc)
negated_later clause k (suc n) (suc j) step h = negated_later clause (k + 1) n j step h

later_step : (b : Bool) (clause n j : ℕ) (step : Step) → slice_get (cond b (negation_steps clause 0 n) []) j ≡ Some step → (o : Option ℕ) × (step ≡ assume clause 2 o)
later_step true clause n j step h = negated_later clause 0 n j step h
later_step false clause n j step h = cc

right_step : (clause : ℕ) (parts : Parted) (k : ℕ) (step : Step) → slice_get (assume_steps clause parts) (suc k) ≡ Some step → (o : Option ℕ) × (step ≡ assume clause 2 o)
right_step clause parts zero step h = (None, cc)
right_step clause parts (suc k) step h = later_step parts.left_ground clause _ k step h

-- the side that the step at this place of a Split is about
abbrev pub side_at : ℕ → ℕ
side_at zero = 1
side_at (suc k) = 2

pub side_deps : (s : Setting) (past : List Entry) (w node : ℕ) (lines : List Line) (put_off : List Bool) → (p : IsSplittable s past w node lines put_off) → (k : ℕ) (l : Line) → slice_get lines k ≡ Some l
    → l.stated.deps ≡ side_of p.clause (side_at k) ∷ []
side_deps s past w node lines put_off p zero l h =
    let at = first_step s past w node lines put_off p zero l h in
    let q : l.step ≡ assume p.clause 1 None = cc in
    let xs = stated (ledger s past) in
    assume_deps p.clause 1 None l.stated (numbered xs p.clause) (ap (conclude s.input xs) (sym q) ∙ (p.concluded zero l h).0)
side_deps s past w node lines put_off p (suc k) l h =
    let r = right_step p.clause p.parts k l.step (first_step s past w node lines put_off p (suc k) l h) in
    let xs = stated (ledger s past) in
    assume_deps p.clause 2 r.0 l.stated (numbered xs p.clause) (ap (conclude s.input xs) (sym r.1) ∙ (p.concluded (suc k) l h).0)

or_false : (x : Bool) → (x || false) ≡ true → x ≡ true
or_false true h = refl
or_false false h = h

one_dep : (a b : Assumption) (deps : List Assumption) → deps ≡ b ∷ [] → contains_assumption deps a ≡ true → b ≡ a
one_dep a b deps e h = sym (same-is_same a b (or_false (is_same_assumption a b) (ap (λ d. contains_assumption d a) (sym e) ∙ h)))

split_assumed : (s : Setting) (past : List Entry) (w node : ℕ) (lines : List Line) (put_off : List Bool) → IsSplittable s past w node lines put_off → (n i : ℕ) (l : Line) (a : Assumption)
    → lists (Split node lines put_off) (nodes past) (steps s past) (λ k. eqb k n) n i ≡ true → numbered (ledger s past ++ lines) i ≡ Some l → contains_assumption l.stated.deps a ≡ true
    → IsAssumedAt (record { by = w; event = Split node lines put_off } ∷ past) n a
split_assumed s past w node lines put_off p n i l a h found has =
    let count = nodes past in
    let about = subject_is s past w node lines put_off p in
    let e : Entry = record { by = w; event = Split node lines put_off } in
    let one = Some (branch_to node (subject lines) 1) in
    let two = Some (branch_to node (subject lines) 2) in
    elim (split_here n count i (steps s past) (length lines) h) [
      | inl q ↦
          let z = q.1 in
          let at = sym (numbered_new (ledger s past) lines i 0 (omega arith)) ∙ found in
          let d = side_deps s past w node lines put_off p 0 l at in
          record {
            node = n;
            on = on_path-self (e ∷ past) n;
            up = branch_to node (subject lines) 1;
            hangs = cond-true (eqb n count) one (cond (eqb n (count + 1)) two (branch past n)) (eq-eqb n count q.0);
            is = ap (λ c. side_of c 1) about ∙ one_dep a (side_of p.clause 1) l.stated.deps d has;
          }
      | inr q ↦
          let z = q.1 in
          let y = q.0 in
          let k = i - (steps s past + 2) in
          let at = sym (numbered_new (ledger s past) lines i (suc k) (omega arith)) ∙ found in
          let d = side_deps s past w node lines put_off p (suc k) l at in
          record {
            node = n;
            on = on_path-self (e ∷ past) n;
            up = branch_to node (subject lines) 2;
            hangs = cond-false (eqb n count) one (cond (eqb n (count + 1)) two (branch past n)) (ne_eqb n count (λ r. omega arith)) ∙ cond-true (eqb n (count + 1)) two (branch past n) (eq-eqb n (count + 1) y);
            is = ap (λ c. side_of c 2) about ∙ one_dep a (side_of p.clause 2) l.stated.deps d has;
          }
    ]

-- ---- a Publish

-- the one step of a chain is the last line
pub chain_line : (s : Setting) (past : List Entry) (w node : ℕ) (chain : List Line) (put_off : Bool) (p : IsPublishable s past w node chain put_off) (i : ℕ) (l : Line) → i ≡ steps s past + length chain → numbered (ledger s past ++ chain) i ≡ Some l → p.line ≡ l
chain_line s past w node chain put_off p i l e found =
    let at = sym (numbered_new (ledger s past) chain i 0 (omega (arith, one_line s past w node chain put_off p))) ∙ found in
    let same : Some p.line ≡ Some l = ap (λ xs. slice_get xs 0) (sym p.one) ∙ at in
    cc

publish_assumed : (s : Setting) (past : List Entry) → IsLegalJournal s past → AreDepsAssumed s past → (w node : ℕ) (chain : List Line) (put_off : Bool) → IsPublishable s past w node chain put_off → (i : ℕ) (l : Line) (a : Assumption) → i ≡ steps s past + length chain
    → numbered (ledger s past ++ chain) i ≡ Some l → contains_assumption l.stated.deps a ≡ true → IsAssumedAt past node a
publish_assumed s past legal each w node chain put_off p i l a at found has =
    let q = chain_line s past w node chain put_off p i l at found in
    let has_it : contains_assumption p.line.stated.deps a ≡ true = ap (λ x. contains_assumption x.stated.deps a) q ∙ has in
    elim p.cause [
      | inl f ↦ inferred_assumed s past legal each w node p.line a p.concluded f has_it
      | inr f ↦ closing_assumed s past legal each node p.line a p.concluded f has_it
    ]

new_assumed : (s : Setting) (past : List Entry) → IsLegalJournal s past → AreDepsAssumed s past → (w : ℕ) (ev : Event) → IsAsked s past w ev → (n i : ℕ) (l : Line) (a : Assumption)
    → lists ev (nodes past) (steps s past) (λ k. eqb k n) n i ≡ true → n < nodes past + nodes_of ev → numbered (ledger s past ++ lines_of ev) i ≡ Some l → contains_assumption l.stated.deps a ≡ true → IsAssumedAt (record { by = w; event = ev } ∷ past) n a
new_assumed s past legal each w (Publish node chain put_off) p n i l a h there found has =
    let parts = and_parts (eqb node n) _ h in
    let q = eqb-true node n parts.0 in
    let at = eqb-true i (steps s past + length chain) (and_parts _ (eqb i (steps s past + length chain)) parts.1).1 in
    let r = subst (λ x. IsAssumedAt past x a) q (publish_assumed s past legal each w node chain put_off p.asked i l a at found has) in
    assumed_after s past legal (record { by = w; event = Publish node chain put_off }) n a (omega arith) r
new_assumed s past legal each w (Split node lines put_off) p n i l a h there found has = split_assumed s past w node lines put_off p.asked n i l a h found has
new_assumed s past legal each w _ p n i l a h there found has = absurd (false≢true h)

pub deps_assumed : (s : Setting) (past : List Entry) → IsLegalJournal s past → AreDepsAssumed s past
deps_assumed s [] legal n i l a h found has =
    let w = published_within s [] legal n i h in
    let r = input_line_at 1 s.input (i - 1) l (sym (numbered_get (input_lines 1 s.input) i w.0) ∙ found) in
    absurd (false≢true (ap (λ x. contains_assumption x.stated.deps a) (sym r.is) ∙ has))
deps_assumed s (e ∷ past) legal n i l a h found has =
    let each : AreDepsAssumed s past = λ m j k b g f t. deps_assumed s past legal.1 m j k b g f t in
    let within = published_within s (e ∷ past) legal n i h in
    elim (or_cases (lists e.event (nodes past) (steps s past) (λ k. eqb k n) n i) (published s past n i) h) [
      | inl new ↦ new_assumed s past legal.1 each e.by e.event legal.0.asked n i l a new within.2 found has
      | inr old ↦
          let w = published_within s past legal.1 n i old in
          assumed_after s past legal.1 e n a w.2 (each n i l a old (sym (numbered_old (ledger s past) (lines_of e.event) i w.0 w.1) ∙ found) has)
    ]
