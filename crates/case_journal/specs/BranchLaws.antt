-- Laws that carry proofs, and no definitions that a reader must believe: how the nodes hang is what the journal says, and a path goes on at the parent.
use Rattle.std.specs.Prelude.{IsSomeAnd}
use Rattle.std.proofs.Common.{subst, ◌≡◌, ℕ, ◌+◌, ◌<◌, ◌≤◌, inl, inr, Bool, true, false, cond, ◌||◌, eqb, List, [], ◌∷◌, Option, Some, None, refl, sym, ◌∙◌, ap, arith, eq-eqb}
use Rattle.std.proofs.lemmas.Bool.{eqb-true, ne_eqb, cases_lt, cond-true, cond-false}
use Rattle.case_journal.specs.declared.event.Entry.{Entry}
use Rattle.case_journal.specs.declared.event.Event.{Event}
use Rattle.case_journal.specs.declared.event.Event.TheVariants.{Split}
use Rattle.case_journal.specs.declared.branch.Branch.{Branch}
use Rattle.case_journal.specs.Journal.{Setting, nodes, nodes_of}
use Rattle.case_journal.specs.Paths.{stem, on_path, branch, branch_by, branch_to, subject}
use Rattle.case_journal.specs.Legal.{IsAsked, IsLegalJournal}
use Rattle.case_journal.specs.PlaceLaws.{split_there}
use Rattle.case_journal.specs.PathLaws.{or_absorb, on_path-self, stem_old, nodes_some, stem_high}

pub branch_old : (ev : Event) (count m : ℕ) (o : Option Branch) → m < count → branch_by ev count m o ≡ o
branch_old (Split node lines put_off) count m o h =
    let one = Some (branch_to node (subject lines) 1) in
    let two = Some (branch_to node (subject lines) 2) in
    cond-false (eqb m count) one (cond (eqb m (count + 1)) two o) (ne_eqb m count (λ q. omega arith)) ∙ cond-false (eqb m (count + 1)) two o (ne_eqb m (count + 1) (λ q. omega arith))
branch_old _ count m o h = refl

pub branch_root : (past : List Entry) → branch past 0 ≡ None
branch_root [] = refl
branch_root (e ∷ past) = branch_old e.event (nodes past) 0 (branch past 0) (omega (arith, nodes_some past)) ∙ branch_root past

-- ---- climbing

or_twice : (x y z : Bool) → (z ≡ true → y ≡ true) → (x || (x || y)) ≡ (x || (z || y))
or_twice true y z h = refl
or_twice false y z h = sym (or_absorb z y h)

or_more : (x y z : Bool) → (z ≡ true → y ≡ true) → (x || y) ≡ (x || (z || y))
or_more x y z h = ap (λ w. x || w) (sym (or_absorb z y h))

-- m hangs at p, which is before it, and the path goes on from there
pub record Climbs (past : List Entry) (m : ℕ) : Type 0 where
  pub up : Branch
  pub hangs : branch past m ≡ Some up
  pub below : up.parent < m
  pub goes : (n : ℕ) → on_path past m n ≡ (eqb n m || on_path past up.parent n)

climbs_old : (past : List Entry) (e : Entry) (m : ℕ) → m < nodes past → Climbs past m → Climbs (e ∷ past) m
climbs_old past e m there c =
    let p = c.up.parent in
    let low : p < nodes past = (let b = c.below in omega arith) in
    record {
      up = c.up;
      hangs = branch_old e.event (nodes past) m (branch past m) there ∙ c.hangs;
      below = c.below;
      goes = λ n.
          let mm = ap (λ x. eqb n m || on_path past x n) (stem_old e.event (nodes past) m there) in
          let pp = ap (λ x. eqb n m || (eqb n p || on_path past x n)) (sym (stem_old e.event (nodes past) p low)) in
          mm ∙ (ap (λ w. eqb n m || w) (c.goes n)
          ∙ (or_twice (eqb n m) (on_path past p n) (eqb n p) (λ h. ap (λ x. on_path past p x) (eqb-true n p h) ∙ on_path-self past p)
          ∙ pp));
    }

parent_new : (node split count m : ℕ) (o : Option Branch) → count ≤ m → m < count + 2 → (b : Branch) × (cond (eqb m count) (Some (branch_to node split 1)) (cond (eqb m (count + 1)) (Some (branch_to node split 2)) o) ≡ Some b) × (b.parent ≡ node)
parent_new node split count m o high there =
    let one = Some (branch_to node split 1) in
    let two = Some (branch_to node split 2) in
    elim (cases_lt m (count + 1)) [
      | inl low ↦ (branch_to node split 1, cond-true (eqb m count) one (cond (eqb m (count + 1)) two o) (eq-eqb m count (omega arith)), refl)
      | inr more ↦ (branch_to node split 2, cond-false (eqb m count) one (cond (eqb m (count + 1)) two o) (ne_eqb m count (λ r. omega arith)) ∙ cond-true (eqb m (count + 1)) two o (eq-eqb m (count + 1) (omega arith)), refl)
    ]

-- a node that a Split has just made
climbs_new : (s : Setting) (past : List Entry) → IsLegalJournal s past → (w : ℕ) (ev : Event) (m : ℕ) → nodes past ≤ m → m < nodes past + nodes_of ev → IsAsked s past w ev → Climbs (record { by = w; event = ev } ∷ past) m
climbs_new s past legal w (Split node lines put_off) m high there asked =
    let r = parent_new node (subject lines) (nodes past) m (branch past m) high there in
    let q = r.2 in
    let low : node < nodes past = split_there s past legal w node lines put_off asked in
    record {
      up = r.0;
      hangs = r.1;
      below = omega arith;
      goes = λ n.
          ap (λ x. eqb n m || on_path past x n) (stem_high node (nodes past) m high)
          ∙ (or_more (eqb n m) (on_path past node n) (eqb n node) (λ h. ap (λ x. on_path past node x) (eqb-true n node h) ∙ on_path-self past node)
          ∙ (ap (λ x. eqb n m || (eqb n node || on_path past x n)) (sym (stem_old (Split node lines put_off) (nodes past) node low))
          ∙ ap (λ x. eqb n m || (eqb n x || on_path past (stem (Split node lines put_off) (nodes past) x) n)) (sym q)));
    }
climbs_new s past legal w _ m high there asked = absurd (omega arith)

pub climbs : (s : Setting) (past : List Entry) → IsLegalJournal s past → (m : ℕ) → 0 < m → m < nodes past → Climbs past m
climbs s [] legal m some there = absurd (omega arith)
climbs s (e ∷ past) legal m some there =
    elim (cases_lt m (nodes past)) [
      | inl low ↦ climbs_old past e m low (climbs s past legal.1 m some low)
      | inr high ↦ climbs_new s past legal.1 e.by e.event m high there legal.0.asked
    ]

-- a node other than the root hangs at one before it
pub hangs_below : (s : Setting) (past : List Entry) → IsLegalJournal s past → (m : ℕ) → 0 < m → m < nodes past → IsSomeAnd (branch past m) (λ b. b.parent < m)
hangs_below s past legal m some there =
    let c = climbs s past legal m some there in
    subst (λ o. IsSomeAnd o (λ b. b.parent < m)) (sym c.hangs) c.below
