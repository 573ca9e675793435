-- The children of a node have two numbers of which the first is odd, and the next.
use Rattle.std.proofs.Common.{◌≡◌, ℕ, ◌+◌, ◌*◌, ◌<◌, ◌≤◌, inl, inr, true, false, cond, not, eqb, List, [], ◌∷◌, Some, refl, sym, ◌∙◌, ap, arith, eq-eqb}
use Rattle.std.proofs.lemmas.Bool.{and_cases, and_left, and_right, eqb-true, cases_lt, cond-true, cond-false, false≢true, ne_eqb, not-false}
use Rattle.case_journal.specs.declared.event.Entry.{Entry}
use Rattle.case_journal.specs.declared.event.Event.{Event}
use Rattle.case_journal.specs.declared.event.Event.TheVariants.{Split}
use Rattle.case_journal.specs.Journal.{Setting, nodes, nodes_of, splits_of}
use Rattle.case_journal.specs.Paths.{branch, branch_to, is_leaf, splits_node, subject}
use Rattle.case_journal.specs.Legal.{IsAsked, IsLegalJournal, IsChild}
use Rattle.case_journal.specs.PlaceLaws.{split_there}
use Rattle.case_journal.specs.BranchLaws.{branch_old}
use Rattle.case_journal.specs.BoundLaws.{splits_nodes}
use Rattle.case_journal.specs.FreshLaws.{fresh_leaf}

-- how many pairs of children there are
pub pairs : (past : List Entry) → (k : ℕ) × (nodes past ≡ 2 * k + 1)
pairs [] = (0, refl)
pairs (e ∷ past) = let r = pairs past in (r.0 + splits_of e.event, omega (arith, r.1, splits_nodes e.event))

-- the pair of children with this place among them
pub record HasPair (past : List Entry) (j : ℕ) : Type 0 where
  pub inner : ℕ
  pub clause : ℕ
  pub below : inner < 2 * j + 1
  pub split : is_leaf past inner ≡ false
  pub left : IsChild past inner clause 1 (2 * j + 1)
  pub right : IsChild past inner clause 2 (2 * j + 2)

pub child_after : (past : List Entry) (e : Entry) (m clause side child : ℕ) → IsChild past m clause side child → IsChild (e ∷ past) m clause side child
child_after past e m clause side child c = let there = c.there in record { there = omega arith; hangs = branch_old e.event (nodes past) child (branch past child) c.there ∙ c.hangs }

pair_after : (past : List Entry) (e : Entry) (j : ℕ) → HasPair past j → HasPair (e ∷ past) j
pair_after past e j p = record {
  inner = p.inner;
  clause = p.clause;
  below = p.below;
  split = and_right (not (splits_node e.event p.inner)) (is_leaf past p.inner) p.split;
  left = child_after past e p.inner p.clause 1 (2 * j + 1) p.left;
  right = child_after past e p.inner p.clause 2 (2 * j + 2) p.right;
}

abbrev pub PairOf : List Entry → ℕ → ℕ → Type 0
PairOf past j m = (p : HasPair past j) × (p.inner ≡ m)

split_pair : (s : Setting) (past : List Entry) → IsLegalJournal s past → (w : ℕ) (ev : Event) (m j : ℕ) → IsAsked s past w ev → splits_node ev m ≡ true → nodes past ≡ 2 * j + 1 → PairOf (record { by = w; event = ev } ∷ past) j m
split_pair s past legal w (Split node lines put_off) m j p h odd =
    let count = nodes past in
    let q = eqb-true node m h in
    let low = split_there s past legal w node lines put_off p in
    let one = Some (branch_to node (subject lines) 1) in
    let two = Some (branch_to node (subject lines) 2) in
    let x = 2 * j + 1 in
    let y = 2 * j + 2 in (
      record {
        inner = node;
        clause = subject lines;
        below = omega arith;
        split = and_left (not (eqb node node)) (is_leaf past node) (ap not (eq-eqb node node refl));
        left = record { there = omega arith; hangs = cond-true (eqb x count) one (cond (eqb x (count + 1)) two (branch past x)) (eq-eqb x count (omega arith)) };
        right = record {
          there = omega arith;
          hangs = cond-false (eqb y count) one (cond (eqb y (count + 1)) two (branch past y)) (ne_eqb y count (λ r. omega arith)) ∙ cond-true (eqb y (count + 1)) two (branch past y) (eq-eqb y (count + 1) (omega arith));
        };
      },
      q,
    )
split_pair s past legal w _ m j p h odd = absurd (false≢true h)

some_split : (ev : Event) (count j : ℕ) → count ≤ 2 * j + 1 → 2 * j + 1 < count + nodes_of ev → (m : ℕ) × (splits_node ev m ≡ true) × (nodes_of ev ≡ 2)
some_split (Split node lines put_off) count j high there = (node, eq-eqb node node refl, refl)
some_split _ count j high there = absurd (omega arith)

-- each pair hangs at a node that was split
pub pair_at : (s : Setting) (past : List Entry) → IsLegalJournal s past → (j : ℕ) → 2 * j + 1 < nodes past → HasPair past j
pair_at s [] legal j there = absurd (omega arith)
pair_at s (e ∷ past) legal j there =
    let k = pairs past in
    elim (cases_lt (2 * j + 1) (nodes past)) [
      | inl low ↦ pair_after past e j (pair_at s past legal.1 j low)
      | inr high ↦
          let r = some_split e.event (nodes past) j high there in
          (split_pair s past legal.1 e.by e.event r.0 j legal.0.asked r.1 (omega (arith, k.1, r.2))).0
    ]

-- each node that was split has its pair
pub inner_pair : (s : Setting) (past : List Entry) → IsLegalJournal s past → (m : ℕ) → m < nodes past → is_leaf past m ≡ false → (j : ℕ) × (2 * j + 1 < nodes past) × PairOf past j m
unfolding pair_after
inner_pair s [] legal m there h = absurd (false≢true (sym h))
inner_pair s (e ∷ past) legal m there h =
    let k = pairs past in
    elim (and_cases (not (splits_node e.event m)) (is_leaf past m) h) [
      | inl now ↦
          let p = split_pair s past legal.1 e.by e.event m k.0 legal.0.asked (not-false (splits_node e.event m) now) k.1 in
          let c = p.0.left.there in
          (k.0, c, p)
      | inr old ↦ elim (cases_lt m (nodes past)) [
        | inl low ↦
            let r = inner_pair s past legal.1 m low old in
            let c = r.1 in
            (r.0, omega arith, (pair_after past e r.0 r.2.0, r.2.1))
        | inr high ↦ absurd (false≢true (sym old ∙ fresh_leaf s past legal.1 m high))
      ]
    ]
