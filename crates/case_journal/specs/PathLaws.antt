-- Laws that carry proofs, and no definitions that a reader must believe: paths, as they grow.
use Rattle.std.proofs.Common.{◌≡◌, ℕ, ◌<◌, ◌≤◌, inl, inr, Bool, true, false, cond, not, ◌||◌, eqb, leb, List, [], ◌∷◌, refl, sym, ◌∙◌, ap, arith, eq-eqb}
use Rattle.std.proofs.lemmas.Bool.{le-leb, lt-leb, or_cases, or_left, or_from, and_parts, eqb-true, ne_eqb, cases_Bool, cond-true, cond-false, false≢true}
use Rattle.case_journal.specs.declared.event.Entry.{Entry}
use Rattle.case_journal.specs.declared.event.Event.{Event}
use Rattle.case_journal.specs.declared.event.Event.TheVariants.{Split}
use Rattle.case_journal.specs.Journal.{Setting, nodes}
use Rattle.case_journal.specs.Paths.{stem, on_path, is_leaf, splits_node}
use Rattle.case_journal.specs.Legal.{IsLegalJournal}
use Rattle.case_journal.specs.PlaceLaws.{stem_there}

pub or_absorb : (x y : Bool) → (x ≡ true → y ≡ true) → (x || y) ≡ y
or_absorb true y h = sym (h refl)
or_absorb false y h = refl

pub or_no : (x : Bool) → (x || false) ≡ x
or_no true = refl
or_no false = refl

pub on_path-self : (past : List Entry) (m : ℕ) → on_path past m m ≡ true
on_path-self [] m = eq-eqb m m refl
on_path-self (e ∷ past) m = or_left (eqb m m) (on_path past (stem e.event (nodes past) m) m) (eq-eqb m m refl)

stem_low : (node count m : ℕ) → m < count → cond (leb count m) node m ≡ m
stem_low node count m h = cond-false (leb count m) node m (lt-leb count m h)

pub stem_high : (node count m : ℕ) → count ≤ m → cond (leb count m) node m ≡ node
stem_high node count m h = cond-true (leb count m) node m (le-leb count m h)

pub stem_old : (ev : Event) (count m : ℕ) → m < count → stem ev count m ≡ m
stem_old (Split node lines put_off) count m h = stem_low node count m h
stem_old _ count m h = refl

-- what is on a path is a node
pub on_path_within : (s : Setting) (past : List Entry) → IsLegalJournal s past → (m n : ℕ) → m < nodes past → on_path past m n ≡ true → n < nodes past
on_path_within s [] legal m n there h = let q = eqb-true n m h in omega arith
on_path_within s (e ∷ past) legal m n there h =
    elim (or_cases (eqb n m) (on_path past (stem e.event (nodes past) m) n) h) [
      | inl l ↦ let q = eqb-true n m l in omega arith
      | inr r ↦ let q = on_path_within s past legal.1 (stem e.event (nodes past) m) n (stem_there s past legal.1 e.by e.event m legal.0.asked there) r in omega arith
    ]

-- an older node is on the path exactly where it was on that of the stem
pub on_path_grow : (past : List Entry) (e : Entry) (m n : ℕ) → n < nodes past → on_path (e ∷ past) m n ≡ on_path past (stem e.event (nodes past) m) n
on_path_grow past e m n old = or_absorb (eqb n m) (on_path past (stem e.event (nodes past) m) n)
    (λ h. let q = eqb-true n m h in
    let low : m < nodes past = omega arith in
    let same = stem_old e.event (nodes past) m low in
    ap (λ x. on_path past x n) same ∙ (ap (λ x. on_path past m x) q ∙ on_path-self past m))

pub nodes_some : (past : List Entry) → 1 ≤ nodes past
nodes_some [] = omega arith
nodes_some (e ∷ past) = omega (arith, nodes_some past)

-- nothing but the root is on the path of the root
pub on_path_root : (s : Setting) (past : List Entry) → IsLegalJournal s past → (n : ℕ) → (n ≡ 0 → ⊥) → on_path past 0 n ≡ false
on_path_root s [] legal n other = ne_eqb n 0 other
on_path_root s (e ∷ past) legal n other =
    or_from (eqb n 0) (on_path past (stem e.event (nodes past) 0) n) (ne_eqb n 0 other)
    (ap (λ x. on_path past x n) (stem_old e.event (nodes past) 0 (omega (arith, nodes_some past))) ∙ on_path_root s past legal.1 n other)

-- ---- leaves

pub not_true : (b : Bool) → not b ≡ true → b ≡ true → ⊥
not_true true h e = false≢true h
not_true false h e = false≢true e

leaf_stem : (ev : Event) (count m n : ℕ) → not (splits_node ev n) ≡ true → n ≡ stem ev count m → n ≡ m
leaf_stem (Split node lines put_off) count m n h e =
    elim (cases_Bool (leb count m)) [
      | inl new ↦ absurd (not_true (eqb node n) h (eq-eqb node n (sym (e ∙ cond-true (leb count m) node m new))))
      | inr old ↦ e ∙ cond-false (leb count m) node m old
    ]
leaf_stem _ count m n h e = e

-- a leaf is on no path but its own
pub leaf_path : (s : Setting) (past : List Entry) → IsLegalJournal s past → (m n : ℕ) → m < nodes past → is_leaf past n ≡ true → on_path past m n ≡ true → n ≡ m
leaf_path s [] legal m n there leaf h = eqb-true n m h
leaf_path s (e ∷ past) legal m n there leaf h =
    let parts = and_parts (not (splits_node e.event n)) (is_leaf past n) leaf in
    elim (or_cases (eqb n m) (on_path past (stem e.event (nodes past) m) n) h) [
      | inl l ↦ eqb-true n m l
      | inr r ↦ leaf_stem e.event (nodes past) m n parts.0 (leaf_path s past legal.1 (stem e.event (nodes past) m) n (stem_there s past legal.1 e.by e.event m legal.0.asked there) parts.1 r)
    ]
