-- What is assumed on the path of a leaf tells which clauses were split there.
use Rattle.std.proofs.Common.{◌≡◌, ℕ, ◌+◌, ◌<◌, inl, inr, Bool, true, false, not, cond, ◌||◌, ◌&&◌, eqb, leb, List, [], ◌∷◌, ◌++◌, refl, sym, ◌∙◌, ap, arith, eq-eqb}
use Rattle.std.proofs.lemmas.Bool.{ne_eqb, cases_Bool, cases_lt, cond-true, cond-false, and_parts}
use Rattle.std.proofs.lemmas.List.Folds.{list_any-append}
use Rattle.dep_sets.specs.declared.deps.Assumption.{Assumption}
use Rattle.proof_steps.specs.declared.step.Line.{Line}
use Rattle.proof_steps.specs.Steps.{side_of}
use Rattle.case_journal.specs.declared.event.Entry.{Entry}
use Rattle.case_journal.specs.declared.event.Event.{Event}
use Rattle.case_journal.specs.declared.event.Event.TheVariants.{Split}
use Rattle.case_journal.specs.Journal.{Setting, nodes, nodes_of}
use Rattle.case_journal.specs.Paths.{stem, on_path, subject, is_leaf, splits_node}
use Rattle.case_journal.specs.Facts.{split, splits_clause}
use Rattle.case_journal.specs.Legal.{IsAsked, IsLegalJournal}
use Rattle.case_journal.specs.PathLaws.{stem_high, stem_old, on_path-self, leaf_path, not_true}
use Rattle.case_journal.specs.PlaceLaws.{split_there}
use Rattle.case_view.specs.Views.{sides_by, path_sides, is_split_on}

-- what holds of the leaves before the event
abbrev ArePathSplits : List Entry → ℕ → Type 0
ArePathSplits past i = (m : ℕ) → m < nodes past → is_leaf past m ≡ true → split past m i ≡ is_split_on (path_sides past m) i

-- the clause was split by the event at a node of the path of u, or before
abbrev split_after : List Entry → ℕ → List Line → ℕ → ℕ → Bool
split_after past node lines i u = (on_path past u node && eqb (subject lines) i) || split past u i

abbrev sides_after : List Entry → List Line → ℕ → ℕ → List Assumption
sides_after past lines m u =
    cond (eqb m (nodes past)) (path_sides past u ++ side_of (subject lines) 1 ∷ [])
    (cond (eqb m (nodes past + 1)) (path_sides past u ++ side_of (subject lines) 2 ∷ []) (path_sides past u))

swapped : (a b : Bool) → (a || b) ≡ (b || (a || false))
swapped true true = refl
swapped true false = refl
swapped false true = refl
swapped false false = refl

unsplit_path : (s : Setting) (past : List Entry) → IsLegalJournal s past → (m node : ℕ) → m < nodes past → not (eqb node m) ≡ true → is_leaf past node ≡ true → on_path past m node ≡ false
unsplit_path s past legal m node low other leaf = elim (cases_Bool (on_path past m node)) [
  | inl on ↦ absurd (not_true (eqb node m) other (eq-eqb node m (leaf_path s past legal m node low leaf on)))
  | inr off ↦ off
]

-- a side is added
with_side : (past : List Entry) (node i side : ℕ) (lines : List Line) → split past node i ≡ is_split_on (path_sides past node) i
    → split_after past node lines i node ≡ is_split_on (path_sides past node ++ side_of (subject lines) side ∷ []) i
with_side past node i side lines h =
    ap (λ b. (b && eqb (subject lines) i) || split past node i) (on_path-self past node)
    ∙ (ap (λ b. eqb (subject lines) i || b) h
    ∙ (swapped (eqb (subject lines) i) (is_split_on (path_sides past node) i)
    ∙ sym (list_any-append (λ (a : Assumption). eqb a.split i) (path_sides past node) (side_of (subject lines) side ∷ []))))

by_split : (s : Setting) (past : List Entry) → IsLegalJournal s past → (node : ℕ) (lines : List Line) (m i : ℕ) → m < nodes past + 2 → not (eqb node m) ≡ true → is_leaf past m ≡ true → node < nodes past → is_leaf past node ≡ true → ArePathSplits past i
    → (u : ℕ) → u ≡ cond (leb (nodes past) m) node m → split_after past node lines i u ≡ is_split_on (sides_after past lines m u) i
by_split s past legal node lines m i there other leaf low split_leaf h u is = elim (cases_lt m (nodes past)) [
  | inl less ↦
      let at : u ≡ m = is ∙ stem_old (Split node lines []) (nodes past) m less in
      let off = ap (λ b. (b && eqb (subject lines) i) || split past m i) (unsplit_path s past legal m node less other split_leaf) in
      let sides : sides_after past lines m m ≡ path_sides past m =
      cond-false (eqb m (nodes past)) (path_sides past m ++ side_of (subject lines) 1 ∷ []) (cond (eqb m (nodes past + 1)) (path_sides past m ++ side_of (subject lines) 2 ∷ []) (path_sides past m)) (ne_eqb m (nodes past) (λ q. omega (arith, q, less)))
      ∙ cond-false (eqb m (nodes past + 1)) (path_sides past m ++ side_of (subject lines) 2 ∷ []) (path_sides past m) (ne_eqb m (nodes past + 1) (λ q. omega (arith, q, less))) in
      ap (split_after past node lines i) at ∙ (off ∙ (h m less leaf ∙ (ap (λ path. is_split_on path i) (sym sides) ∙ ap (λ x. is_split_on (sides_after past lines m x) i) (sym at))))
  | inr high ↦
      let at : u ≡ node = is ∙ stem_high node (nodes past) m high in
      elim (cases_lt m (nodes past + 1)) [
        | inl less ↦
            let here : m ≡ nodes past = omega (arith, high, less) in
            let sides : sides_after past lines m node ≡ path_sides past node ++ side_of (subject lines) 1 ∷ [] =
            cond-true (eqb m (nodes past)) (path_sides past node ++ side_of (subject lines) 1 ∷ []) (cond (eqb m (nodes past + 1)) (path_sides past node ++ side_of (subject lines) 2 ∷ []) (path_sides past node)) (eq-eqb m (nodes past) here) in
            ap (split_after past node lines i) at ∙ (with_side past node i 1 lines (h node low split_leaf) ∙ (ap (λ path. is_split_on path i) (sym sides) ∙ ap (λ x. is_split_on (sides_after past lines m x) i) (sym at)))
        | inr more ↦
            let here : m ≡ nodes past + 1 = omega (arith, more, there) in
            let sides : sides_after past lines m node ≡ path_sides past node ++ side_of (subject lines) 2 ∷ [] =
            cond-false (eqb m (nodes past)) (path_sides past node ++ side_of (subject lines) 1 ∷ []) (cond (eqb m (nodes past + 1)) (path_sides past node ++ side_of (subject lines) 2 ∷ []) (path_sides past node)) (ne_eqb m (nodes past) (λ q. omega (arith, q, here)))
            ∙ cond-true (eqb m (nodes past + 1)) (path_sides past node ++ side_of (subject lines) 2 ∷ []) (path_sides past node) (eq-eqb m (nodes past + 1) here) in
            ap (split_after past node lines i) at ∙ (with_side past node i 2 lines (h node low split_leaf) ∙ (ap (λ path. is_split_on path i) (sym sides) ∙ ap (λ x. is_split_on (sides_after past lines m x) i) (sym at)))
      ]
]

by_event : (s : Setting) (past : List Entry) → IsLegalJournal s past → (w : ℕ) (ev : Event) (m i : ℕ) → IsAsked s past w ev → m < nodes past + nodes_of ev → not (splits_node ev m) ≡ true → is_leaf past m ≡ true → ArePathSplits past i
    → (splits_clause ev (on_path past (stem ev (nodes past) m)) i || split past (stem ev (nodes past) m) i) ≡ is_split_on (sides_by ev (nodes past) m (path_sides past (stem ev (nodes past) m))) i
by_event s past legal w (Split node lines put_off) m i p there other leaf h =
    by_split s past legal node lines m i there other leaf (split_there s past legal w node lines put_off p) p.asked.holds.leaf h (cond (leb (nodes past) m) node m) refl
by_event s past legal w _ m i p there other leaf h = h m (omega (arith, there)) leaf

pub path_splits : (s : Setting) (past : List Entry) → IsLegalJournal s past → (m i : ℕ) → m < nodes past → is_leaf past m ≡ true → split past m i ≡ is_split_on (path_sides past m) i
path_splits s [] legal m i there leaf = refl
path_splits s (e ∷ past) legal m i there leaf =
    let parts = and_parts (not (splits_node e.event m)) (is_leaf past m) leaf in
    by_event s past legal.1 e.by e.event m i legal.0.asked there parts.0 parts.1 (λ n low free. path_splits s past legal.1 n i low free)
