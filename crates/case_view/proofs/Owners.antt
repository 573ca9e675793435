-- The nodes of a path with what is assumed there give the owner of each statement.
use Rattle.std.proofs.Common.{◌≡◌, ℕ, ◌+◌, ◌<◌, inl, inr, Bool, true, false, cond, ◌||◌, ◌&&◌, eqb, leb, List, [], ◌∷◌, ◌++◌, length, refl, sym, ◌∙◌, ap, arith, eq-eqb, length-append}
use Rattle.std.proofs.lemmas.Bool.{ne_eqb, cases_lt, cond-true, cond-false, le-leb, lt-leb}
use Rattle.dep_sets.specs.declared.deps.Assumption.{Assumption}
use Rattle.dep_sets.specs.Assumptions.{contains_assumption}
use Rattle.proof_steps.specs.Steps.{side_of}
use Rattle.case_journal.specs.declared.event.Entry.{Entry}
use Rattle.case_journal.specs.declared.event.Event.{Event}
use Rattle.case_journal.specs.declared.event.Event.TheVariants.{Split}
use Rattle.case_journal.specs.Journal.{Setting, nodes, nodes_of}
use Rattle.case_journal.specs.Paths.{stem, owner, owner_by, subject}
use Rattle.case_journal.specs.Legal.{IsLegalJournal}
use Rattle.case_journal.specs.PlaceLaws.{stem_there}
use Rattle.case_view.specs.Views.{path_by, path_nodes, sides_by, path_sides, owner_among, owner_on}

-- as many nodes below the root as assumptions
abbrev Fits : List ℕ → List Assumption → Type 0
Fits ns path = length ns ≡ length path + 1

among_last : (at : ℕ) (ns : List ℕ) (path : List Assumption) (m : ℕ) (a : Assumption) (deps : List Assumption) → length ns ≡ length path
    → owner_among at (ns ++ m ∷ []) (path ++ a ∷ []) deps ≡ cond (contains_assumption deps a) m (owner_among at ns path deps)
among_last at [] [] m a deps h = refl
among_last at [] (x ∷ path) m a deps h = absurd (omega (arith, h))
among_last at (n ∷ ns) [] m a deps h = absurd (omega (arith, h))
among_last at (n ∷ ns) (x ∷ path) m a deps h = among_last (cond (contains_assumption deps x) n at) ns path m a deps (omega (arith, h))

on_last : (ns : List ℕ) (path : List Assumption) (m : ℕ) (a : Assumption) (deps : List Assumption) → Fits ns path → owner_on (ns ++ m ∷ []) (path ++ a ∷ []) deps ≡ cond (contains_assumption deps a) m (owner_on ns path deps)
on_last [] path m a deps h = absurd (omega (arith, h))
on_last (root ∷ ns) path m a deps h = among_last root ns path m a deps (omega (arith, h))

record IsOwnerOn (past : List Entry) (deps : List Assumption) (m : ℕ) : Type 0 where
  pub fits : Fits (path_nodes past m) (path_sides past m)
  pub is : owner past deps m ≡ owner_on (path_nodes past m) (path_sides past m) deps

-- a new node, whose side is assumed there
owner_side : (count m o : ℕ) (left right : Bool) → ((m ≡ count) × (left ≡ left)) → cond ((eqb m count && left) || (eqb m (count + 1) && right)) m o ≡ cond left m o
owner_side count m o left right h = by (eqb m count) (eqb m (count + 1)) (eq-eqb m count h.0) (ne_eqb m (count + 1) (λ q. omega (arith, q, h.0))) left
  where
    by : (x y : Bool) → x ≡ true → y ≡ false → (left : Bool) → cond ((x && left) || (y && right)) m o ≡ cond left m o
    by true false e f true = refl
    by true false e f false = refl
    by true true e f left = absurd (cc)
    by false y e f left = absurd (cc)

owner_other : (count m o : ℕ) (left right : Bool) → m ≡ count + 1 → cond ((eqb m count && left) || (eqb m (count + 1) && right)) m o ≡ cond right m o
owner_other count m o left right h = by (eqb m count) (eqb m (count + 1)) (ne_eqb m count (λ q. omega (arith, q, h))) (eq-eqb m (count + 1) h)
  where
    by : (x y : Bool) → x ≡ false → y ≡ true → cond ((x && left) || (y && right)) m o ≡ cond right m o
    by false true e f = refl
    by false false e f = absurd (cc)
    by true y e f = absurd (cc)

owner_none : (count m o : ℕ) (left right : Bool) → m < count → cond ((eqb m count && left) || (eqb m (count + 1) && right)) m o ≡ o
owner_none count m o left right low = by (eqb m count) (eqb m (count + 1)) (ne_eqb m count (λ q. omega (arith, q, low))) (ne_eqb m (count + 1) (λ q. omega (arith, q, low)))
  where
    by : (x y : Bool) → x ≡ false → y ≡ false → cond ((x && left) || (y && right)) m o ≡ o
    by false false e f = refl
    by false true e f = absurd (cc)
    by true y e f = absurd (cc)

by_event : (ev : Event) (count m : ℕ) (ns : List ℕ) (path deps : List Assumption) (o : ℕ) → m < count + nodes_of ev → Fits ns path → o ≡ owner_on ns path deps
    → Fits (path_by ev count m ns) (sides_by ev count m path) × (owner_by ev count deps m o ≡ owner_on (path_by ev count m ns) (sides_by ev count m path) deps)
by_event (Split node lines put_off) count m ns path deps o there fits is =
    let left = side_of (subject lines) 1 in
    let right = side_of (subject lines) 2 in
    let has_left = contains_assumption deps left in
    let has_right = contains_assumption deps right in
    elim (cases_lt m count) [
      | inl low ↦
          let nodes_is : cond (leb count m) (ns ++ m ∷ []) ns ≡ ns = cond-false (leb count m) (ns ++ m ∷ []) ns (lt-leb count m low) in
          let sides_is : cond (eqb m count) (path ++ left ∷ []) (cond (eqb m (count + 1)) (path ++ right ∷ []) path) ≡ path =
          cond-false (eqb m count) (path ++ left ∷ []) (cond (eqb m (count + 1)) (path ++ right ∷ []) path) (ne_eqb m count (λ q. omega (arith, q, low)))
          ∙ cond-false (eqb m (count + 1)) (path ++ right ∷ []) path (ne_eqb m (count + 1) (λ q. omega (arith, q, low))) in (
            ap length nodes_is ∙ (fits ∙ ap (λ xs. length xs + 1) (sym sides_is)),
            owner_none count m o has_left has_right low ∙ (is ∙ (ap (λ xs. owner_on xs path deps) (sym nodes_is) ∙ ap (λ xs. owner_on (cond (leb count m) (ns ++ m ∷ []) ns) xs deps) (sym sides_is))),
          )
      | inr high ↦
          let nodes_is : cond (leb count m) (ns ++ m ∷ []) ns ≡ ns ++ m ∷ [] = cond-true (leb count m) (ns ++ m ∷ []) ns (le-leb count m high) in
          elim (cases_lt m (count + 1)) [
            | inl less ↦
                let at : m ≡ count = omega (arith, high, less) in
                let sides_is : cond (eqb m count) (path ++ left ∷ []) (cond (eqb m (count + 1)) (path ++ right ∷ []) path) ≡ path ++ left ∷ [] =
                cond-true (eqb m count) (path ++ left ∷ []) (cond (eqb m (count + 1)) (path ++ right ∷ []) path) (eq-eqb m count at) in (
                  ap length nodes_is ∙ (omega (arith, fits, length-append ns (m ∷ []), length-append path (left ∷ [])) ∙ ap (λ xs. length xs + 1) (sym sides_is)),
                  owner_side count m o has_left has_right (at, refl)
                      ∙ (ap (cond has_left m) is ∙ (sym (on_last ns path m left deps fits) ∙ (ap (λ xs. owner_on xs (path ++ left ∷ []) deps) (sym nodes_is) ∙ ap (λ xs. owner_on (cond (leb count m) (ns ++ m ∷ []) ns) xs deps) (sym sides_is)))),
                )
            | inr more ↦
                let at : m ≡ count + 1 = omega (arith, more, there) in
                let sides_is : cond (eqb m count) (path ++ left ∷ []) (cond (eqb m (count + 1)) (path ++ right ∷ []) path) ≡ path ++ right ∷ [] =
                cond-false (eqb m count) (path ++ left ∷ []) (cond (eqb m (count + 1)) (path ++ right ∷ []) path) (ne_eqb m count (λ q. omega (arith, q, at)))
                ∙ cond-true (eqb m (count + 1)) (path ++ right ∷ []) path (eq-eqb m (count + 1) at) in (
                  ap length nodes_is ∙ (omega (arith, fits, length-append ns (m ∷ []), length-append path (right ∷ [])) ∙ ap (λ xs. length xs + 1) (sym sides_is)),
                  owner_other count m o has_left has_right at
                      ∙ (ap (cond has_right m) is ∙ (sym (on_last ns path m right deps fits) ∙ (ap (λ xs. owner_on xs (path ++ right ∷ []) deps) (sym nodes_is) ∙ ap (λ xs. owner_on (cond (leb count m) (ns ++ m ∷ []) ns) xs deps) (sym sides_is)))),
                )
          ]
    ]
by_event _ count m ns path deps o there fits is = (fits, is)

owner_is : (s : Setting) (past : List Entry) → IsLegalJournal s past → (deps : List Assumption) (m : ℕ) → m < nodes past → IsOwnerOn past deps m
owner_is s [] legal deps m there = record { fits = refl; is = omega (arith, there) }
owner_is s (e ∷ past) legal deps m there =
    let up = stem e.event (nodes past) m in
    let h = owner_is s past legal.1 deps up (stem_there s past legal.1 e.by e.event m legal.0.asked there) in
    let r = by_event e.event (nodes past) m (path_nodes past up) (path_sides past up) deps (owner past deps up) there h.fits h.is in
    record { fits = r.0; is = r.1 }

pub path_owner : (s : Setting) (past : List Entry) → IsLegalJournal s past → (deps : List Assumption) (m : ℕ) → m < nodes past → owner past deps m ≡ owner_on (path_nodes past m) (path_sides past m) deps
path_owner s past legal deps m there = (owner_is s past legal deps m there).is
