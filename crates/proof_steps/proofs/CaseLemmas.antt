-- What the code of the rules on splits needs.
use Rattle.std.proofs.Common.{◌≡◌, inl, inr, ◌↔◌, ℕ, Bool, true, false, ◌&&◌, ◌==◌, if◌then◌else◌, IsTrue, List, [], ◌∷◌, map, not, length, Option, Some, None, option_map, option_and_then, refl, sym, ap, ◌∙◌}
use Rattle.std.proofs.lemmas.Bool.{false_from_ne_true, eqb-true, and_parts}
use Rattle.spl_terms.specs.declared.atom.Atom.{Atom}
use Rattle.spl_terms.specs.declared.clause.Clause.{Clause}
use Rattle.spl_terms.specs.Clauses.{no_atoms, is_empty, IsEmpty, in_order}
use Rattle.spl_truth.specs.Truth.{is_ground}
use Rattle.dep_sets.specs.declared.deps.Assumption.{Assumption}
use Rattle.dep_sets.specs.Assumptions.{united, without_assumption}
use Rattle.clause_parts.specs.Parts.{Parted, part_by, part_of_side, parted_by, left_marks, parts_of, negation, negated_atom}
use Rattle.clause_parts.specs.Sides.{part_marks, split_parts, assumed}
use Rattle.proof_steps.specs.declared.step.Statement.{Statement}
use Rattle.proof_steps.specs.Steps.{when, states, side_of, closes, assumption_of, ascend_within, without_parts, side_closed}
use Rattle.proof_steps.specs.SplitLaws.{AreBothSides, assumed_of_two, assumed_by_two, assumption_of-two, left_closed, right_closed}

-- ---- parts that are stated

left_stated : (c : Clause) (o : Option (List Bool)) (deps : List Assumption) → option_map (λ d. states (in_order d) deps) (option_map (part_by c) o) ≡ option_map (λ parts. states parts.left deps) (option_map (parted_by c) o)
left_stated c None deps = refl
left_stated c (Some marks) deps = refl

right_stated : (c : Clause) (o : Option (List Bool)) (deps : List Assumption) → option_map (λ d. states (in_order d) deps) (option_map (λ marks. part_by c (map not marks)) o) ≡ option_map (λ parts. states parts.right deps) (option_map (parted_by c) o)
right_stated c None deps = refl
right_stated c (Some marks) deps = refl

pub left_side : (c : Clause) (deps : List Assumption) → option_map (λ d. states (in_order d) deps) (part_of_side 1 c) ≡ option_map (λ parts. states parts.left deps) (parts_of c)
left_side c deps = left_stated c (left_marks c) deps

pub right_side : (c : Clause) (deps : List Assumption) → option_map (λ d. states (in_order d) deps) (part_of_side 2 c) ≡ option_map (λ parts. states parts.right deps) (parts_of c)
right_side c deps = right_stated c (left_marks c) deps

-- by the two parts
assumed_by_parts : (side : ℕ) (negated : Option ℕ) (c : Clause) (deps : List Assumption) → option_map (λ d. states d deps) (option_and_then (assumed side negated) (split_parts c)) ≡ option_map (λ d. states d deps) (option_and_then (assumed_of_two side negated) (parts_of c))
assumed_by_parts side negated c deps = ap (option_map (λ d. states d deps)) (assumed_by_two side negated c)

-- what is assumed of a side is its part in order
pub assumed_side : (side : ℕ) (c : Clause) (deps : List Assumption) → option_map (λ d. states (in_order d) deps) (part_of_side side c) ≡ option_map (λ d. states d deps) (option_and_then (assumed side None) (split_parts c))
assumed_side side c deps = by_tests (side == 1) (side == 2) (left_marks c) ∙ sym (assumed_by_parts side None c deps)
  where
    by_tests : (a b : Bool) (o : Option (List Bool)) → option_map (λ d. states (in_order d) deps) (if a then option_map (part_by c) o else (if b then option_map (λ marks. part_by c (map not marks)) o else None))
        ≡ option_map (λ d. states d deps) (option_and_then (λ (parts : Parted). if a then Some parts.left else (if b then Some parts.right else None)) (option_map (parted_by c) o))
    by_tests true b None = refl
    by_tests true b (Some marks) = refl
    by_tests false true None = refl
    by_tests false true (Some marks) = refl
    by_tests false false None = refl
    by_tests false false (Some marks) = refl

-- what is left where one side is closed is the part of the other one, in order
pub left_over : (split side other : ℕ) (r e : Statement) → AreBothSides side other → closes (side_of split side) e ≡ true
    → option_map (λ d. states (in_order d) (united (without_assumption (side_of split side) e.deps) r.deps)) (part_of_side other r.clause) ≡ side_closed split side r e
left_over split side other r e (inl (one, two)) closed =
    let a = side_of split 1 in
    let deps = united (without_assumption a e.deps) r.deps in
    let closed' : closes a e ≡ true = ap (λ n. closes (side_of split n) e) (sym one) ∙ closed in
    (λ i. option_map (λ d. states (in_order d) (united (without_assumption (side_of split (one i)) e.deps) r.deps)) (part_of_side (two i) r.clause))
    ∙ right_side r.clause deps
    ∙ sym (ap (λ b. if b then option_map (λ parts. states parts.right deps) (parts_of r.clause) else None) closed')
    ∙ sym (left_closed split r e)
    ∙ ap (λ n. side_closed split n r e) (sym one)
left_over split side other r e (inr (two, one)) closed =
    let a = side_of split 2 in
    let deps = united (without_assumption a e.deps) r.deps in
    let closed' : closes a e ≡ true = ap (λ n. closes (side_of split n) e) (sym two) ∙ closed in
    (λ i. option_map (λ d. states (in_order d) (united (without_assumption (side_of split (two i)) e.deps) r.deps)) (part_of_side (one i) r.clause))
    ∙ left_side r.clause deps
    ∙ sym (ap (λ b. if b then option_map (λ parts. states parts.left deps) (parts_of r.clause) else None) closed')
    ∙ sym (right_closed split r e)
    ∙ ap (λ n. side_closed split n r e) (sym two)

-- where it isn't closed, nothing is concluded
pub not_closed : (split side : ℕ) (r e : Statement) → closes (side_of split side) e ≡ false → None ≡ side_closed split side r e
not_closed split side r e open' = by_marks (part_marks r.clause)
  where
    by_tests : (a b : Bool) (marks : List (List Bool)) → b ≡ false → None ≡ when (a && b) (states (without_parts marks (side ∷ []) r.clause) (united (without_assumption (side_of split side) e.deps) r.deps))
    by_tests true b marks h = ap (λ t. when t (states (without_parts marks (side ∷ []) r.clause) (united (without_assumption (side_of split side) e.deps) r.deps))) (sym h)
    by_tests false b marks h = refl

    by_marks : (o : Option (List (List Bool))) → None ≡ option_and_then (λ marks. when (ascend_within 0 (length marks) (side ∷ []) && closes (side_of split side) e) (states (without_parts marks (side ∷ []) r.clause) (united (without_assumption (side_of split side) e.deps) r.deps))) o
    by_marks None = refl
    by_marks (Some marks) = by_tests (ascend_within 0 (length marks) (side ∷ [])) (closes (side_of split side) e) marks open'

pub ruleset sides = (assumed_side, left_over, not_closed)

-- ---- negations

pub no_negation : (number : ℕ) (c : Clause) → None ≡ part_of_side 1 c → None ≡ option_and_then (assumed_of_two 2 (Some number)) (parts_of c)
no_negation number c e = by_marks (left_marks c) e
  where
    by_marks : (o : Option (List Bool)) → None ≡ option_map (part_by c) o → None ≡ option_and_then (assumed_of_two 2 (Some number)) (option_map (parted_by c) o)
    by_marks None f = refl
    by_marks (Some marks) f = absurd (cc)

pub ground_negation : (number : ℕ) (c part left : Clause) → Some part ≡ part_of_side 1 c → left ≡ in_order part → is_ground left ≡ true → option_map in_order (negation number left) ≡ option_and_then (assumed_of_two 2 (Some number)) (parts_of c)
ground_negation number c part left e f g = by_marks (left_marks c) e
  where
    by_marks : (o : Option (List Bool)) → Some part ≡ option_map (part_by c) o → option_map in_order (negation number left) ≡ option_and_then (assumed_of_two 2 (Some number)) (option_map (parted_by c) o)
    by_marks None h = absurd (cc)
    by_marks (Some marks) h =
        let same : part ≡ part_by c marks = cc in
        let is : left ≡ in_order (part_by c marks) = f ∙ ap in_order same in
        ap (λ d. negated_atom number d) is ∙ sym (ap (λ b. if b then negated_atom number (in_order (part_by c marks)) else None) (ap is_ground (sym is) ∙ g))

pub variables_negation : (number : ℕ) (c part left : Clause) → Some part ≡ part_of_side 1 c → left ≡ in_order part → is_ground left ≡ false → None ≡ option_and_then (assumed_of_two 2 (Some number)) (parts_of c)
variables_negation number c part left e f g = by_marks (left_marks c) e
  where
    by_marks : (o : Option (List Bool)) → Some part ≡ option_map (part_by c) o → None ≡ option_and_then (assumed_of_two 2 (Some number)) (option_map (parted_by c) o)
    by_marks None h = refl
    by_marks (Some marks) h =
        let same : part ≡ part_by c marks = cc in
        let is : left ≡ in_order (part_by c marks) = f ∙ ap in_order same in
        sym (ap (λ b. if b then negated_atom number (in_order (part_by c marks)) else None) (ap is_ground (sym is) ∙ g))

pub ruleset negations = (no_negation, ground_negation, variables_negation)

-- what is assumed on the right side is a negation, in order
pub negation_stated : (split number : ℕ) (r : Statement) (o : Option Clause) → option_map in_order o ≡ option_and_then (assumed_of_two 2 (Some number)) (parts_of r.clause)
    → option_map (λ d. states (in_order d) (side_of split 2 ∷ [])) o ≡ assumption_of split 2 (Some number) r
negation_stated split number r o e =
    each_stated o
    ∙ ap (option_map (λ d. states d (side_of split 2 ∷ []))) e
    ∙ sym (assumption_of-two split 2 (Some number) r)
  where
    each_stated : (o : Option Clause) → option_map (λ d. states (in_order d) (side_of split 2 ∷ [])) o ≡ option_map (λ d. states d (side_of split 2 ∷ [])) (option_map in_order o)
    each_stated None = refl
    each_stated (Some c) = refl

-- the left side has no negations
pub left_not_negated : (split side number : ℕ) (r : Statement) → (side ≡ 2 → ⊥) → None ≡ assumption_of split side (Some number) r
left_not_negated split side number r apart = by_test (side == 2) refl (parts_of r.clause) ∙ sym (assumption_of-two split side (Some number) r)
  where
    by_test : (t : Bool) → (side == 2) ≡ t → (o : Option Parted) → None ≡ option_map (λ c. states c (side_of split side ∷ [])) (option_and_then (λ (parts : Parted). if t && parts.left_ground then negated_atom number parts.left else None) o)
    by_test true e o = absurd (apart (eqb-true side 2 e))
    by_test false e None = refl
    by_test false e (Some parts) = refl

-- ---- the empty clause

pub empty_is : (c : Clause) → IsEmpty c → c ≡ record { constraint = []; antecedent = []; succedent = [] }
empty_is c e = λ i. record { constraint = e.0 i; antecedent = e.1 i; succedent = e.2 i }

no_atoms-true : (atoms : List Atom) → no_atoms atoms ≡ true → atoms ≡ []
no_atoms-true [] e = refl
no_atoms-true (a ∷ atoms) e = absurd (cc)

pub is_empty-true : (c : Clause) → is_empty c ≡ true → IsEmpty c
is_empty-true c e =
    let p = and_parts (no_atoms c.constraint && no_atoms c.antecedent) (no_atoms c.succedent) e in
    let q = and_parts (no_atoms c.constraint) (no_atoms c.antecedent) p.0 in
    (no_atoms-true c.constraint q.0, no_atoms-true c.antecedent q.1, no_atoms-true c.succedent p.1)

pub empty_told : (b : Bool) (c : Clause) → (IsTrue b ↔ IsEmpty c) → b ≡ is_empty c
empty_told true c e = sym (ap is_empty (empty_is c (e.0 refl)))
empty_told false c e = sym (false_from_ne_true (is_empty c) (λ h. let t = e.1 (is_empty-true c h) in absurd (cc)))
