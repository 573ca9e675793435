-- Laws with their proofs, not definitions that a reader must believe: what is assumed, and what is left where sides are closed, for
-- a split into the left part and the right part.
use Rattle.std.proofs.Common.{◌≡◌, ◌⊎◌, ℕ, zero, suc, ◌+◌, Bool, true, false, not, ◌&&◌, ◌==◌, if◌then◌else◌, List, [], ◌∷◌, ◌++◌, length, map, take, drop, Option, Some, None, option_map, option_and_then, refl, sym, ap, ◌∙◌, arith, append-nil, slice_get}
use Rattle.std.specs.List.{list_all}
use Rattle.std.proofs.lemmas.Option.{none-some}
use Rattle.std.proofs.lemmas.Bool.{ne_eqb, and_parts, false≢true}
use Rattle.spl_terms.specs.declared.clause.Clause.{Clause}
use Rattle.spl_terms.specs.Clauses.{in_order}
use Rattle.dep_sets.specs.declared.deps.Assumption.{Assumption}
use Rattle.dep_sets.specs.Assumptions.{united, without_assumption}
use Rattle.clause_parts.specs.Parts.{Parted, marked, part_by, left_marks, parted_by, parts_of, negated_atom}
use Rattle.clause_parts.specs.Sides.{split_parts, negations, assumed}
use Rattle.clause_parts.specs.SideLaws.{two_parts, split_parts-two, negations-get}
use Rattle.proof_steps.specs.declared.step.Statement.{Statement}
use Rattle.proof_steps.specs.Steps.{when, states, side_of, closes, assumption_of, ascend_within, are_closed, closed_deps, either_marked, without_parts, by_cases, side_closed, both_closed}

-- ---- what is assumed

-- the left part; the right part; or the negation of an atom of a left part without variables
abbrev pub assumed_of_two : ℕ → Option ℕ → Parted → Option Clause
assumed_of_two side None parts = if side == 1 then Some parts.left else (if side == 2 then Some parts.right else None)
assumed_of_two side (Some k) parts = if (side == 2) && parts.left_ground then negated_atom k parts.left else None

negated_right : (k : ℕ) (ground : Bool) (left : Clause) → slice_get ((if ground then negations left else []) ++ []) k ≡ (if ground then negated_atom k left else None)
negated_right k true left = ap (λ xs. slice_get xs k) (append-nil (negations left)) ∙ negations-get left k
negated_right k false left = refl

pub assumed-two : (side : ℕ) (negated : Option ℕ) (parts : Parted) → assumed side negated (two_parts parts) ≡ assumed_of_two side negated parts
assumed-two zero None parts = refl
assumed-two (suc zero) None parts = refl
assumed-two (suc (suc zero)) None parts = refl
assumed-two (suc (suc (suc k))) None parts =
    sym (ap (λ b. if b then Some parts.left else (if suc (suc (suc k)) == 2 then Some parts.right else None)) (ne_eqb (suc (suc (suc k))) 1 (λ e. omega (arith, e)))
    ∙ ap (λ b. if b then Some parts.right else None) (ne_eqb (suc (suc (suc k))) 2 (λ e. omega (arith, e))))
assumed-two zero (Some n) parts = refl
assumed-two (suc zero) (Some n) parts = refl
assumed-two (suc (suc zero)) (Some n) parts = negated_right n parts.left_ground parts.left
assumed-two (suc (suc (suc k))) (Some n) parts = sym (ap (λ b. if b && parts.left_ground then negated_atom n parts.left else None) (ne_eqb (suc (suc (suc k))) 2 (λ e. omega (arith, e))))

-- what is assumed on a side of a clause, by its two parts
pub assumed_by_two : (side : ℕ) (negated : Option ℕ) (c : Clause) → option_and_then (assumed side negated) (split_parts c) ≡ option_and_then (assumed_of_two side negated) (parts_of c)
assumed_by_two side negated c = ap (option_and_then (assumed side negated)) (split_parts-two c) ∙ by_parts (parts_of c)
  where
    by_parts : (o : Option Parted) → option_and_then (assumed side negated) (option_map two_parts o) ≡ option_and_then (assumed_of_two side negated) o
    by_parts None = refl
    by_parts (Some parts) = assumed-two side negated parts

pub assumption_of-two : (split side : ℕ) (negated : Option ℕ) (r : Statement) → assumption_of split side negated r ≡ option_map (λ c. states c (side_of split side ∷ [])) (option_and_then (assumed_of_two side negated) (parts_of r.clause))
assumption_of-two split side negated r = ap (option_map (λ c. states c (side_of split side ∷ []))) (assumed_by_two side negated r.clause)

-- ---- one closed side

-- one is the left side, and the other one the right side
abbrev pub AreBothSides : ℕ → ℕ → Type 0
AreBothSides side other = (side ≡ 1) × (other ≡ 2) ⊎ (side ≡ 2) × (other ≡ 1)

no_more : (marks : List Bool) → either_marked marks [] ≡ marks
no_more [] = refl
no_more (m ∷ marks) = refl

not-not : (marks : List Bool) → map not (map not marks) ≡ marks
not-not [] = refl
not-not (true ∷ marks) = ap (λ ms. true ∷ ms) (not-not marks)
not-not (false ∷ marks) = ap (λ ms. false ∷ ms) (not-not marks)

-- where the left side is closed, the right part is left
pub left_closed : (split : ℕ) (r e : Statement) → side_closed split 1 r e
    ≡ (if closes (side_of split 1) e then option_map (λ parts. states parts.right (united (without_assumption (side_of split 1) e.deps) r.deps)) (parts_of r.clause) else None)
left_closed split r e = by_marks (left_marks r.clause) (closes (side_of split 1) e)
  where
    by_marks : (o : Option (List Bool)) (t : Bool) →
        option_and_then (λ marks. when (ascend_within 0 (length marks) (1 ∷ []) && t) (states (without_parts marks (1 ∷ []) r.clause) (united (without_assumption (side_of split 1) e.deps) r.deps))) (option_map (λ marks. marks ∷ map not marks ∷ []) o)
        ≡ (if t then option_map (λ parts. states parts.right (united (without_assumption (side_of split 1) e.deps) r.deps)) (option_map (parted_by r.clause) o) else None)
    by_marks None true = refl
    by_marks None false = refl
    by_marks (Some marks) true = λ i. Some (states (in_order (part_by r.clause (map not (no_more marks i)))) (united (without_assumption (side_of split 1) e.deps) r.deps))
    by_marks (Some marks) false = refl

-- where the right side is closed, the left part is left
pub right_closed : (split : ℕ) (r e : Statement) → side_closed split 2 r e
    ≡ (if closes (side_of split 2) e then option_map (λ parts. states parts.left (united (without_assumption (side_of split 2) e.deps) r.deps)) (parts_of r.clause) else None)
right_closed split r e = by_marks (left_marks r.clause) (closes (side_of split 2) e)
  where
    by_marks : (o : Option (List Bool)) (t : Bool) →
        option_and_then (λ marks. when (ascend_within 0 (length marks) (2 ∷ []) && t) (states (without_parts marks (2 ∷ []) r.clause) (united (without_assumption (side_of split 2) e.deps) r.deps))) (option_map (λ marks. marks ∷ map not marks ∷ []) o)
        ≡ (if t then option_map (λ parts. states parts.left (united (without_assumption (side_of split 2) e.deps) r.deps)) (option_map (parted_by r.clause) o) else None)
    by_marks None true = refl
    by_marks None false = refl
    by_marks (Some marks) true = λ i. Some (states (in_order (part_by r.clause ((ap (map not) (no_more (map not marks)) ∙ not-not marks) i))) (united (without_assumption (side_of split 2) e.deps) r.deps))
    by_marks (Some marks) false = refl

-- ---- both sides closed

none_marked : {A : Type 0} (marks : List Bool) (xs : List A) → list_all not marks ≡ true → marked marks xs ≡ []
none_marked [] xs h = refl
none_marked (m ∷ marks) [] h = refl
none_marked (true ∷ marks) (x ∷ xs) h = absurd (false≢true h)
none_marked (false ∷ marks) (x ∷ xs) h = none_marked marks xs h

take_none : (n : ℕ) (marks : List Bool) → list_all not marks ≡ true → list_all not (take n marks) ≡ true
take_none zero marks h = refl
take_none (suc n) [] h = refl
take_none (suc n) (m ∷ marks) h = (let r = and_parts _ _ h in (λ i. r.0 i && take_none n marks r.1 i))

drop_none : (n : ℕ) (marks : List Bool) → list_all not marks ≡ true → list_all not (drop n marks) ≡ true
drop_none zero marks h = h
drop_none (suc n) [] h = refl
drop_none (suc n) (m ∷ marks) h = drop_none n marks (and_parts _ _ h).1

nothing_left : (c : Clause) (marks : List Bool) → list_all not marks ≡ true → part_by c marks ≡ record { constraint = []; antecedent = []; succedent = [] }
nothing_left c marks h =
    let x = none_marked (take (length c.constraint) marks) c.constraint (take_none (length c.constraint) marks h) in
    let y = none_marked (take (length c.antecedent) (drop (length c.constraint) marks)) c.antecedent (take_none (length c.antecedent) (drop (length c.constraint) marks) (drop_none (length c.constraint) marks h)) in
    let z = none_marked (drop (length c.constraint + length c.antecedent) marks) c.succedent (drop_none (length c.constraint + length c.antecedent) marks h) in
    λ i. record { constraint = x i; antecedent = y i; succedent = z i }

all_marked : (marks : List Bool) → list_all not (map not (either_marked marks (map not marks))) ≡ true
all_marked [] = refl
all_marked (true ∷ marks) = all_marked marks
all_marked (false ∷ marks) = all_marked marks

each_marked : (marks : List Bool) → list_all not (map not (either_marked marks (either_marked (map not marks) []))) ≡ true
each_marked marks = ap (λ ms. list_all not (map not (either_marked marks ms))) (no_more (map not marks)) ∙ all_marked marks

-- where the clause has parts, closing both of them by the one rule leaves the empty clause
pub both_by_cases : (split : ℕ) (r e f : Statement) (parts : Parted) → parts_of r.clause ≡ Some parts → by_cases split (1 ∷ 2 ∷ []) r (e ∷ f ∷ []) ≡ both_closed split r e f
both_by_cases split r e f parts h = by_marks (closed_deps split r.deps (1 ∷ 2 ∷ []) (e ∷ f ∷ [])) (left_marks r.clause) h (are_closed split (1 ∷ 2 ∷ []) (e ∷ f ∷ []))
  where
    by_marks : (deps : List Assumption) (o : Option (List Bool)) → option_map (parted_by r.clause) o ≡ Some parts → (t : Bool) →
        option_and_then (λ marks. when (ascend_within 0 (length marks) (1 ∷ 2 ∷ []) && t) (states (without_parts marks (1 ∷ 2 ∷ []) r.clause) deps)) (option_map (λ marks. marks ∷ map not marks ∷ []) o)
        ≡ when t (states (record { constraint = []; antecedent = []; succedent = [] }) deps)
    by_marks deps None h t = absurd (none-some _ h)
    by_marks deps (Some marks) h false = refl
    by_marks deps (Some marks) h true = ap (λ c. Some (states (in_order c) deps)) (nothing_left r.clause (map not (either_marked marks (either_marked (map not marks) []))) (each_marked marks))
