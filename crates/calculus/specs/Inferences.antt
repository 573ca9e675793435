-- The inferences of two clauses and of one, as lists of lines: resolution, superposition, factoring, equality resolution
-- and equality factoring, and the steps that resolve the constraint (Weidenbach 2001, the sections on superposition and
-- on sorts). That places are eligible before the unifier is applied, and that a constraint is resolved atom by atom, is
-- this project's own.
use Rattle.std.specs.Prelude.{ℕ, ◌+◌, Bool, true, false, not, ◌&&◌, ◌==◌, if◌then◌else◌, List, [], ◌∷◌, ◌++◌, map, take, drop, filter, flat_map, Contains, Option, Some, None, option_map, option_and_then, option_to_list, zero, suc}
use Rattle.std.specs.List.{enumerate_from}
use Rattle.spl_terms.specs.declared.term.Term.{Term, Var, App, Term-F, fold-Term}
use Rattle.spl_terms.specs.declared.term.Term.TheOpen as layer
use Rattle.spl_terms.specs.declared.atom.Atom.{Atom}
use Rattle.spl_terms.specs.declared.atom.Atom.TheVariants.{Holds, Equal}
use Rattle.spl_terms.specs.declared.clause.Part.{Part}
use Rattle.spl_terms.specs.declared.clause.Part.TheVariants.{Constraint, Antecedent, Succedent}
use Rattle.spl_terms.specs.declared.clause.Spot.{Spot}
use Rattle.spl_terms.specs.declared.clause.Clause.{Clause}
use Rattle.spl_terms.specs.Clauses.{atom_terms, replace_in_atom, part_of}
use Rattle.spl_truth.specs.declared.replace.Subst.{Subst}
use Rattle.spl_truth.specs.Places.{is_eligible}
use Rattle.spl_truth.specs.Unifiers.{unifier}
use Rattle.proof_steps.specs.declared.step.Rule.{Rule}
use Rattle.proof_steps.specs.declared.step.Rule.TheVariants.{Resolve, Factor, Paramodulate, Reflex, EqFactor}
use Rattle.proof_steps.specs.declared.step.Line.{Line}
use Rattle.proof_steps.specs.Spots.{atom_at, term_under}
use Rattle.proof_steps.specs.Steps.{when, of_two, conclude}
use Rattle.calculus.specs.declared.kept.Kept.{Kept}
use Rattle.spl_terms.specs.InOrder.{variables}
use Rattle.spl_truth.specs.Orders.{is_not_below}

-- ---- premises

abbrev pub clause_of : Kept → Clause
clause_of p = p.statement.clause

-- the eligible atoms of a part, each with its place: no place of antecedent and succedent where the constraint is unsolved,
-- and no place of the constraint but the first unsolved one
abbrev pub eligible_in : Kept → Part → List (ℕ × Atom)
eligible_in p part = filter (λ x. is_eligible (clause_of p) p.selected part x.0) (enumerate_from 0 (part_of (clause_of p) part))

-- ---- variables of two premises apart

-- an atom of q, where the variables of q are raised by the number of variables of p, so that the two have none in common
abbrev pub renamed_apart : Kept → Atom → Atom
renamed_apart p = replace_in_atom (λ v. Var (variables (clause_of p) + v))

-- the number of variables of both
abbrev pub variables_of_both : Kept → Kept → ℕ
variables_of_both p q = variables (clause_of p) + variables (clause_of q)

-- a substitution by its entries
abbrev pub by_entries : List Term → Subst
by_entries entries = record { terms = entries }

-- the restrictions of a unifier: the entries of the variables of p, and those of the variables of q
abbrev pub first_part : Kept → List Term → Subst
first_part p u = by_entries (take (variables (clause_of p)) u)

abbrev pub second_part : Kept → List Term → Subst
second_part p u = by_entries (drop (variables (clause_of p)) u)

-- ---- conclusions, of any size

-- what the rule concludes from one premise
abbrev pub line_from : Kept → Rule → Option Line
line_from p rule = option_map (λ s. record { step = record { rule = rule; parents = p.number ∷ [] }; stated = s }) (conclude [] (p.statement ∷ []) (record { rule = rule; parents = 1 ∷ [] }))

-- what the rule concludes from two premises
abbrev pub line_from_both : Kept → Kept → Rule → Option Line
line_from_both p q rule = option_map (λ s. record { step = record { rule = rule; parents = p.number ∷ q.number ∷ [] }; stated = s }) (conclude [] (p.statement ∷ q.statement ∷ []) (record { rule = rule; parents = 1 ∷ 2 ∷ [] }))

-- the line of a rule by this unifier; none where there is no unifier
abbrev pub by_unifier : Kept → (Subst → Rule) → Option (List Term) → List Line
by_unifier p rule u = option_to_list (option_and_then (λ u. line_from p (rule (by_entries u))) u)

-- the same from two premises, by the restrictions to each
abbrev pub by_unifier_of_both : Kept → Kept → (Subst → Subst → Rule) → Option (List Term) → List Line
by_unifier_of_both p q rule u = option_to_list (option_and_then (λ u. line_from_both p q (rule (first_part p u) (second_part p u))) u)

-- ---- resolution

-- a predicate atom as a term with the predicate as its head; an equation is none
abbrev pub predicate_term : Atom → Option Term
predicate_term (Holds p ts) = Some (App p ts)
predicate_term (Equal s t) = None

-- U of two predicate atoms
abbrev pub atom_unifier : ℕ → Atom → Atom → Option (List Term)
atom_unifier vars a b = of_two (unifier vars) (predicate_term a) (predicate_term b)

-- the succedent atom of p at place i with the atom of that part of q at place j
abbrev pub resolve : Part → Kept → Kept → ℕ × Atom → ℕ × Atom → List Line
resolve part p q (i, a) (j, b) = by_unifier_of_both p q (λ s t. Resolve i part j s t) (atom_unifier (variables_of_both p q) a (renamed_apart p b))

-- each eligible succedent predicate atom of p with each eligible predicate atom of this part of q
abbrev pub resolutions : Part → Kept → Kept → List Line
resolutions part p q = flat_map (λ x. flat_map (resolve part p q x) (eligible_in q part)) (eligible_in p Succedent)

-- ---- superposition

-- an equation read in one direction: its place, whether it is read from right to left, and its sides in that order
pub record Reading : Type 0 where
  pub place : ℕ
  pub right : Bool
  pub left_side : Term
  pub right_side : Term

-- an equation from left to right, and then from right to left
abbrev pub readings : ℕ × Atom → List Reading
readings (i, Holds p ts) = []
readings (i, Equal s t) = record { place = i; right = false; left_side = s; right_side = t } ∷ record { place = i; right = true; left_side = t; right_side = s } ∷ []

-- the eligible equations of the succedent
abbrev pub equations_of : Kept → List Reading
equations_of p = flat_map readings (eligible_in p Succedent)

-- each path, with the place before it at which its list stands
abbrev pub placed : List (List (List ℕ)) → List (List ℕ)
placed lists = flat_map (λ x. map (λ path. x.0 ∷ path) x.1) (enumerate_from 0 lists)

-- one level of the walk below, with the paths of the arguments
abbrev pub paths_step : Term-F (List (List ℕ)) → List (List ℕ)
paths_step (layer.Var v) = []
paths_step (layer.App f lists) = [] ∷ placed lists

-- the paths to the subterms that are no variables: a term first, and then its arguments in order, each with all that
-- stands in it
abbrev pub paths_in : Term → List (List ℕ)
paths_in = fold-Term (List (List ℕ)) paths_step

-- the same in an atom; 0 and 1 are the sides of an equation
abbrev pub paths_of : Atom → List (List ℕ)
paths_of a = placed (map paths_in (atom_terms a))

-- the spots of subterms that are no variables, in the eligible atoms of a part
abbrev pub spots_in : Kept → Part → List Spot
spots_in q part = flat_map (λ y. map (λ path. record { part = part; place = y.0; path = path }) (paths_of y.1)) (eligible_in q part)

-- those of the antecedent, and then those of the succedent
abbrev pub spots_of : Kept → List Spot
spots_of q = spots_in q Antecedent ++ spots_in q Succedent

-- in an equation, the side in which the path lies isn't below the other one
abbrev pub is_upper_side : List Term → Atom → List ℕ → Bool
is_upper_side u (Holds p ts) path = true
is_upper_side u (Equal s t) [] = false
is_upper_side u (Equal s t) (zero ∷ path) = is_not_below u s t
is_upper_side u (Equal s t) (suc k ∷ path) = is_not_below u t s

-- U of the left side and the subterm at the path, where the left side isn't below the right one and the path lies in an
-- upper side
abbrev pub rewriting_unifier : ℕ → Reading → Atom → List ℕ → Option (List Term)
rewriting_unifier vars e b path =
    option_and_then (λ u. when (is_not_below u e.left_side e.right_side && is_upper_side u b path) u) (option_and_then (unifier vars e.left_side) (term_under path b))

-- one equation of p, read in one direction, at one spot of q
abbrev pub superpose : Kept → Kept → Reading → Spot → List Line
superpose p q e spot =
    by_unifier_of_both p q (λ s t. Paramodulate e.place e.right spot s t) (option_and_then (λ b. rewriting_unifier (variables_of_both p q) e (renamed_apart p b) spot.path) (atom_at spot.part spot.place (clause_of q)))

-- each eligible succedent equation of p, in both directions, at each spot of q
abbrev pub superpositions : Kept → Kept → List Line
superpositions p q = flat_map (λ e. flat_map (superpose p q e) (spots_of q)) (equations_of p)

-- ---- inferences of two clauses

-- with the first premise as that of the succedent atom
abbrev pub from_to : Kept → Kept → List Line
from_to p q = resolutions Antecedent p q ++ superpositions p q

-- with each of the two as the first premise
abbrev pub pair_inferences : Kept → Kept → List Line
pair_inferences given other = from_to given other ++ from_to other given

-- the first unsolved atom of the constraint of one clause is resolved with the succedent of the other
abbrev pub sort_steps : Kept → Kept → List Line
sort_steps given other = resolutions Constraint given other ++ resolutions Constraint other given

-- ---- inferences of one clause

-- the atoms of the succedent but the one at this place, each with its place
abbrev pub other_atoms : ℕ → Kept → List (ℕ × Atom)
other_atoms i p = filter (λ x. not (x.0 == i)) (enumerate_from 0 (clause_of p).succedent)

-- each eligible succedent predicate atom with each other one
abbrev pub factorings : Kept → List Line
factorings p = flat_map (λ x. flat_map (λ y. by_unifier p Factor (atom_unifier (variables (clause_of p)) x.1 y.1)) (other_atoms x.0 p)) (eligible_in p Succedent)

-- U of the sides of an equation
abbrev pub sides_unifier : ℕ → Atom → Option (List Term)
sides_unifier vars (Holds p ts) = None
sides_unifier vars (Equal s t) = unifier vars s t

-- each eligible equation of the antecedent
abbrev pub reflections : Kept → List Line
reflections p = flat_map (λ x. by_unifier p (Reflex x.0) (sides_unifier (variables (clause_of p)) x.1)) (eligible_in p Antecedent)

-- U of the two left sides, where the first isn't below its right side
abbrev pub factoring_unifier : ℕ → Reading → Reading → Option (List Term)
factoring_unifier vars e d = option_and_then (λ u. when (is_not_below u e.left_side e.right_side) u) (unifier vars e.left_side d.left_side)

-- one equation with another one, each read in one direction
abbrev pub factor_equation : Kept → Reading → Reading → List Line
factor_equation p e d = by_unifier p (EqFactor e.place e.right d.place d.right) (factoring_unifier (variables (clause_of p)) e d)

-- each eligible succedent equation with each other one, both in both directions
abbrev pub equality_factorings : Kept → List Line
equality_factorings p = flat_map (λ e. flat_map (factor_equation p e) (flat_map readings (other_atoms e.place p))) (equations_of p)

-- the clause with a copy of itself, and then alone
abbrev pub own_inferences : Kept → List Line
own_inferences p = from_to p p ++ factorings p ++ reflections p ++ equality_factorings p

-- ---- all inferences

-- those of the given clause with another one, or of the given clause alone where the other one has its number
abbrev pub inferences : Kept → Kept → List Line
inferences given other = if given.number == other.number then own_inferences given else pair_inferences given other ++ sort_steps given other

-- the line is an inference of these two premises
abbrev pub IsInference : Kept → Kept → Line → Type 0
IsInference given other line = Contains (inferences given other) line
