-- No unifier is lost: where two places of clauses in order have a unifier and the conditions of the rule hold, the rule
-- applies, so its one line is in the list of inferences.
use Rattle.std.specs.Prelude.{◌≡◌, ℕ, true, List, [], ◌∷◌, Some, slice_get}
use Rattle.spl_terms.specs.declared.term.Term.{Term}
use Rattle.spl_terms.specs.declared.atom.Atom.{Atom}
use Rattle.spl_terms.specs.declared.atom.Atom.TheVariants.{Equal}
use Rattle.spl_terms.specs.declared.clause.Part.{Part}
use Rattle.spl_terms.specs.declared.clause.Spot.{Spot}
use Rattle.spl_terms.specs.Clauses.{part_of}
use Rattle.spl_terms.specs.InOrder.{IsInOrder, variables}
use Rattle.spl_truth.specs.Unifiers.{unifier}
use Rattle.proof_steps.specs.declared.step.Rule.TheVariants.{Reflex}
use Rattle.proof_steps.specs.declared.step.Line.{Line}
use Rattle.proof_steps.specs.Spots.{atom_at, term_under}
use Rattle.proof_steps.specs.Steps.{is_negative, sides_of}
use Rattle.calculus.specs.declared.kept.Kept.{Kept}
use Rattle.calculus.specs.Inferences.{Reading, clause_of, renamed_apart, variables_of_both, atom_unifier, resolve, rewriting_unifier, superpose, by_unifier, factoring_unifier, factor_equation}

-- a unifier of a succedent atom of p and a negative atom of q gives a resolvent
abbrev pub ResolventsAreFound : Type 0
ResolventsAreFound =
    (p q : Kept) → IsInOrder (clause_of p) → IsInOrder (clause_of q) → (part : Part) → is_negative part ≡ true → (i j : ℕ) (a b : Atom) (u : List Term)
    → slice_get (clause_of p).succedent i ≡ Some a → slice_get (part_of (clause_of q) part) j ≡ Some b → atom_unifier (variables_of_both p q) a (renamed_apart p b) ≡ Some u
    → (l : Line) × (resolve part p q (i, a) (j, b) ≡ l ∷ [])

-- a unifier of the left side of an equation of p, so read, and a subterm of q that keeps the order gives a paramodulant
abbrev pub ParamodulantsAreFound : Type 0
ParamodulantsAreFound =
    (p q : Kept) → IsInOrder (clause_of p) → IsInOrder (clause_of q) → (e : Reading) (spot : Spot) (a b : Atom) (w : Term) (u : List Term)
    → slice_get (clause_of p).succedent e.place ≡ Some a → sides_of e.right a ≡ Some (e.left_side, e.right_side) → atom_at spot.part spot.place (clause_of q) ≡ Some b → term_under spot.path (renamed_apart p b) ≡ Some w
    → unifier (variables_of_both p q) e.left_side w ≡ Some u → rewriting_unifier (variables_of_both p q) e (renamed_apart p b) spot.path ≡ Some u
    → (l : Line) × (superpose p q e spot ≡ l ∷ [])

-- a unifier of the sides of an antecedent equation gives a line
abbrev pub ReflectionsAreFound : Type 0
ReflectionsAreFound =
    (p : Kept) (j : ℕ) (s t : Term) (u : List Term) → IsInOrder (clause_of p) → slice_get (clause_of p).antecedent j ≡ Some (Equal s t) → unifier (variables (clause_of p)) s t ≡ Some u
    → (l : Line) × (by_unifier p (Reflex j) (Some u) ≡ l ∷ [])

-- a unifier of the first sides of two equations, so read, that keeps the order gives a line
abbrev pub EqualityFactoringsAreFound : Type 0
EqualityFactoringsAreFound =
    (p : Kept) (e d : Reading) (a b : Atom) (u : List Term) → IsInOrder (clause_of p) → slice_get (clause_of p).succedent e.place ≡ Some a → slice_get (clause_of p).succedent d.place ≡ Some b → (e.place ≡ d.place → ⊥)
    → sides_of e.right a ≡ Some (e.left_side, e.right_side) → sides_of d.right b ≡ Some (d.left_side, d.right_side)
    → unifier (variables (clause_of p)) e.left_side d.left_side ≡ Some u → factoring_unifier (variables (clause_of p)) e d ≡ Some u
    → (l : Line) × (factor_equation p e d ≡ l ∷ [])
