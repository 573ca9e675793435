-- A clause that is mapped into itself without one of its atoms, which is how a condensation is found: a clause can be
-- condensed exactly where it is mapped so (Gottlob and Fermueller 1993).
use Rattle.std.specs.Prelude.{◌≡◌, ℕ, ◌<◌, Bool, true, false, List, ◌++◌, length, map, Some}
use Rattle.std.specs.List.{list_any, AllByRecursion}
use Rattle.spl_terms.specs.declared.term.Term.{Term}
use Rattle.spl_terms.specs.declared.atom.Atom.{Atom}
use Rattle.spl_terms.specs.declared.clause.Part.{Part}
use Rattle.spl_terms.specs.declared.clause.Part.TheVariants.{Constraint, Antecedent, Succedent}
use Rattle.spl_terms.specs.declared.clause.Clause.{Clause}
use Rattle.spl_terms.specs.Clauses.{atom_terms, is_same, part_of, replace_in_atom}
use Rattle.spl_terms.specs.SameLaws.{flipped}
use Rattle.spl_truth.specs.Redundancy.{Maps, EachPart}
use Rattle.spl_truth.specs.Unifiers.{HaveVariablesBelow}
use Rattle.proof_steps.specs.Steps.{without}
use Rattle.unify.specs.Bindings.{bound_to}
use Rattle.unify.specs.Matches.{Agrees}
use Rattle.reductions.specs.declared.folding.PartAtom.{PartAtom}
use Rattle.reductions.specs.declared.folding.Remainder.{Remainder}

-- each part is mapped into that part of the clause without the atom at this place
pub record Folds (by : ℕ → Term) (part : Part) (place : ℕ) (e : Clause) : Type 0 where
  pub there : place < length (part_of e part)
  pub maps : EachPart (Maps by) e (without part place e)

-- the clause is mapped into itself without one of its atoms
abbrev pub FoldsSomewhere : (ℕ → Term) → Clause → Type 0
FoldsSomewhere by e = (part : Part) × (place : ℕ) × Folds by part place e

-- ---- atoms with their parts

abbrev pub in_part : Part → List Atom → List (Part × Atom)
in_part part atoms = map (λ a. (part, a)) atoms

-- the atoms of the clause, each with its part
abbrev pub atoms_in_parts : Clause → List (Part × Atom)
atoms_in_parts c = in_part Constraint c.constraint ++ in_part Antecedent c.antecedent ++ in_part Succedent c.succedent

abbrev pub plain : List PartAtom → List (Part × Atom)
plain atoms = map (λ a. (a.part, a.atom.now)) atoms

-- the clause without the atom
abbrev pub remainder : Remainder → Clause
remainder r = without r.part r.place r.clause.now

-- each becomes the same as an atom of its part of the clause
abbrev pub AreMapped : (ℕ → Term) → Clause → List (Part × Atom) → Type 0
AreMapped by d atoms = AllByRecursion (λ x. list_any (is_same (replace_in_atom by x.1)) (part_of d x.0) ≡ true) atoms

-- each has its variables below a number
abbrev pub HaveAtomsBelow : ℕ → List (Part × Atom) → Type 0
HaveAtomsBelow vars atoms = AllByRecursion (λ x. HaveVariablesBelow vars (atom_terms x.1)) atoms

-- an equation with its sides exchanged, where that is asked for
abbrev pub turned_if : Bool → Atom → Atom
turned_if true a = flipped a
turned_if false a = a

-- ---- a search

-- only variables below a number are bound
abbrev pub AreBoundBelow : ℕ → List (ℕ × Term) → Type 0
AreBoundBelow vars made = (v : ℕ) (t : Term) → bound_to made v ≡ Some t → v < vars

-- all that agrees with the new bindings does so with the old ones and does what is asked
pub record AreSought (asked : (ℕ → Term) → Type 0) (old new : ℕ × List (ℕ × Term)) : Type 0 where
  pub onward : (g : ℕ → Term) → Agrees g new.1 → Agrees g old.1 × asked g
  pub bound : AreBoundBelow new.0 new.1
  pub as_many : new.0 ≡ old.0

-- nothing that agrees with the old bindings does what is asked, and they are what they were
pub record AreRestored (asked : (ℕ → Term) → Type 0) (old new : ℕ × List (ℕ × Term)) : Type 0 where
  pub none : (g : ℕ → Term) → Agrees g old.1 → asked g → ⊥
  pub restored : new ≡ old

abbrev pub Searched : (asked : (ℕ → Term) → Type 0) → (old new : ℕ × List (ℕ × Term)) → Bool → Type 0
Searched asked old new true = AreSought asked old new
Searched asked old new false = AreRestored asked old new
