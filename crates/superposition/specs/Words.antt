-- Places and atoms as the code holds them, and what is appended for them.
use Rattle.std.specs.Prelude.{◌≡◌, ℕ, List, [], ◌∷◌, map, All, ◌<◌, Some}
use Rattle.std.specs.List.{AllByRecursion}
use Rattle.std.specs.Borrow.{Bor}
use Rattle.spl_terms.specs.declared.atom.Atom.{Atom}
use Rattle.spl_terms.specs.declared.clause.Part.{Part}
use Rattle.spl_terms.specs.declared.clause.Clause.{Clause}
use Rattle.spl_terms.specs.Clauses.{atom_variables, in_order}
use Rattle.dep_sets.specs.Assumptions.{united}
use Rattle.proof_steps.specs.Spots.{atom_at}
use Rattle.proof_steps.specs.Steps.{states}
use Rattle.proof_steps.specs.declared.step.Rule.{Rule}
use Rattle.proof_steps.specs.declared.step.Line.{Line}
use Rattle.calculus.specs.declared.kept.Kept.{Kept}

-- atoms that are lent, each with its place
abbrev pub plain : List (ℕ × Bor Atom) → List (ℕ × Atom)
plain places = map (λ x. (x.0, x.1.now)) places

abbrev pub IsAtomBelow : ℕ → Atom → Type 0
IsAtomBelow vars a = All (λ v. v < vars) (atom_variables a)

-- each of the atoms
abbrev pub AreAtomsBelow : ℕ → List (ℕ × Atom) → Type 0
AreAtomsBelow vars atoms = AllByRecursion (λ x. IsAtomBelow vars x.1) atoms

abbrev pub AreLentBelow : ℕ → List (ℕ × Bor Atom) → Type 0
AreLentBelow vars atoms = AllByRecursion (λ x. IsAtomBelow vars x.1.now) atoms

-- each of the atoms stands at its place of the part
abbrev pub AreInPlace : Clause → Part → List (ℕ × Bor Atom) → Type 0
AreInPlace c part atoms = AllByRecursion (λ x. atom_at part x.0 c ≡ Some x.1.now) atoms

-- the line that states the clause in order, by the rule from one premise, and from two
abbrev pub line_of : Kept → Rule → Clause → Line
line_of p rule c = record { step = record { rule = rule; parents = p.number ∷ [] }; stated = states (in_order c) p.statement.deps }

abbrev pub line_of_both : Kept → Kept → Rule → Clause → Line
line_of_both p q rule c = record { step = record { rule = rule; parents = p.number ∷ q.number ∷ [] }; stated = states (in_order c) (united p.statement.deps q.statement.deps) }
