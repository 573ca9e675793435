-- Equations as the code holds them, and what is appended for them.
use Rattle.std.specs.Prelude.{◌≡◌, ℕ, List, [], not, ◌==◌, if◌then◌else◌, Some, option_and_then, slice_get}
use Rattle.std.specs.List.{AllByRecursion}
use Rattle.spl_terms.specs.declared.atom.Atom.{Atom}
use Rattle.spl_terms.specs.declared.clause.Clause.{Clause}
use Rattle.spl_truth.specs.Unifiers.{HasVariablesBelow}
use Rattle.spl_terms.specs.InOrder.{variables}
use Rattle.proof_steps.specs.declared.step.Rule.TheVariants.{Factor}
use Rattle.proof_steps.specs.declared.step.Line.{Line}
use Rattle.proof_steps.specs.Steps.{sides_of}
use Rattle.calculus.specs.declared.kept.Kept.{Kept}
use Rattle.calculus.specs.Inferences.{Reading, clause_of, by_unifier, atom_unifier, factor_equation}
use Rattle.superposition.specs.declared.equations.Equation.{Equation}
use Rattle.superposition.specs.Standings.{IsStanding}

-- an equation that is lent
abbrev pub reading_of : Equation → Reading
reading_of e = record { place = e.place; right = e.right; left_side = e.left_side.now; right_side = e.right_side.now }

-- the side of each equation that is read first
abbrev pub AreLeftSidesBelow : ℕ → List Equation → Type 0
AreLeftSidesBelow vars equations = AllByRecursion (λ e. HasVariablesBelow vars e.left_side.now) equations

-- how the sides of each equation stand is known
abbrev pub AreJudged : List Equation → Type 0
AreJudged equations = AllByRecursion (λ e. IsStanding e.standing e.left_side.now e.right_side.now) equations

-- the equation, so read, stands at its place of the succedent
abbrev pub IsReadIn : Clause → Equation → Type 0
IsReadIn c e = option_and_then (sides_of e.right) (slice_get c.succedent e.place) ≡ Some (e.left_side.now, e.right_side.now)

-- each of the equations
abbrev pub AreReadIn : Clause → List Equation → Type 0
AreReadIn c equations = AllByRecursion (IsReadIn c) equations

-- an atom of the succedent with an atom at another place
abbrev pub factor_with : Kept → ℕ × Atom → ℕ × Atom → List Line
factor_with p x y = if not (y.0 == x.0) then by_unifier p Factor (atom_unifier (variables (clause_of p)) x.1 y.1) else []

-- an equation with one at another place
abbrev pub factor_apart : Kept → Reading → Reading → List Line
factor_apart p e d = if not (d.place == e.place) then factor_equation p e d else []
