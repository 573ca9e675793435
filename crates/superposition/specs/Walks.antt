-- What is appended for an equation on its way through the atoms of the second premise.
use Rattle.std.specs.Prelude.{◌≡◌, ℕ, true, false, List, [], ◌∷◌, ◌++◌, map, Some, option_and_then, slice_get}
use Rattle.std.specs.Borrow.{Bor}
use Rattle.std.specs.List.{AllByRecursion, flat_map}
use Rattle.spl_terms.specs.declared.term.Term.{Term}
use Rattle.spl_terms.specs.declared.atom.Atom.{Atom}
use Rattle.spl_terms.specs.declared.clause.Part.{Part}
use Rattle.spl_terms.specs.declared.clause.Part.TheVariants.{Antecedent, Succedent}
use Rattle.spl_truth.specs.Unifiers.{HasVariablesBelow}
use Rattle.proof_steps.specs.declared.step.Line.{Line}
use Rattle.proof_steps.specs.Spots.{atom_at, term_under}
use Rattle.proof_steps.specs.Steps.{sides_of}
use Rattle.calculus.specs.declared.kept.Kept.{Kept}
use Rattle.calculus.specs.Inferences.{Reading, clause_of, renamed_apart, paths_in, paths_of, is_upper_side, superpose}
use Rattle.superposition.specs.declared.ordering.Standing.TheVariants.{Upper, Lower}
use Rattle.superposition.specs.declared.equations.Equation.{Equation}
use Rattle.superposition.specs.declared.pairs.Pair.{Pair}
use Rattle.superposition.specs.declared.rewriting.Rewriting.{Rewriting}
use Rattle.superposition.specs.Pairs.{IsPair, raised}
use Rattle.superposition.specs.Readings.{reading_of}
use Rattle.superposition.specs.Standings.{IsStanding}

-- ---- what is appended

-- superposition of an equation of p, so read, at each path of an atom of q
abbrev pub superpose_in : Kept → Kept → Reading → Part → ℕ × Atom → List Line
superpose_in p q e part y = flat_map (λ path. superpose p q e (record { part = part; place = y.0; path = path })) (paths_of y.1)

-- the same of an atom that is lent
abbrev pub superpose_lent : Kept → Kept → Reading → Part → ℕ × Bor Atom → List Line
superpose_lent p q e part y = superpose_in p q e part (y.0, y.1.now)

-- in these atoms of the antecedent of q, and then in these of its succedent
abbrev pub superpose_in_parts : Kept → Kept → List (ℕ × Bor Atom) → List (ℕ × Bor Atom) → Reading → List Line
superpose_in_parts p q antecedent succedent e = flat_map (superpose_lent p q e Antecedent) antecedent ++ flat_map (superpose_lent p q e Succedent) succedent

-- at the end of the path, as the code holds it
abbrev pub rewrite : Rewriting → List ℕ → List Line
rewrite r path = superpose r.pair.p.now r.pair.q.now (reading_of r.equation) (record { part = r.part; place = r.place; path = path })

-- at each path below this one
abbrev pub rewrite_below : Rewriting → List ℕ → List (List ℕ) → List Line
rewrite_below r path rests = flat_map (λ rest. rewrite r (path ++ rest)) rests

-- in the argument of this number
abbrev pub rewrite_argument : Rewriting → List ℕ → ℕ × Term → List Line
rewrite_argument r path x = rewrite_below r path (map (λ rest. x.0 ∷ rest) (paths_in x.1))

-- ---- what is known on the way

-- the equation stands in the succedent of the first premise, and how its sides stand is known
pub record IsUsable (pair : Pair) (e : Equation) : Type 0 where
  pub stands : option_and_then (sides_of e.right) (slice_get (clause_of pair.p.now).succedent e.place) ≡ Some (e.left_side.now, e.right_side.now)
  pub left_below : HasVariablesBelow pair.both e.left_side.now
  pub judged : IsStanding e.standing e.left_side.now e.right_side.now

abbrev pub AreUsable : Pair → List Equation → Type 0
AreUsable pair equations = AllByRecursion (IsUsable pair) equations

-- the atom of the second premise with its variables raised
abbrev pub raised_atom : Rewriting → Atom
raised_atom r = renamed_apart r.pair.p.now r.atom.now

pub record IsReady (r : Rewriting) : Type 0 where
  pub pair : IsPair r.pair
  pub equation : IsUsable r.pair r.equation
  pub atom : atom_at r.part r.place (clause_of r.pair.q.now) ≡ Some r.atom.now

-- where no side has to be compared, the path lies in an upper one
abbrev pub IsUpperAt : Rewriting → List ℕ → Type 0
IsUpperAt r path = r.side ≡ Upper → (u : List Term) → is_upper_side u (raised_atom r) path ≡ true

-- the term is this side of the atom, and how it stands to the other one is known
pub record IsSide (r : Rewriting) (side : ℕ) (t : Term) : Type 0 where
  pub stands : term_under (side ∷ []) (raised_atom r) ≡ Some (raised r.pair.first t)
  pub below : HasVariablesBelow r.pair.both (raised r.pair.first t)
  pub upper : IsUpperAt r (side ∷ [])
  pub lower : r.side ≡ Lower → (u : List Term) (path : List ℕ) → is_upper_side u (raised_atom r) (side ∷ path) ≡ false
