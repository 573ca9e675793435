-- Reduction steps as lines: what is answered where a clause can be reduced, and where it can't.
use Rattle.std.specs.Prelude.{◌≡◌, ◌⊎◌, ℕ, true, ◌<◌, List, length, None, Some}
use Rattle.std.specs.List.{list_any}
use Rattle.spl_terms.specs.declared.term.Term.{Term}
use Rattle.spl_terms.specs.declared.atom.Atom.{Atom}
use Rattle.spl_terms.specs.declared.clause.Part.{Part}
use Rattle.spl_terms.specs.declared.clause.Clause.{Clause}
use Rattle.spl_terms.specs.Clauses.{atoms_of, in_order, is_same, part_of, replace_in_atom}
use Rattle.spl_terms.specs.InOrder.{IsInOrder}
use Rattle.spl_truth.specs.Truth.{apply}
use Rattle.spl_truth.specs.Redundancy.{Subsumes}
use Rattle.proof_steps.specs.declared.step.Statement.{Statement}
use Rattle.proof_steps.specs.declared.step.Line.{Line}
use Rattle.proof_steps.specs.Steps.{numbered, has_entries, reflexed, resolution, conclude}
use Rattle.calculus.specs.declared.kept.Kept.{Kept}
use Rattle.calculus.specs.Inferences.{clause_of}
use Rattle.calculus.specs.Reductions.{unchanged, IsReductionBy, ReducesBy, IsOwnReduction, ReducesItself}

-- ---- by itself

-- the step reduces clause n, which states this, by itself; wherever the clause has its number, the line states what the step
-- concludes, and that is in order
pub record IsOwnReductionLine (n : ℕ) (target : Statement) (l : Line) : Type 0 where
  pub reduces : IsOwnReduction n target.clause l.step
  pub concludes : (input : List Clause) (earlier : List Statement) → numbered earlier n ≡ Some target → conclude input earlier l.step ≡ Some l.stated
  pub ordered : IsInOrder l.stated.clause

-- the clause reduces itself to no clause
abbrev pub HasNoOwnReduction : Clause → Type 0
HasNoOwnReduction e = (e' : Clause) → ReducesItself e e' → ⊥

-- no antecedent equation has equal sides
abbrev pub HasNoTrivialEquation : Clause → Type 0
HasNoTrivialEquation e = (j : ℕ) → reflexed j e ≡ None

-- no instance has fewer atoms, once repeated ones are dropped, and subsumes the clause
abbrev pub IsCondensed : Clause → Type 0
IsCondensed e = (s : List Term) → has_entries s e ≡ true → length (atoms_of (in_order (apply s e))) < length (atoms_of e) → Subsumes (in_order (apply s e)) e → ⊥

-- ---- by another clause

-- the step reduces clause n, which states this, by the other clause; wherever both have their numbers, the line states what
-- the step concludes, and that is in order
pub record IsReductionLineBy (n : ℕ) (target : Statement) (by : Kept) (l : Line) : Type 0 where
  pub reduces : IsReductionBy n target.clause by.number (clause_of by) l.step
  pub concludes : (input : List Clause) (earlier : List Statement) → numbered earlier n ≡ Some target → numbered earlier by.number ≡ Some by.statement → conclude input earlier l.step ≡ Some l.stated
  pub ordered : IsInOrder l.stated.clause

-- the clause is reduced to no clause by the other one, or has its number
abbrev pub HasNoReductionBy : ℕ → Clause → Kept → Type 0
HasNoReductionBy n e by = (n ≡ by.number) ⊎ ((e' : Clause) → ReducesBy (clause_of by) e e' → ⊥)

-- no instance of the atom is the same as one of this part, or of the succedent
abbrev pub IsKeptBefore : Part → Clause → Atom → Type 0
IsKeptBefore part e a = (g : ℕ → Term) → list_any (is_same (replace_in_atom g a)) (part_of e part) ≡ true → ⊥

abbrev pub IsKeptBehind : Clause → Atom → Type 0
IsKeptBehind e a = (g : ℕ → Term) → list_any (is_same (replace_in_atom g a)) e.succedent ≡ true → ⊥

-- no step of matching replacement concludes anything
abbrev pub NothingIsReplaced : Clause → Clause → Type 0
NothingIsReplaced e d =
    length (atoms_of d) ≡ 1 → (part : Part) (j : ℕ) (s : List Term) → (resolution 0 part j s (unchanged e).terms d e ≡ None) × (resolution j part 0 (unchanged e).terms s e d ≡ None)
