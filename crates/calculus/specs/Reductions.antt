-- Reduction steps of a clause: rewriting, matching replacement resolution, condensation, and the removal of trivial equations
-- (Weidenbach 2001, the section on reductions). The choice of these and their conditions are this project's own.
use Rattle.std.specs.Prelude.{◌≡◌, ◌⊎◌, ℕ, ◌+◌, ◌<◌, Bool, true, List, [], ◌∷◌, length, Some}
use Rattle.spl_terms.specs.declared.term.Term.{Term, Var}
use Rattle.spl_terms.specs.declared.atom.Atom.{Atom}
use Rattle.spl_terms.specs.declared.clause.Part.{Part}
use Rattle.spl_terms.specs.declared.clause.Spot.{Spot}
use Rattle.spl_terms.specs.declared.clause.Clause.{Clause}
use Rattle.spl_terms.specs.Terms.{replace}
use Rattle.spl_terms.specs.Clauses.{atoms_of, in_order}
use Rattle.spl_truth.specs.declared.replace.Subst.{Subst}
use Rattle.spl_truth.specs.Truth.{entry, apply, unit_clause}
use Rattle.spl_truth.specs.Orders.{is_greater}
use Rattle.spl_truth.specs.Unifiers.{occurs, entries_below}
use Rattle.proof_steps.specs.declared.step.Rule.TheVariants.{Resolve, Factor, Paramodulate, Reflex}
use Rattle.proof_steps.specs.declared.step.Step.{Step}
use Rattle.proof_steps.specs.declared.step.Line.{Line}
use Rattle.proof_steps.specs.Steps.{sides_of, states, conclude}
use Rattle.spl_terms.specs.InOrder.{variables}
use Rattle.spl_truth.specs.Redundancy.{Subsumes}

-- each variable of the clause stays as it is
abbrev pub unchanged : Clause → Subst
unchanged e = record { terms = entries_below (variables e) Var }

-- ---- by another clause: number n is e, and number m is d

-- rewriting: d is an equation; an instance of its left side, which has all variables of the right one and is greater, is
-- replaced in e
pub record IsRewriting (n : ℕ) (e : Clause) (m : ℕ) (d : Clause) (st : Step) : Type 0 where
  pub equation : Atom
  pub alone : d ≡ unit_clause equation
  pub right : Bool
  pub left_side : Term
  pub right_side : Term
  pub sides : sides_of right equation ≡ Some (left_side, right_side)
  pub bound : (v : ℕ) → occurs v right_side ≡ true → occurs v left_side ≡ true
  pub s : Subst
  pub falls : is_greater (replace (entry s.terms) left_side) (replace (entry s.terms) right_side) ≡ true
  pub spot : Spot
  pub step : st ≡ record { rule = Paramodulate 0 right spot s (unchanged e); parents = m ∷ n ∷ [] }

-- matching replacement: an instance of the one atom of d stands in e on the other side of the arrow, and is resolved away
pub data IsReplacement (n : ℕ) (e : Clause) (m : ℕ) (d : Clause) (st : Step) : Type 0 where
  before_arrow : (part : Part) (j : ℕ) (s : Subst) → length (atoms_of d) ≡ 1 → st ≡ record { rule = Resolve 0 part j s (unchanged e); parents = m ∷ n ∷ [] } → IsReplacement n e m d st
  after_arrow : (i : ℕ) (part : Part) (t : Subst) → length (atoms_of d) ≡ 1 → st ≡ record { rule = Resolve i part 0 (unchanged e) t; parents = n ∷ m ∷ [] } → IsReplacement n e m d st

-- the step reduces clause n, which is e, by clause m, which is d; no clause reduces itself like this
abbrev pub IsReductionBy : ℕ → Clause → ℕ → Clause → Step → Type 0
IsReductionBy n e m d st = (m ≡ n → ⊥) × (IsRewriting n e m d st ⊎ IsReplacement n e m d st)

-- ---- by itself

-- condensation: an instance has fewer atoms, once repeated ones are dropped, and subsumes e
pub record IsCondensation (n : ℕ) (e : Clause) (st : Step) : Type 0 where
  pub s : Subst
  pub step : st ≡ record { rule = Factor s; parents = n ∷ [] }
  pub fewer : length (atoms_of (in_order (apply s.terms e))) < length (atoms_of e)
  pub subsumes : Subsumes (in_order (apply s.terms e)) e

-- an equation of the antecedent with equal sides is removed
pub record IsTrivialRemoval (n : ℕ) (e : Clause) (st : Step) : Type 0 where
  pub j : ℕ
  pub step : st ≡ record { rule = Reflex j (unchanged e); parents = n ∷ [] }

-- the step reduces clause n, which is e, by itself
abbrev pub IsOwnReduction : ℕ → Clause → Step → Type 0
IsOwnReduction n e st = IsCondensation n e st ⊎ IsTrivialRemoval n e st

-- ---- what they make of a clause, whatever the numbers

-- a reduction step by d makes e' of e
pub record ReducesBy (d e e' : Clause) : Type 0 where
  pub step : Step
  pub reduces : IsReductionBy 1 e 2 d step
  pub gives : conclude [] (states e [] ∷ states d [] ∷ []) step ≡ Some (states e' [])

-- a reduction step by e itself makes e' of e
pub record ReducesItself (e e' : Clause) : Type 0 where
  pub step : Step
  pub reduces : IsOwnReduction 1 e step
  pub gives : conclude [] (states e [] ∷ []) step ≡ Some (states e' [])

-- ---- chains

-- one of these clauses, each with its number, reduces clause n, which is e, by the step
pub record IsReductionByOne (These : ℕ → Clause → Type 0) (n : ℕ) (e : Clause) (st : Step) : Type 0 where
  pub number : ℕ
  pub by : Clause
  pub among : These number by
  pub reduces : IsReductionBy n e number by st

-- the same, or e reduces itself by it
abbrev pub IsReductionAmong : (ℕ → Clause → Type 0) → ℕ → Clause → Step → Type 0
IsReductionAmong These n e st = IsReductionByOne These n e st ⊎ IsOwnReduction n e st

-- the first line reduces clause n, which is e, and each later one the line before it; the lines are numbered from `next` on
abbrev pub AreReductions : (ℕ → Clause → Type 0) → ℕ → ℕ → Clause → List Line → Type 0
AreReductions These next n e [] = Unit {0}
AreReductions These next n e (l ∷ lines) = IsReductionAmong These n e l.step × AreReductions These (next + 1) next l.stated.clause lines
