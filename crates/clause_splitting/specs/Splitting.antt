-- Splitting the clause that is chosen at a node (Weidenbach 2001, the section on splitting).
use Rattle.std.specs.Prelude.{◌≡◌, ℕ, Bool, false, true, List, [], ◌∷◌, map, Option, Some, slice_get}
use Rattle.spl_terms.specs.declared.clause.Clause.{Clause}
use Rattle.clause_parts.specs.Parts.{Parted, parts_of, negated_atom}
use Rattle.proof_steps.specs.declared.step.Line.{Line}
use Rattle.proof_steps.specs.Steps.{numbered, states, side_of}
use Rattle.proof_steps.specs.SplitLaws.{assumed_of_two}
use Rattle.case_journal.specs.declared.event.Entry.{Entry}
use Rattle.case_journal.specs.declared.event.Event.{Event}
use Rattle.case_journal.specs.declared.event.Event.TheVariants.{Split, Full}
use Rattle.case_journal.specs.Journal.{Setting, ledger}
use Rattle.case_journal.specs.Facts.{chosen, kept}
use Rattle.case_journal.specs.Legal.{assume, assume_steps, IsSettled}
use Rattle.split_tree.specs.State.{State}

-- ---- the steps

-- the line that assumes c on a side of the split of the clause
abbrev pub assumption : ℕ → ℕ → Option ℕ → Clause → Line
assumption clause side negated c = record { step = assume clause side negated; stated = states c (side_of clause side ∷ []) }

-- the line assumes the negation of the atom with this number of the left part
pub record IsNegationLine (clause number : ℕ) (left : Clause) (l : Line) : Type 0 where
  pub assumed : Clause
  pub negates : negated_atom number left ≡ Some assumed
  pub is : l ≡ assumption clause 2 (Some number) assumed

-- the line assumes one of the parts of the clause, or the negation of an atom of the left part
pub record IsAssumed (clause : ℕ) (parts : Parted) (l : Line) : Type 0 where
  pub side : ℕ
  pub negated : Option ℕ
  pub assumed : Clause
  pub of_parts : assumed_of_two side negated parts ≡ Some assumed
  pub is : l ≡ assumption clause side negated assumed

abbrev pub AreAssumed : ℕ → Parted → List Line → Type 0
AreAssumed clause parts lines = (k : ℕ) (l : Line) → slice_get lines k ≡ Some l → IsAssumed clause parts l

-- these are the steps of a Split of the clause with the number, whose parts these are
pub record AreSplitLines (clause : ℕ) (parts : Parted) (lines : List Line) : Type 0 where
  pub steps : map (λ l. l.step) lines ≡ assume_steps clause parts
  pub each : AreAssumed clause parts lines

-- it is the Split of the clause with the number, whose parts these are
pub record IsSplitEvent (node clause : ℕ) (parts : Parted) (ev : Event) : Type 0 where
  pub lines : List Line
  pub put_off : List Bool
  pub is : ev ≡ Split node lines put_off
  pub are : AreSplitLines clause parts lines
  pub typed : put_off ≡ map (λ l. false) lines

-- ---- the table

-- these are the steps of a Split of the clause that is chosen at the node
pub record IsSplitAt (s : Setting) (past : List Entry) (node : ℕ) (lines : List Line) (put_off : List Bool) : Type 0 where
  pub clause : ℕ
  pub chosen : chosen past node ≡ Some clause
  pub kept : kept s past node clause ≡ true
  pub line : Line
  pub found : numbered (ledger s past) clause ≡ Some line
  pub parts : Parted
  pub parted : parts_of line.stated.clause ≡ Some parts
  pub are : AreSplitLines clause parts lines
  pub typed : put_off ≡ map (λ l. false) lines

-- the new journal is the old one with a Split of the node by the worker, and the tree is settled
pub record IsSplitBy (by node : ℕ) (old new : State) : Type 0 where
  pub lines : List Line
  pub put_off : List Bool
  pub is : new.past ≡ record { by = by; event = Split node lines put_off } ∷ old.past
  pub settled : IsSettled new.setting new.past

-- the new journal is the old one with a Full of the worker at the node
pub record IsFullBy (by node : ℕ) (old new : State) : Type 0 where
  pub chain : List Line
  pub is : new.past ≡ record { by = by; event = Full node chain } ∷ old.past
