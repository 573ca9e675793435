-- How what was computed in a round is to be appended to the journal.
use Rattle.std.specs.Prelude.{◌≡◌, ℕ, ◌≤◌, true, false, List, [], ◌∷◌, ◌++◌, map, Some, IsSomeAnd}
use Rattle.spl_terms.specs.Clauses.{is_empty}
use Rattle.clause_parts.specs.Parts.{Parted, parts_of}
use Rattle.clause_splitting.specs.Splitting.{IsSplitEvent}
use Rattle.proof_steps.specs.declared.step.Line.{Line}
use Rattle.spl_terms.specs.Lists.{numbered}
use Rattle.case_journal.specs.declared.event.Entry.{Entry}
use Rattle.case_journal.specs.declared.event.Event.{Event}
use Rattle.case_journal.specs.declared.event.Event.TheVariants.{Publish, Activate, Big}
use Rattle.case_journal.specs.Journal.{Setting, ledger, last_line, steps}
use Rattle.case_journal.specs.Paths.{owner}
use Rattle.case_journal.specs.Facts.{chosen}
use Rattle.case_journal.specs.Legal.{IsLegalBig, IsLegalJournal}
use Rattle.journal_laws.specs.Batches.{IsUnderWay, IsWorkedOff}
use Rattle.case_rounds.specs.declared.round.Batch.{Batch}
use Rattle.case_rounds.specs.declared.round.Finish.{Finish}
use Rattle.case_rounds.specs.declared.round.Finish.TheVariants as finishes
use Rattle.case_rounds.specs.Events.{AreAllOver}

-- the clause that is chosen at m has these parts
pub record IsPartedAt (s : Setting) (past : List Entry) (m : ℕ) (parts : Parted) : Type 0 where
  pub number : ℕ
  pub is : chosen past m ≡ Some number
  pub line : Line
  pub found : numbered (ledger s past) number ≡ Some line
  pub parted : parts_of line.stated.clause ≡ Some parts

-- the event by which the round is finished may be appended once the lines are published: what it asks of the journal for which the view stands
abbrev pub IsFinishAt : Setting → List Entry → ℕ → ℕ → List Line → Finish → Type 0
IsFinishAt s past w m lines finishes.Closed = IsSomeAnd (last_line lines) (λ l. is_empty l.stated.clause ≡ true)
IsFinishAt s past w m lines (finishes.Big partner symbols) = IsLegalBig s past w m partner symbols
IsFinishAt s past w m lines (finishes.Split parts) = IsPartedAt s past m parts
IsFinishAt s past w m lines finishes.Activate = IsWorkedOff s past w m lines

-- the lines of a round were made over an earlier journal of the worker's case, and none of them has been appended
pub record CanAppend (s : Setting) (past : List Entry) (w m : ℕ) (lines : List Line) (finish : Finish) : Type 0 where
  pub start : List Entry
  pub legal : IsLegalJournal s start
  pub way : IsUnderWay s start past w m lines 0
  pub ends : IsFinishAt s start w m lines finish

-- ---- the events

-- the publication of the line at the node where it belongs
abbrev pub publication_at : List Entry → ℕ → Line → Event
publication_at start m l = Publish (owner start l.stated.deps m) (l ∷ []) false

-- the Split of the clause that is chosen at m, whose parts these are
pub record IsSplitOfChosen (past : List Entry) (m : ℕ) (parts : Parted) (last : List Event) : Type 0 where
  pub clause : ℕ
  pub chosen : chosen past m ≡ Some clause
  pub event : Event
  pub splits : IsSplitEvent m clause parts event
  pub is : last ≡ event ∷ []

abbrev pub AreLastAt : List Entry → ℕ → Finish → List Event → Type 0
AreLastAt past m finishes.Closed last = last ≡ []
AreLastAt past m (finishes.Big partner symbols) last = last ≡ Big m partner symbols ∷ []
AreLastAt past m (finishes.Split parts) last = IsSplitOfChosen past m parts last
AreLastAt past m finishes.Activate last = last ≡ Activate m ∷ []

-- the batch was made over an earlier journal of the worker's case, and none of it has been appended; its steps follow from those that were there
pub record IsBatchReady (s : Setting) (past : List Entry) (w m : ℕ) (b : Batch) : Type 0 where
  pub lines : List Line
  pub finish : Finish
  pub can : CanAppend s past w m lines finish
  pub last : List Event
  pub finishes : AreLastAt can.start m finish last
  pub events : b.events ≡ map (publication_at can.start m) lines ++ last
  pub base : b.base ≤ steps s past
  pub over : AreAllOver b.base b.events
