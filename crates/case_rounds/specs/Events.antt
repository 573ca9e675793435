-- The events of a batch, and how their steps are numbered.
use Rattle.std.specs.Prelude.{◌≡◌, ℕ, ◌+◌, ◌<◌, ◌≤◌, ◌^◌, false, List, [], ◌∷◌, ◌++◌, map, Some, slice_get}
use Rattle.clause_parts.specs.Parts.{Parted}
use Rattle.clause_splitting.specs.Splitting.{IsSplitEvent}
use Rattle.proof_steps.specs.declared.step.Line.{Line}
use Rattle.case_journal.specs.Journal.{lines_of}
use Rattle.case_journal.specs.declared.event.Event.{Event}
use Rattle.case_journal.specs.declared.event.Event.TheVariants.{Publish, Split, Activate, Big}
use Rattle.journal_laws.specs.Shifts.{shifted}
use Rattle.case_view.specs.declared.kept.Kept.{Kept}
use Rattle.case_view.specs.declared.kept.Case.{Case}
use Rattle.case_view.specs.Views.{owner_on}
use Rattle.case_rounds.specs.declared.round.Batch.{Batch}
use Rattle.case_rounds.specs.declared.round.Finish.{Finish}
use Rattle.case_rounds.specs.declared.round.Finish.TheVariants as finishes
use Rattle.case_rounds.specs.Rounds.{AreLinesOf, IsFinishOf}

-- ---- the events

-- the publication of the line at the node of the view's path where it belongs
abbrev pub publication_of : Case → Line → Event
publication_of v l = Publish (owner_on v.nodes v.path l.stated.deps) (l ∷ []) false

-- the Split of the given clause, whose parts these are
pub record IsSplitOfGiven (v : Case) (parts : Parted) (last : List Event) : Type 0 where
  pub given : Kept
  pub is_given : v.given ≡ Some given
  pub event : Event
  pub splits : IsSplitEvent v.node given.number parts event
  pub is : last ≡ event ∷ []

-- the events after the publications: none where the last of these states the empty clause
abbrev pub AreLastOf : Case → Finish → List Event → Type 0
AreLastOf v finishes.Closed last = last ≡ []
AreLastOf v (finishes.Big partner symbols) last = last ≡ Big v.node partner symbols ∷ []
AreLastOf v (finishes.Split parts) last = IsSplitOfGiven v parts last
AreLastOf v finishes.Activate last = last ≡ Activate v.node ∷ []

-- the lines are published, and the round is finished
pub record AreEventsOf (v : Case) (lines : List Line) (finish : Finish) (events : List Event) : Type 0 where
  pub last : List Event
  pub finishes : AreLastOf v finish last
  pub are : events ≡ map (publication_of v) lines ++ last

-- the batch was computed from the view, where clauses may be split if fewer than `most` were: it publishes the lines of a round, and finishes that
pub record IsBatchOf (most : ℕ) (v : Case) (b : Batch) : Type 0 where
  pub base : b.base ≡ v.base
  pub lines : List Line
  pub finish : Finish
  pub are : AreLinesOf v lines
  pub ends : IsFinishOf most v lines finish
  pub events : AreEventsOf v lines finish b.events

-- ---- numbers of steps

-- the event with the parents of its steps moved
abbrev pub shifted_event : ℕ → ℕ → Event → Event
shifted_event base by (Publish node chain put_off) = Publish node (shifted base by chain) put_off
shifted_event base by (Split node lines put_off) = Split node (shifted base by lines) put_off
shifted_event base by ev = ev

-- moved by so many, the numbers above the base are numbers of 32 bits
abbrev pub AreMovable : ℕ → ℕ → List ℕ → Type 0
AreMovable base by numbers = (k n : ℕ) → slice_get numbers k ≡ Some n → base < n → n + by < 2 ^ 32

abbrev pub AreLinesMovable : ℕ → ℕ → List Line → Type 0
AreLinesMovable base by lines = (k : ℕ) (l : Line) → slice_get lines k ≡ Some l → AreMovable base by l.step.parents

abbrev pub AreAllMovable : ℕ → ℕ → List Event → Type 0
AreAllMovable base by events = (k : ℕ) (ev : Event) → slice_get events k ≡ Some ev → AreLinesMovable base by (lines_of ev)

-- the parents of these lines are steps up to the base
abbrev pub AreOver : ℕ → List Line → Type 0
AreOver base lines = (k : ℕ) (l : Line) → slice_get lines k ≡ Some l → (j n : ℕ) → slice_get l.step.parents j ≡ Some n → n ≤ base

abbrev pub AreAllOver : ℕ → List Event → Type 0
AreAllOver base events = (k : ℕ) (ev : Event) → slice_get events k ≡ Some ev → AreOver base (lines_of ev)
