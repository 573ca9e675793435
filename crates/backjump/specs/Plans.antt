-- The case steps that follow where an empty clause is published at a node of a settled tree.
use Rattle.std.specs.Prelude.{◌≡◌, ℕ, ◌+◌, ◌-◌, ◌%◌, ◌==◌, ◌≤◌, if◌then◌else◌, false, List, [], ◌∷◌, length, Some, slice_get}
use Rattle.dep_sets.specs.declared.deps.Assumption.{Assumption}
use Rattle.proof_steps.specs.declared.step.Line.{Line}
use Rattle.proof_steps.specs.Steps.{numbered}
use Rattle.case_journal.specs.declared.branch.Branch.{Branch}
use Rattle.case_journal.specs.declared.event.Entry.{Entry}
use Rattle.case_journal.specs.declared.event.Event.{Event}
use Rattle.case_journal.specs.declared.event.Event.TheVariants.{Publish}
use Rattle.case_journal.specs.Journal.{Setting, nodes, ledger}
use Rattle.case_journal.specs.Paths.{branch, owner}
use Rattle.case_journal.specs.Legal.{IsLegalJournal, IsSettled, IsFirstEmpty}
use Rattle.backjump.specs.Cases.{case_line, OnlyCloses, IsOpenOrProved}

-- the journal after the worker has appended these events, one after another
abbrev pub appended : ℕ → List Event → List Entry → List Entry
appended by [] past = past
appended by (ev ∷ evs) past = appended by evs (record { by = by; event = ev } ∷ past)

-- the number of the other child of the same parent
abbrev pub twin_of : ℕ → ℕ
twin_of at = if at % 2 == 1 then at + 1 else at - 1

-- the line that closes the split of a clause, where the child is dead by the empty clause with the number, which depends on deps, and the other child by another one
abbrev pub sided_line : ℕ → ℕ → List Assumption → ℕ → List Assumption → ℕ → List Assumption → Line
sided_line at split whole number deps twin_empty twin_deps =
    if at % 2 == 1 then case_line split whole number deps twin_empty twin_deps else case_line split whole twin_empty twin_deps number deps

-- the case step that follows where the empty clause with the number is the first one at a node, and depends on deps
pub record IsNext (s : Setting) (past : List Entry) (at number : ℕ) (deps : List Assumption) (node : ℕ) (line : Line) : Type 0 where
  pub inner : ℕ
  pub clause : ℕ
  pub above : (b : Branch) → branch past at ≡ Some b → (b.parent ≡ inner) × (b.assumed.split ≡ clause)
  pub twin_empty : ℕ
  pub first : IsFirstEmpty s past (twin_of at) twin_empty
  pub whole : Line
  pub is_whole : numbered (ledger s past) clause ≡ Some whole
  pub other : Line
  pub is_other : numbered (ledger s past) twin_empty ≡ Some other
  pub is_line : line ≡ sided_line at clause whole.stated.deps number deps twin_empty other.stated.deps
  pub belongs : node ≡ owner past line.stated.deps inner

-- the event publishes that step
pub record IsNextEvent (s : Setting) (past : List Entry) (at number : ℕ) (deps : List Assumption) (node : ℕ) (more : List Assumption) (ev : Event) : Type 0 where
  pub line : Line
  pub next : IsNext s past at number deps node line
  pub is : ev ≡ Publish node (line ∷ []) false
  pub depends : more ≡ line.stated.deps

-- the event publishes one line
pub record IsOneLine (ev : Event) : Type 0 where
  pub node : ℕ
  pub line : Line
  pub is : ev ≡ Publish node (line ∷ []) false

-- these events may be appended one after another; the first is this one, the others are case steps, and then the tree is settled
pub record IsPlan (s : Setting) (past : List Entry) (by : ℕ) (first : Event) (evs : List Event) : Type 0 where
  pub legal : IsLegalJournal s (appended by evs past)
  pub few : length evs ≤ nodes past
  pub each : (k : ℕ) (ev : Event) → slice_get evs k ≡ Some ev → IsOneLine ev
  pub closes : OnlyCloses by (record { by = by; event = first } ∷ past) (appended by evs past)
  pub settled : IsSettled s (appended by evs past)
  pub ended : IsOpenOrProved (appended by evs past)
