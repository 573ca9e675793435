-- What a worker keeps of the leaf that it holds.
use Rattle.std.specs.Prelude.{◌≡◌, ◌⊎◌, ℕ, true, List, ◌++◌, map, reverse}
use Rattle.case_journal.specs.declared.event.Entry.{Entry}
use Rattle.case_journal.specs.Journal.{Setting}
use Rattle.case_queue.specs.Queues.{HasQueue}
use Rattle.case_view.specs.declared.kept.Case.{Case}
use Rattle.case_view.specs.declared.kept.Kept.{Kept}
use Rattle.case_view.specs.Trails.{IsTrail}
use Rattle.case_view.specs.Views.{HasNumber, is_split_on, StandsFor}
use Rattle.case_turns.specs.declared.desk.Desk.{Desk}

-- the numbers of these clauses, in their order
abbrev pub AreNumbersOf : List Kept → List ℕ → Type 0
AreNumbersOf clauses numbers = numbers ≡ map (λ k. k.number) clauses

-- clause n is worked off at the leaf of the view, or was split on its path
abbrev pub IsRetired : Case → ℕ → Type 0
IsRetired v n = HasNumber v.worked n ⊎ (is_split_on v.path n ≡ true)

-- its view is the worker's, and can go back to each of its marks
pub record HasTrail (s : Setting) (past : List Entry) (w : ℕ) (desk : Desk) : Type 0 where
  pub worker : desk.view.worker ≡ w
  pub trail : IsTrail s past (reverse desk.marks) desk.view

-- it is that of the leaf m, which the worker holds, after this journal
pub record IsDeskNow (s : Setting) (past : List Entry) (w m : ℕ) (desk : Desk) : Type 0 where
  pub stands : StandsFor s past desk.view
  pub node : desk.view.node ≡ m
  pub trail : HasTrail s past w desk
  pub queue : HasQueue s past m desk.queue

-- it is that of the leaf m after some beginning of the journal
pub record IsDesk (s : Setting) (past : List Entry) (w m : ℕ) (desk : Desk) : Type 0 where
  pub start : List Entry
  pub later : List Entry
  pub more : past ≡ later ++ start
  pub was : IsDeskNow s start w m desk
