use Rattle.std.proofs.Common.{◌≡◌, take, length}
use Rattle.std.specs.Prelude.{sum_by}
use Rattle.case_journal.specs.declared.event.Event.{Event}
use Rattle.case_journal.specs.Journal.{lines_of}
use Rattle.case_turns.proofs.appending.step_count.Given as goal

abbrev pub invariant-loop-event : goal.invariant-loop-event
invariant-loop-event l = l.count ≡ sum_by (λ (ev : Event). length (lines_of ev)) (take l.event-index l.events)
