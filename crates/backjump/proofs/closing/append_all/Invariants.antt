use Rattle.std.specs.List.{slice_get}
use Rattle.std.proofs.Common.{◌≡◌, ◌≤◌, ℕ, length, Some}
use Rattle.case_journal.specs.declared.event.Event.{Event}
use Rattle.case_journal.specs.Legal.{IsLegalJournal}
use Rattle.backjump.specs.Plans.{appended, IsOneLine}
use Rattle.backjump.proofs.closing.append_all.Given as goal

abbrev pub invariant-loop-event : goal.invariant-loop-event
invariant-loop-event l = record {
  setting : l.table.setting ≡ l.fn.table.setting;
  goes : appended l.by l.event-iterator.rest.items l.table.past ≡ appended l.by l.fn.events.items l.fn.table.past;
  legal : IsLegalJournal l.table.setting (appended l.by l.event-iterator.rest.items l.table.past);
  each : (k : ℕ) (ev : Event) → slice_get l.event-iterator.rest.items k ≡ Some ev → IsOneLine ev;
  events : length l.event-iterator.rest.items ≤ l.table.spare_events;
  steps : length l.event-iterator.rest.items ≤ l.table.spare_steps;
}
