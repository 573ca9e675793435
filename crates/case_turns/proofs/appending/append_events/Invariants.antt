use Rattle.std.proofs.Common.{◌≡◌, ◌≤◌, ◌++◌, None, length}
use Rattle.std.specs.Prelude.{sum_by}
use Rattle.case_journal.specs.declared.event.Event.{Event}
use Rattle.case_journal.specs.Journal.{lines_of, splits}
use Rattle.case_journal.specs.Ending.{first_end}
use Rattle.case_journal.specs.Legal.{IsLegalJournal, IsSettled}
use Rattle.case_rounds.specs.declared.round.Batch.{Batch}
use Rattle.case_rounds.specs.Appending.{IsBatchReady}
use Rattle.case_turns.specs.Turns.{Continues}
use Rattle.case_turns.proofs.Sequence.{IsSoFar}
use Rattle.case_turns.proofs.appending.append_events.Given as goal

abbrev pub invariant-loop-event : goal.invariant-loop-event
invariant-loop-event l = record {
  setting : l.table.setting ≡ l.fn.table.setting;
  legal : IsLegalJournal l.fn.table.setting l.table.past;
  settled : IsSettled l.fn.table.setting l.table.past;
  unended : first_end l.table.past ≡ None;
  splits : splits l.table.past ≡ splits l.fn.table.past;
  more : Continues l.by l.fn.table.past l.table.past;
  joined : l.fn.events ≡ l.yielded ++ l.event-iterator.rest.items;
  events_fit : length l.event-iterator.rest.items ≤ l.table.spare_events;
  steps_fit : sum_by (λ (ev : Event). length (lines_of ev)) l.event-iterator.rest.items ≤ l.table.spare_steps;
  way : (b : Batch) (r : IsBatchReady l.fn.table.setting l.fn.table.past l.by l.node b) → l.fn.events ≡ b.events → IsSoFar l.fn.table.setting r.can.start l.table.past l.by l.node r.lines l.yielded;
}
