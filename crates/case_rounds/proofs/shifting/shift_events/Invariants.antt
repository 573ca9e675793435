use Rattle.std.proofs.Common.{◌≡◌, ◌++◌, take, drop, map}
use Rattle.case_rounds.specs.Events.{shifted_event}
use Rattle.case_rounds.proofs.shifting.shift_events.Given as goal

-- the first ones are moved, the others as they were
abbrev pub invariant-loop-event : goal.invariant-loop-event
invariant-loop-event l = l.events ≡ map (shifted_event l.base l.by) (take l.event-index l.initial.events) ++ drop l.event-index l.initial.events
