use Rattle.std.proofs.Common.{arith}
use Rattle.spl_terms.specs.ChangeLaws.{changed_in_place}
use Rattle.case_rounds.specs.Events.{shifted_event}
use Rattle.case_rounds.proofs.shifting.shift_events.Goals as goal

pub loop-event-preserved : goal.loop-event-preserved
loop-event-preserved c =
    changed_in_place (shifted_event c.args.base c.args.by) c.args.events.now c.loop-event.events c.loop-event.event-index c.event-item.result c.shift_event.new.event
    (omega arith) c.loop-event.invariant c.shift_event.ensures
