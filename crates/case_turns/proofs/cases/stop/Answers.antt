use Rattle.std.proofs.Common.{◌∙◌, sym}
use Rattle.case_turns.proofs.Rounds.{stop_cost, not_some}
use Rattle.case_turns.proofs.cases.stop.Goals as goal

pub apply-requires-clause-event_fits : goal.apply-requires-clause-event_fits
apply-requires-clause-event_fits c =
    let t = c.args.table.now in
    stop_cost t.past 1 t.spare_events (c.laws.ensures.unended (sym c.reason.ensures ∙ not_some c.reason.result c.if-is_none.ensures))
