use Rattle.std.proofs.Common.{sym, subst}
use Rattle.case_journal.specs.Journal.{lines_of}
use Rattle.case_rounds.specs.Events.{AreLinesMovable}
use Rattle.case_rounds.proofs.shifting.shift_event.Goals as goal

pub shift_lines-requires : goal.shift_lines-requires
shift_lines-requires c =
    subst (AreLinesMovable c.args.base c.args.by) (sym c.as_mut_slice.ensures.value)
    (subst (λ e. AreLinesMovable c.args.base c.args.by (lines_of e)) c.in-Publish.is c.requires)

pub shift_lines-requires-in-Split : goal.shift_lines-requires-in-Split
shift_lines-requires-in-Split c =
    subst (AreLinesMovable c.args.base c.args.by) (sym c.as_mut_slice-in-Split.ensures.value)
    (subst (λ e. AreLinesMovable c.args.base c.args.by (lines_of e)) c.in-Split.is c.requires)
