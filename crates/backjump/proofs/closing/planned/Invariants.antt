use Rattle.std.proofs.Common.{false}
use Rattle.case_journal.specs.declared.event.Event.TheVariants.{Publish}
use Rattle.backjump.proofs.Follow.{IsPlanned}
use Rattle.backjump.proofs.closing.planned.Given as goal

abbrev pub invariant-loop-at : goal.invariant-loop-at
invariant-loop-at l = IsPlanned l.table.setting l.table.past l.by (Publish l.node l.fn.chain false) l.events.items l.at l.number l.deps

abbrev pub decreases-loop-at : goal.decreases-loop-at
decreases-loop-at l = l.at
