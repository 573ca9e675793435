use Rattle.std.proofs.Common.{◌∙◌, ap, arith, subst}
use Rattle.case_journal.specs.Ending.{has_empty}
use Rattle.case_journal.specs.BoundLaws.{rounds_bound}
use Rattle.case_turns.specs.Working.{GoesOnAt}
use Rattle.case_turns.proofs.leaves.work_on.Goals as goal

pub work_round-requires-clause-unrefuted : goal.work_round-requires-clause-unrefuted
work_round-requires-clause-unrefuted c = ap (λ s. has_empty s.input) c.loop-table.invariant.setting ∙ c.requires.unrefuted

pub loop-table-smaller : goal.loop-table-smaller
loop-table-smaller c =
    let n = c.work_round.new.table in
    let r = c.in_ok-work_round.ensures in
    let held = subst (λ b. GoesOnAt n 1 c.args.node c.work_round.new.desk b) c.if-not-branch.false r.held in
    omega (arith, r.more held.0.unended, rounds_bound n.setting n.past c.laws.ensures.legal, ap (λ s. s.limits.rounds) (c.work_round.ensures.setting ∙ c.loop-table.invariant.setting))
