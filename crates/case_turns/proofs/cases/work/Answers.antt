use Rattle.std.proofs.Common.{◌∙◌, sym, ap, arith}
use Rattle.case_journal.specs.BoundLaws.{rounds_bound}
use Rattle.case_turns.proofs.Rounds.{not_some}
use Rattle.case_turns.proofs.cases.work.Goals as goal

pub loop-desk-smaller : goal.loop-desk-smaller
loop-desk-smaller c =
    let n = c.work_case.new.table in
    let laws = c.laws.ensures in
    let unended = laws.unended (sym c.reason-in-loop-desk.ensures ∙ not_some c.reason-in-loop-desk.result (sym c.if-is_some-3.ensures)) in
    omega (arith, c.in_ok-work_case.ensures.more unended, rounds_bound n.setting n.past laws.legal, ap (λ s. s.limits.rounds) (c.work_case.ensures.setting ∙ c.loop-desk.invariant.setting))
