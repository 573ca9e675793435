use Rattle.std.proofs.Common.{sym, subst, arith}
use Rattle.case_turns.specs.Turns.{IsWaiting}
use Rattle.case_turns.specs.TurnLaws.{waits_on}
use Rattle.worker_tests.proofs.turns.append_after.Goals as goal

pub append-requires-clause-waits : goal.append-requires-clause-waits
append-requires-clause-waits c =
    let a = c.args in
    let t = a.table.now in
    let new = c.rounds.new.table in
    subst (λ s. IsWaiting s new.past 1 a.node a.batch) (sym c.rounds.ensures.setting)
    (waits_on t.setting t.past new.past 2 1 a.node a.batch (λ e. omega (arith, e)) c.in_ok-on.ensures.more c.requires.waits)
