use Rattle.std.proofs.Common.{sym, ap, subst, rules}
use Rattle.std.specs.Prelude.{IsSome}
use Rattle.case_journal.specs.Facts.{Holds}
use Rattle.case_rounds.specs.Events.{IsBatchOf}
use Rattle.case_turns.specs.TurnLaws.{waits_now}
use Rattle.worker_tests.proofs.turns.compute.Goals as goal

pub returns : goal.returns
returns c =
    let t = c.args.table.now in
    let v = c.in_ok-view.view in
    let b = c.in_ok-batch.batch in
    let stands = c.in_ok-view.ensures.stands in
    let worker = c.in_ok-view.ensures.worker in
    let given : IsSome v.given = search rules in
    let made = subst (λ n. IsBatchOf n v b) (ap (λ l. l.splits) c.limits.ensures) c.in_ok-batch.ensures in
    let holds = subst (λ m. Holds t.setting t.past c.args.by m) (sym c.node.ensures) (subst (λ w. Holds t.setting t.past w v.node) worker stands.holds) in
    waits_now t c.args.by c.node.result v b c.laws.ensures.legal (sym c.node.ensures) worker holds
    (c.rounds_can_be_appended.ensures t.setting t.past v b c.laws.ensures.legal stands given made)
