use Rattle.std.proofs.Common.{◌≡◌, subst, arith}
use Rattle.case_journal.specs.Journal.{steps}
use Rattle.case_queue.specs.Queues.{HasFirst}
use Rattle.case_turns.proofs.desk.add_lines.Goals as goal

pub returns : goal.returns
returns c =
    let t = c.args.table.now in
    let all : c.loop-place.place ≡ steps t.setting t.past = omega (arith, c.loop-place-test.false, c.requires.within, c.steps-place-end.ensures) in
    subst (λ n. HasFirst t.setting t.past c.args.node n c.loop-place.queue) all c.loop-place.invariant
