use Rattle.std.proofs.Common.{◌∙◌, arith}
use Rattle.case_turns.proofs.Turns.{if_ok}
use Rattle.case_turns.proofs.Waiting.{ready_now, ready_moved, can_not_split}
use Rattle.case_turns.proofs.appending.append.Goals as goal

pub overflow_sub-more : goal.overflow_sub-more
overflow_sub-more c =
    let a = c.args in
    let t = a.table.now in
    let ready = ready_now c.rounds_wait.ensures t.setting t.past a.by a.node a.batch c.laws.ensures.legal c.if-not-live.ensures c.requires.waits in
    omega (arith, ready.base, c.steps.ensures)

pub append_events-requires-clause-ready : goal.append_events-requires-clause-ready
append_events-requires-clause-ready c =
    let a = c.args in
    let t = a.table.now in
    let ready = ready_now c.rounds_wait.ensures t.setting t.past a.by a.node a.batch c.laws.ensures.legal c.if-not-live.ensures c.requires.waits in
    ready_moved t c.take_room.new.table a.by a.node a.batch c.shift.new.self.events ready c.take_room.ensures.setting c.take_room.ensures.past
    (c.shift.ensures.events ∙ c.steps_over_the_base_stay.ensures a.batch.base _ a.batch.events ready.over)

pub returns-clause-again : goal.returns-clause-again
returns-clause-again c =
    let a = c.args in
    let t = a.table.now in
    let ready = ready_now c.rounds_wait.ensures t.setting t.past a.by a.node a.batch c.laws.ensures.legal c.if-not-live.ensures c.requires.waits in
    let same = c.shift.ensures.events ∙ c.steps_over_the_base_stay.ensures a.batch.base _ a.batch.events ready.over in
    if_ok c.append_events.result (λ done spent is. can_not_split t c.take_room.new.table a.batch.events c.shift.new.self.events c.take_room.ensures.setting c.take_room.ensures.past same (spent is)) c.append_events.ensures.again
