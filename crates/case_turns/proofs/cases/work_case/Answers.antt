use Rattle.std.proofs.Common.{◌≡◌, ◌∙◌, ◌<◌, ◌+◌, ◌∷◌, [], OnOk, None, sym, ap, subst, arith}
use Rattle.case_journal.specs.declared.event.Event.TheVariants.{Claim}
use Rattle.case_journal.specs.Journal.{rounds}
use Rattle.case_journal.specs.Facts.{Holds}
use Rattle.case_journal.specs.Ending.{first_end, has_empty}
use Rattle.case_turns.proofs.Rounds.{open_input}
use Rattle.case_turns.proofs.Desks.{trail_later_on, trail_own, desk_at}
use Rattle.case_turns.proofs.cases.work_case.Goals as goal

pub move_to-requires-clause-trail : goal.move_to-requires-clause-trail
move_to-requires-clause-trail c =
    let t = c.args.table.now in
    let n = c.claim.new.table in
    let desk = c.args.desk.now in
    trail_own n.setting n.past 1 desk (trail_later_on t.setting n.setting t.past n.past 1 desk (record { by = 1; event = Claim c.in_ok-node.node } ∷ []) c.claim.ensures.setting c.in_ok-node.ensures.past c.requires.trail)

pub move_to-requires-clause-holds : goal.move_to-requires-clause-holds
move_to-requires-clause-holds c =
    let n = c.claim.new.table in
    subst (λ w. Holds n.setting n.past w c.in_ok-node.node) (sym c.requires.trail.worker) c.in_ok-node.ensures.free.holds

pub work_on-requires-clause-unrefuted : goal.work_on-requires-clause-unrefuted
work_on-requires-clause-unrefuted c =
    let t = c.args.table.now in
    ap (λ s. has_empty s.input) c.claim.ensures.setting ∙ open_input t.setting t.past c.requires.going

pub work_on-requires-clause-desk : goal.work_on-requires-clause-desk
work_on-requires-clause-desk c =
    let n = c.claim.new.table in
    desk_at n.setting n.past c.args.desk.now.view.worker 1 c.in_ok-node.node c.move_to.new.self c.requires.trail.worker c.in_ok-move_to.ensures

pub returns-clause-more : goal.returns-clause-more
returns-clause-more c =
    let t = c.args.table.now in
    let n = c.claim.new.table in
    let claimed : rounds n.past ≡ rounds t.past + 0 = ap rounds c.in_ok-node.ensures.past in
    let same : rounds n.past ≡ rounds t.past = omega (arith, claimed) in
    subst (λ k. OnOk c.work_on.result (first_end c.work_on.new.table.past ≡ None → k < rounds c.work_on.new.table.past)) same c.work_on.ensures.more
