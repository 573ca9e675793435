use Rattle.std.proofs.Common.{◌∙◌, ◌∷◌, [], refl, sym, ap, arith}
use Rattle.case_journal.specs.Ending.{has_empty}
use Rattle.case_journal.specs.PlaceLaws.{claimed_within}
use Rattle.case_turns.specs.Desks.{IsDeskNow}
use Rattle.case_turns.proofs.Desks.{desk_caught, desk_after, desk_moved, trail_later_on}
use Rattle.case_turns.proofs.Rounds.{choice, free_moved, legal_spent}
use Rattle.case_turns.proofs.leaves.work_round.Goals as goal

pub pick-requires-clause-there : goal.pick-requires-clause-there
pick-requires-clause-there c =
    let t = c.args.table.now in
    let r = c.reserve.new.self in
    let e = c.reserve.ensures in
    claimed_within r.setting r.past c.laws.ensures.legal 1 c.args.node (free_moved t r 1 c.args.node e.setting e.past c.requires.free).holds.claims

pub apply-requires-then-rounds-limits-clause-legal : goal.apply-requires-then-rounds-limits-clause-legal
apply-requires-then-rounds-limits-clause-legal c =
    let t = c.args.table.now in
    let r = c.reserve.new.self in
    let e = c.reserve.ensures in
    legal_spent c.chosen_leaves_are_held.ensures r c.args.node c.in-Some.clause c.laws.ensures.legal (ap (λ s. s.workers) e.setting ∙ c.requires.one) (free_moved t r 1 c.args.node e.setting e.past c.requires.free) (sym c.pick.ensures.pick ∙ c.in-Some.is)
    (omega (arith, c.if-rounds-limits.true, c.rounds.ensures, ap (λ l. l.rounds) c.limits.ensures))

pub finish_round-requires-clause-unrefuted : goal.finish_round-requires-clause-unrefuted
finish_round-requires-clause-unrefuted c = ap (λ s. has_empty s.input) (c.choose.ensures.setting ∙ c.reserve.ensures.setting) ∙ c.requires.unrefuted

pub finish_round-requires-clause-desk : goal.finish_round-requires-clause-desk
finish_round-requires-clause-desk c =
    let t = c.args.table.now in
    let m = c.args.node in
    let r = c.reserve.new.self in
    let e = c.reserve.ensures in
    let n = c.choose.new.table in
    let old = c.args.desk.now in
    let d = c.catch_up.new.self in
    let moved = desk_moved t.setting r.setting t.past r.past 1 m old e.setting e.past c.requires.desk in
    let now = desk_caught r.setting r.past 1 m old d moved c.in_ok-catch_up.ensures in
    let picked : IsDeskNow r.setting r.past 1 m (record { view = d.view; marks = d.marks; queue = c.pick.new.self }) = record { stands = now.stands; node = now.node; trail = record { worker = now.trail.worker; trail = now.trail.trail }; queue = c.pick.ensures.queue } in
    desk_moved r.setting n.setting n.past n.past 1 m (record { view = d.view; marks = d.marks; queue = c.pick.new.self }) c.choose.ensures.setting refl
    (desk_after r.setting r.past n.past (choice 1 m c.in-Some.clause ∷ []) 1 m (record { view = d.view; marks = d.marks; queue = c.pick.new.self }) c.choose.ensures.past picked)

pub returns-in_default-clause-trail : goal.returns-in_default-clause-trail
returns-in_default-clause-trail c =
    let t = c.args.table.now in
    let m = c.args.node in
    let r = c.reserve.new.self in
    let e = c.reserve.ensures in
    let n = c.apply.new.self in
    let d = c.catch_up.new.self in
    let now = desk_caught r.setting r.past 1 m c.args.desk.now d (desk_moved t.setting r.setting t.past r.past 1 m c.args.desk.now e.setting e.past c.requires.desk) c.in_ok-catch_up.ensures in
    trail_later_on r.setting n.setting r.past n.past 1 (record { view = d.view; marks = d.marks; queue = c.pick.new.self }) (_ ∷ []) c.apply.ensures.setting c.apply.ensures.past (record { worker = now.trail.worker; trail = now.trail.trail })

pub returns-then-rounds-limits-clause-trail : goal.returns-then-rounds-limits-clause-trail
returns-then-rounds-limits-clause-trail c =
    let t = c.args.table.now in
    let m = c.args.node in
    let r = c.reserve.new.self in
    let e = c.reserve.ensures in
    let n = c.apply-then-rounds-limits.new.self in
    let d = c.catch_up.new.self in
    let now = desk_caught r.setting r.past 1 m c.args.desk.now d (desk_moved t.setting r.setting t.past r.past 1 m c.args.desk.now e.setting e.past c.requires.desk) c.in_ok-catch_up.ensures in
    trail_later_on r.setting n.setting r.past n.past 1 (record { view = d.view; marks = d.marks; queue = c.pick.new.self }) (_ ∷ []) c.apply-then-rounds-limits.ensures.setting c.apply-then-rounds-limits.ensures.past (record { worker = now.trail.worker; trail = now.trail.trail })
