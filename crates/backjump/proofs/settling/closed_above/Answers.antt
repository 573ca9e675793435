use Rattle.std.proofs.Common.{◌≡◌, ◌+◌, ◌*◌, subst, arith}
use Rattle.case_journal.specs.Paths.{branch_to}
use Rattle.backjump.proofs.Pairs.{pair_at}
use Rattle.case_journal.specs.Facts.{IsLive}
use Rattle.backjump.proofs.Steps.{settled_left, settled_right, can_close}
use Rattle.backjump.proofs.settling.closed_above.Goals as goal

pub overflow_mul-left : goal.overflow_mul-left
overflow_mul-left c = omega (arith, c.requires, c.laws.ensures.few_nodes)

pub overflow_add-left : goal.overflow_add-left
overflow_add-left c = omega (arith, c.requires, c.laws.ensures.few_nodes)

pub live-requires : goal.live-requires
live-requires c =
    let p = pair_at c.args.table.now.setting c.args.table.now.past c.laws.ensures.legal c.args.place c.requires in
    let q = c.split_above-inner.ensures (branch_to p.inner p.clause 1) p.left.hangs in
    let low = p.below in
    omega (arith, c.requires, q.0)

pub overflow_add-left-2 : goal.overflow_add-left-2
overflow_add-left-2 c =
    let p = pair_at c.args.table.now.setting c.args.table.now.past c.laws.ensures.legal c.args.place c.requires in
    omega (arith, p.right.there, c.laws.ensures.few_nodes)

pub first_empty-requires-2 : goal.first_empty-requires-2
first_empty-requires-2 c =
    let p = pair_at c.args.table.now.setting c.args.table.now.past c.laws.ensures.legal c.args.place c.requires in
    omega (arith, p.right.there)

pub returns-in_default : goal.returns-in_default
returns-in_default c =
    let p = pair_at c.args.table.now.setting c.args.table.now.past c.laws.ensures.legal c.args.place c.requires in
    settled_left c.args.table.now.setting c.args.table.now.past c.args.place p c.in_default.ensures

pub returns-in_default-first_empty : goal.returns-in_default-first_empty
returns-in_default-first_empty c =
    let p = pair_at c.args.table.now.setting c.args.table.now.past c.laws.ensures.legal c.args.place c.requires in
    let z : 2 * c.args.place + 1 + 1 ≡ 2 * c.args.place + 2 = omega arith in
    settled_right c.args.table.now.setting c.args.table.now.past c.args.place p (subst (IsLive c.args.table.now.setting c.args.table.now.past) z c.in_default-first_empty.ensures)

pub returns : goal.returns
returns c =
    let s = c.args.table.now.setting in
    let past = c.args.table.now.past in
    let p = pair_at s past c.laws.ensures.legal c.args.place c.requires in
    can_close s past c.args.place p c.split_above-inner.result.0 c.split_above-inner.result.1 c.in-Some.left_empty c.in-Some-first_empty.right_empty c.split_above-inner.ensures c.if-not-live.ensures c.in-Some.ensures c.in-Some-first_empty.ensures
