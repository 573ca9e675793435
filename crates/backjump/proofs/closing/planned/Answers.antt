use Rattle.std.proofs.Common.{◌-◌, ◌≡◌, ◌∙◌, ap, sym, subst, arith, refl, length, false, Some, slice_get}
use Rattle.std.proofs.lemmas.Option.{slice_get_read}
use Rattle.case_journal.specs.declared.event.Event.TheVariants.{Publish}
use Rattle.backjump.proofs.Follow.{plan_first, plan_more, plan_done, next_low, root_settled, twin_settled, next_of, none_due, IsPlanned}
use Rattle.backjump.proofs.closing.planned.Goals as goal

pub loop-at-init : goal.loop-at-init
loop-at-init c =
    let s = c.args.table.now.setting in
    let p = c.args.table.now.past in
    let xs = c.as_slice.result.now in
    let one : length c.args.chain ≡ 1 = ap length (c.requires.legal.asked.asked.one) in
    let k = c.len-last.result - 1 in
    let first : k ≡ 0 = omega (arith, c.len-last.ensures, one) in
    let read = slice_get_read xs (length xs) k c.index-as_slice-last.result refl (omega (arith, first, one, ap length c.as_slice.ensures)) c.index-as_slice-last.is in
    let got = subst (λ n. slice_get xs n ≡ Some c.index-as_slice-last.result) first read in
    plan_first s p c.args.by c.args.node c.args.chain c.index-as_slice-last.result c.laws.ensures.legal c.requires.legal c.requires.settled (ap (λ ys. slice_get ys 0) (sym c.as_slice.ensures) ∙ got) c.requires.empty
    c.in_ok-events.events.items c.in_ok-events.ensures.items c.in_ok-deps.deps (c.in_ok-deps.ensures ∙ ap (λ x. x.stated.deps) (sym c.index-as_slice-last.is)) c.in_ok-number.number (omega (arith, c.in_ok-number.ensures, c.steps.ensures, c.len.ensures, one))

pub next_step-requires-clause-there : goal.next_step-requires-clause-there
next_step-requires-clause-there c = omega (arith, c.loop-at.invariant.way.there, c.loop-at.invariant.way.count)

pub returns-in_default : goal.returns-in_default
returns-in_default c =
    let s = c.args.table.now.setting in
    let p = c.args.table.now.past in
    let i = c.loop-at.invariant in
    let live = none_due s p c.loop-at.at c.loop-at.number c.loop-at.deps c.in_ok-next.field-0 c.in_ok-next.ensures c.in_default.is in
    plan_done s p c.args.by (Publish c.args.node c.args.chain false) c.loop-at.events.items c.loop-at.at c.loop-at.number c.loop-at.deps i
    (twin_settled s p _ c.args.by c.loop-at.at c.loop-at.number c.loop-at.deps c.laws.ensures.legal i.way c.loop-at-test.true live)

pub loop-at-smaller : goal.loop-at-smaller
loop-at-smaller c =
    let next = next_of c.args.table.now.setting c.args.table.now.past c.loop-at.at c.loop-at.number c.loop-at.deps c.in_ok-next.field-0 c.in-Some.next c.in_ok-next.ensures c.in-Some.is in
    next_low c.args.table.now.setting c.args.table.now.past c.laws.ensures.legal c.args.by (Publish c.args.node c.args.chain false) c.loop-at.events.items c.loop-at.at c.loop-at.number c.loop-at.deps c.requires.legal.some c.requires.legal.worker
    c.loop-at.invariant c.loop-at-test.true c.in-Some.next.node c.in-Some.next.deps c.in-Some.next.event next

pub loop-at-preserved : goal.loop-at-preserved
loop-at-preserved c =
    let s = c.args.table.now.setting in
    let p = c.args.table.now.past in
    let next = next_of c.args.table.now.setting c.args.table.now.past c.loop-at.at c.loop-at.number c.loop-at.deps c.in_ok-next.field-0 c.in-Some.next c.in_ok-next.ensures c.in-Some.is in
    let made = plan_more s p c.laws.ensures.legal c.args.by (Publish c.args.node c.args.chain false) c.loop-at.events.items c.loop-at.at c.loop-at.number c.loop-at.deps c.requires.legal.some c.requires.legal.worker
    c.loop-at.invariant c.loop-at-test.true c.in-Some.next.node c.in-Some.next.deps c.in-Some.next.event next c.push.new.self.items c.in_ok-push.ensures.items in
    subst (λ k. IsPlanned s p c.args.by (Publish c.args.node c.args.chain false) c.push.new.self.items c.in-Some.next.node k c.in-Some.next.deps) (sym c.in_ok-number-2.ensures) made

pub returns : goal.returns
returns c =
    let s = c.args.table.now.setting in
    let p = c.args.table.now.past in
    let i = c.loop-at.invariant in
    plan_done s p c.args.by (Publish c.args.node c.args.chain false) c.loop-at.events.items c.loop-at.at c.loop-at.number c.loop-at.deps i
    (root_settled s p _ c.args.by c.loop-at.at c.loop-at.number c.loop-at.deps i.way (omega (arith, c.loop-at-test.false)))
