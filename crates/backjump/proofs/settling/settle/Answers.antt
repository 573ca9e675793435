use Rattle.std.proofs.Common.{◌-◌, ◌∙◌, inl, ap, subst, arith}
use Rattle.case_journal.specs.Facts.{IsLive}
use Rattle.backjump.proofs.Pairs.{pairs}
use Rattle.backjump.proofs.Steps.{none_added, closes_trans, settled_from, all_settled}
use Rattle.backjump.proofs.settling.settle.Goals as goal

pub loop-place-init : goal.loop-place-init
loop-place-init c =
    let s = c.args.table.now.setting in
    let p = c.args.table.now.past in
    let k = pairs p in
    let none = none_added s c.args.by 0 p in
    record {
      setting = λ i. s;
      closes = none.closes;
      few = omega (arith, k.1, c.nodes-place.ensures);
      unended = λ live. c.requires.unended;
      ended = inl c.requires.unended;
      settled = λ j high low. absurd (omega (arith, k.1, c.nodes-place.ensures));
    }

pub settle_pair-requires-clause-worker : goal.settle_pair-requires-clause-worker
settle_pair-requires-clause-worker c = omega (arith, c.requires.worker, ap (λ x. x.workers) c.loop-place.invariant.setting)

pub settle_pair-requires-clause-there : goal.settle_pair-requires-clause-there
settle_pair-requires-clause-there c = omega (arith, c.loop-place.invariant.few, c.loop-place-test.true)

pub settle_pair-requires-clause-unended : goal.settle_pair-requires-clause-unended
settle_pair-requires-clause-unended c = c.loop-place.invariant.unended

pub loop-place-preserved : goal.loop-place-preserved
loop-place-preserved c =
    let i = c.loop-place.invariant in
    let s = c.loop-place.table.setting in
    let t = c.settle_pair.new.table.setting in
    let p = c.loop-place.table.past in
    let q = c.settle_pair.new.table.past in
    let step = c.settle_pair.ensures.step in
    let same = c.settle_pair.ensures.setting in
    record {
      setting = same ∙ i.setting;
      closes = closes_trans c.args.by c.args.table.now.past p q i.closes step.closes;
      few = omega (arith, i.few, step.count, c.loop-place-test.true);
      unended = λ live. step.goes_on i.unended (subst (λ x. IsLive x q 0) same live);
      ended = step.ended i.ended;
      settled = settled_from s t c.args.by (c.loop-place.place - 1) p q same step c.in_ok-settle_pair.ensures.settled (λ j high low. i.settled j (omega (arith, high, c.loop-place-test.true)) low);
    }

pub returns-in_err-settle_pair-clause-setting : goal.returns-in_err-settle_pair-clause-setting
returns-in_err-settle_pair-clause-setting c = c.settle_pair.ensures.setting ∙ c.loop-place.invariant.setting

pub returns-in_err-settle_pair-clause-closes : goal.returns-in_err-settle_pair-clause-closes
returns-in_err-settle_pair-clause-closes c = closes_trans c.args.by c.args.table.now.past c.loop-place.table.past c.settle_pair.new.table.past c.loop-place.invariant.closes c.settle_pair.ensures.step.closes

pub returns-in_err-settle_pair-clause-ended : goal.returns-in_err-settle_pair-clause-ended
returns-in_err-settle_pair-clause-ended c = c.settle_pair.ensures.step.ended c.loop-place.invariant.ended

pub returns-clause-setting : goal.returns-clause-setting
returns-clause-setting c = c.loop-place.invariant.setting

pub returns-clause-closes : goal.returns-clause-closes
returns-clause-closes c = c.loop-place.invariant.closes

pub returns-clause-settled : goal.returns-clause-settled
returns-clause-settled c =
    all_settled c.loop-place.table.setting c.loop-place.table.past c.laws.ensures.legal (λ j low. c.loop-place.invariant.settled j (omega (arith, c.loop-place-test.false)) low)

pub returns-clause-ended : goal.returns-clause-ended
returns-clause-ended c = c.loop-place.invariant.ended
