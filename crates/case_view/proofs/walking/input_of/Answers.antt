use Rattle.std.proofs.Common.{◌∙◌, ◌++◌, [], ◌∷◌, length, ap, arith}
use Rattle.case_view.proofs.ListSteps.{input_within, input_pushed, input_all}
use Rattle.case_view.proofs.walking.input_of.Goals as goal

pub overflow_cast-number : goal.overflow_cast-number
overflow_cast-number c =
    let t = c.args.table.now in
    omega (arith, c.loop-place-test.true, ap length c.input-place-end.ensures, input_within t.setting t.past, c.laws.ensures.few_steps)

pub overflow_add-number : goal.overflow_add-number
overflow_add-number c =
    let t = c.args.table.now in
    omega (arith, c.loop-place-test.true, ap length c.input-place-end.ensures, input_within t.setting t.past, c.laws.ensures.few_steps)

pub line-requires-clause-there : goal.line-requires-clause-there
line-requires-clause-there c =
    let t = c.args.table.now in
    omega (arith, c.loop-place-test.true, ap length c.input-place-end.ensures, input_within t.setting t.past)

pub loop-place-preserved : goal.loop-place-preserved
loop-place-preserved c =
    let t = c.args.table.now in
    let old = c.loop-place.list in
    input_pushed t.setting t.past c.loop-place.place c.line.result.now old c.push.new.self (omega (arith, c.loop-place-test.true, ap length c.input-place-end.ensures)) c.line.ensures c.loop-place.invariant
    (c.in_ok-push.ensures.ok ∙ ap (λ x. old ++ x ∷ []) c.in_ok-keep.ensures)

pub returns : goal.returns
returns c = input_all c.args.table.now.setting c.loop-place.place c.loop-place.list (omega (arith, c.loop-place-test.false, ap length c.input-place-end.ensures)) c.loop-place.invariant
