use Rattle.reductions.proofs.Noted.{led_first, still_one_clause, line_does, led_on, led_last, note_of}
use Rattle.reductions.proofs.Stating.{given_some}
use Rattle.reductions.proofs.noting.note_for.Goals as goal

pub loop-line-init : goal.loop-line-init
loop-line-init c = led_first c.args.number c.args.target.now.clause c.args.reducts.now c.args.listed.now c.in_ok-now.now c.new-edits.result c.requires.in_order c.requires.chain c.in_ok-now.ensures c.new-edits.ensures

pub edit_along-requires-clause-one_clause : goal.edit_along-requires-clause-one_clause
edit_along-requires-clause-one_clause c = still_one_clause c.args.number c.args.target.now.clause c.args.reducts.now c.args.listed.now c.loop-line.line-index c.loop-line.current.now c.loop-line.now c.loop-line.edits c.loop-line.invariant

pub edit_along-requires-clause-does : goal.edit_along-requires-clause-does
edit_along-requires-clause-does c =
    line_does c.args.number c.args.target.now.clause c.args.reducts.now c.args.listed.now c.loop-line.line-index c.loop-line.current.now c.loop-line.now c.loop-line.edits c.loop-line.invariant c.line-item.result c.loop-line-test.true c.line-item.is

pub loop-line-preserved : goal.loop-line-preserved
loop-line-preserved c =
    led_on c.args.number c.args.target.now.clause c.args.reducts.now c.args.listed.now c.loop-line.line-index c.loop-line.current.now c.loop-line.now c.loop-line.edits c.loop-line.invariant c.line-item.result c.loop-line-test.true c.line-item.is
    c.edit_along.new.now c.edit_along.new.edits c.in_ok-edit_along.ensures.along c.in_ok-edit_along.ensures.maps

pub returns : goal.returns
returns c =
    note_of c.args.number c.args.reduct c.args.target.now.clause c.loop-line.current.now c.loop-line.now c.args.listed.now c.loop-line.edits c.unwrap-subst.result c.requires.apart c.loop-line.invariant.along
    (given_some _ _ _ _ c.unwrap-subst.ensures c.in_ok-subsumes.ensures) c.args.reducts.now
    (led_last c.args.number c.args.target.now.clause c.args.reducts.now c.args.listed.now c.loop-line.line-index c.loop-line.current.now c.loop-line.now c.loop-line.edits c.loop-line.invariant c.loop-line-test.false)
