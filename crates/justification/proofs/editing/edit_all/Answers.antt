use Rattle.justification.proofs.EditSteps.{stopped}
use Rattle.justification.proofs.editing.edit_all.Goals as goal

pub returns-then-not-branch : goal.returns-then-not-branch
returns-then-not-branch c =
    let before = c.args.clause.now in
    let now = c.loop-edit.clause in
    let none = rw c.if-not-branch.true at c.in_ok-edit_once.ensures in
    stopped c.args.earlier.now (record { now = before.now; ever = before.ever }) (record { now = now.now; ever = now.ever }) c.args.edits.now c.loop-edit.edit-index c.edit-item.result
    c.loop-edit-test.true c.edit-item.is c.loop-edit.invariant none
