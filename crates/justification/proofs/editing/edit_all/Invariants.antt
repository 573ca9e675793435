use Rattle.std.proofs.Common.{◌≡◌, drop, Some}
use Rattle.justification.specs.Instances.{edited_from}
use Rattle.justification.proofs.editing.edit_all.Given as goal

abbrev pub invariant-loop-edit : goal.invariant-loop-edit
invariant-loop-edit l =
    edited_from l.earlier (Some (record { now = l.clause.now; ever = l.clause.ever })) (drop l.edit-index l.edits)
    ≡ edited_from l.earlier (Some (record { now = l.initial.clause.now; ever = l.initial.clause.ever })) l.edits
