use Rattle.std.proofs.Common.{◌≡◌, ◌∙◌, get_or, ap, arith, length}
use Rattle.justification.specs.Instances.{instance_sides}
use Rattle.justification.proofs.EditSteps.{edited_part}
use Rattle.justification.proofs.editing.edit_part.Goals as goal

pub returns : goal.returns
returns c =
    let sides = instance_sides c.args.rewrite.entries.now c.args.rewrite.first.now c.args.rewrite.second.now in
    let x = c.index-as_slice-place.result in
    let edit = rw c.if-not-branch.false at c.in_ok-edit_atom.ensures in
    edited_part c.args.path.now sides c.args.now.now c.args.ever.now c.set.new.self c.push.new.self c.args.place x c.in_ok-made.made c.edit_atom.new.atom c.in_ok-copy.field-0
    (omega (arith, c.if-place-len.false, c.len.ensures))
    (c.index-as_slice-place.is ∙ ap (λ l. get_or l c.args.place x) c.as_slice.ensures)
    c.in_ok-made.ensures edit c.in_ok-copy.ensures c.set.ensures c.in_ok-push.ensures.ok
