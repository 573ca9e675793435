use Rattle.std.proofs.Common.{◌≤◌, ◌⊎◌, inl, inr, length, sym, ap, ◌∙◌, arith}
use Rattle.dep_sets.proofs.Sets.{merge_step_left, merge_step_right, merge_rest, place_within}
use mir.Val.{bool_byte}
use Rattle.dep_sets.proofs.deps.merged.Goals as goal
use Rattle.dep_sets.proofs.deps.merged.Goals.{then-loop-i-test+else-j-right, else-loop-i-test}

pub loop-i-preserved-then-is_before : goal.loop-i-preserved-then-is_before
loop-i-preserved-then-is_before c = record {
  left_within = omega arith;
  right_within = omega arith;
  all = rw c.in_ok-push.ensures.items (merge_step_left c.loop-i.items.items c.args.left.now c.args.right.now c.loop-i.i c.loop-i.j _ c.requires.left c.requires.right c.loop-i-test.true c.if-j-right.true (sym c.if-is_before.ensures) c.loop-i.invariant.all);
}

pub loop-i-preserved : goal.loop-i-preserved
loop-i-preserved c = record {
  left_within = place_within c.loop-i.i c.from-i.result _ c.is_same.result c.loop-i-test.true c.from-i.ensures;
  right_within = omega arith;
  all = rw c.in_ok-push-2.ensures.items (merge_step_right c.loop-i.items.items c.args.left.now c.args.right.now c.loop-i.i c.loop-i.j c.from-i.result _ c.requires.left c.requires.right c.loop-i-test.true c.if-j-right.true (sym c.if-is_before.ensures) (c.from-i.ensures ∙ ap bool_byte c.is_same.ensures) c.loop-i.invariant.all);
}

pub returns : goal.returns
returns c =
    let used : (length c.args.left.now ≤ c.loop-i.i) ⊎ (length c.args.right.now ≤ c.loop-i.j) =
    elim c.loop-i-test.branch [ then-loop-i-test+else-j-right w ↦ inr w.if-j-right.false | else-loop-i-test w ↦ inl w.loop-i-test.false ] in
    rw (c.shrink_to_fit.ensures.items, c.in_ok-extend_from_slice-2.ensures.items, c.in_ok-extend_from_slice.ensures.items)
    (merge_rest c.loop-i.items.items c.args.left.now c.args.right.now _ c.loop-i.i c.loop-i.j c.requires.left used c.loop-i.invariant.all)
