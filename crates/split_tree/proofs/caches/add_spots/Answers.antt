use Rattle.std.proofs.Common.{◌∙◌, ap, length, append_assoc, add-one, arith, length-append}
use Rattle.split_tree.specs.Caches.{spots_upto}
use Rattle.split_tree.proofs.Lists.{length-spots_upto}
use Rattle.split_tree.proofs.caches.add_spots.Goals as goal

pub push_reserved-requires : goal.push_reserved-requires
push_reserved-requires c =
    let i = c.loop-place.invariant in
    omega (arith, c.loop-place.spots.ok.0, ap length i.0, length-append c.args.spots.now.items (spots_upto c.args.event c.loop-place.place), length-spots_upto c.args.event c.loop-place.place, c.args.spots.now.ok.0, i.1)

pub loop-place-preserved : goal.loop-place-preserved
loop-place-preserved c =
    let i = c.loop-place.invariant in
    (rw (c.push_reserved.ensures.items, i.0, add-one, append_assoc), c.push_reserved.ensures.capacity ∙ i.1)
