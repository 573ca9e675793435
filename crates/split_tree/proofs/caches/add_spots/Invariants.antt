use Rattle.std.proofs.Common.{◌≡◌, ◌++◌, vec_capacity}
use Rattle.split_tree.specs.Caches.{spots_upto}
use Rattle.split_tree.proofs.caches.add_spots.Given as goal

abbrev pub invariant-loop-place : goal.invariant-loop-place
invariant-loop-place l = (l.spots.items ≡ l.fn.spots.items ++ spots_upto l.event l.place) × (vec_capacity l.spots ≡ vec_capacity l.fn.spots)
