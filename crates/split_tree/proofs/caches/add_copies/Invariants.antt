use Rattle.std.proofs.Common.{◌≡◌, ◌++◌, vec_capacity, replicate}
use Rattle.split_tree.proofs.caches.add_copies.Given as goal

abbrev pub invariant-loop : goal.invariant-loop
invariant-loop g l = (l.items.items ≡ l.fn.items.items ++ replicate l.counter l.item) × (vec_capacity l.items ≡ vec_capacity l.fn.items)
