use Rattle.std.proofs.Common.{◌≡◌, ◌++◌, ◌+◌, take, vec_len, vec_capacity}
use Rattle.split_tree.specs.Caches.{weights}
use Rattle.split_tree.proofs.caches.add_weights.Given as goal

abbrev pub invariant-loop-k : goal.invariant-loop-k
invariant-loop-k l = record {
  items : l.list.items ≡ l.fn.list.items ++ weights (take l.k l.lines);
  len : vec_len l.list ≡ vec_len l.fn.list + l.k;
  capacity : vec_capacity l.list ≡ vec_capacity l.fn.list;
}
