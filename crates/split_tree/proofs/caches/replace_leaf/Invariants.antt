use Rattle.std.proofs.Common.{◌≡◌, vec_len, vec_capacity}
use Rattle.split_tree.proofs.Lists.{HasNot}
use Rattle.split_tree.proofs.caches.replace_leaf.Given as goal

abbrev pub invariant-loop-place : goal.invariant-loop-place
invariant-loop-place l = record {
  items : l.leaves.items ≡ l.fn.leaves.items;
  capacity : vec_capacity l.leaves ≡ vec_capacity l.fn.leaves;
  len : vec_len l.leaves ≡ vec_len l.fn.leaves;
  none : HasNot l.leaf l.place l.leaves.items;
}
