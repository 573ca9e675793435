use Rattle.std.proofs.Common.{◌≡◌, take, vec_len, vec_capacity}
use Rattle.split_tree.specs.Caches.{noted_empties}
use Rattle.split_tree.proofs.caches.note_empties.Given as goal

abbrev pub invariant-loop-k : goal.invariant-loop-k
invariant-loop-k l = record {
  items : l.empties.items ≡ noted_empties (take l.k l.homes) (take l.k l.lines) l.first l.fn.empties.items;
  len : vec_len l.empties ≡ vec_len l.fn.empties;
  capacity : vec_capacity l.empties ≡ vec_capacity l.fn.empties;
}
