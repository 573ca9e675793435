use Rattle.std.proofs.Common.{◌∙◌, ap, replicate, None, false, arith}
use Rattle.split_tree.specs.declared.caches.Seat.{Seat}
use Rattle.split_tree.specs.Caches.{seats}
use Rattle.split_tree.proofs.table.new_seats.Goals as goal

pub returns : goal.returns
unfolding seats
returns c = c.loop.invariant ∙ ap (λ n. replicate {A = Seat} n (record { claimed = None; stopped = false })) (omega (arith, c.loop-test.false, c.loop.auto.counter-end))
