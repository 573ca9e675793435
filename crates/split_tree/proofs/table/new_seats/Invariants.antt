use Rattle.std.proofs.Common.{◌≡◌, replicate, None, false}
use Rattle.split_tree.proofs.table.new_seats.Given as goal

abbrev pub invariant-loop : goal.invariant-loop
invariant-loop l = l.seats.items ≡ replicate l.counter (record { claimed = None; stopped = false })
