use Rattle.std.proofs.Common.{◌≡◌}
use Rattle.turn_cell.specs.Lists.{entries_of}
use Rattle.turn_tally.specs.Tallies.{seat_of, entries_upto}
use Rattle.turn_tally.specs.Runs.{HasWorked}
use Rattle.turn_tally.proofs.work.work.Given as goal

abbrev pub invariant-loop-number : goal.invariant-loop-number
invariant-loop-number g l = HasWorked l.initial.seat l.seat × (entries_of seat_of l.initial.seat.number l.seat.seen ≡ entries_upto l.initial.seat.number l.number)
