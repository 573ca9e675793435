use Rattle.turn_cell.specs.Seats.{HasTried}
use Rattle.turn_cell.proofs.cell.TurnCell.enter.Given as goal

abbrev pub invariant-loop : goal.invariant-loop
invariant-loop g l = HasTried l.initial.seat l.seat
