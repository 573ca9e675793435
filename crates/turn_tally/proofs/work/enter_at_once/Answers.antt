use Rattle.std.proofs.Common.{◌≤◌, subst}
use Rattle.turn_cell.specs.Seats.{Cell}
use Rattle.turn_tally.proofs.work.enter_at_once.Goals as goal

pub unreachable-requires : goal.unreachable-requires
unreachable-requires g c =
    let found = c.try_enter.new.seat.found in
    let taken = c.in_default.ensures.holder in
    taken.other c.requires.outside (c.requires.all found taken.positive (subst (λ (z : Cell). found ≤ z.seats) c.requires.cell taken.within))
