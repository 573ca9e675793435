-- What workers leave.
use Rattle.std.specs.Prelude.{◌≡◌, ℕ, Bool, true, false, Some}
use Rattle.turn_cell.specs.Lists.{Among, BeginsWith, entries_of}
use Rattle.turn_cell.specs.Seats.{Cell, SeatSeen, had}
use Rattle.turn_tally.specs.declared.entry.Entry.{Entry}
use Rattle.turn_tally.specs.Tallies.{seat_of, entries_upto}

-- a seat of a cell of tallies
abbrev pub TallySeat : Type 0
TallySeat = SeatSeen Entry ℕ

-- the seat after turns of its own, for which it tried as often as it did, in none now
abbrev pub HasWorked : TallySeat → TallySeat → Type 0
HasWorked old new = (new ≡ record old { seen = new.seen; found = new.found; tries = new.tries }) × BeginsWith new.seen old.seen

-- of each of its numbers the seat has seen the entries 1 to n, in order, and no others
abbrev pub HasNumbered : ℕ → TallySeat → Type 0
HasNumbered n s = (k : ℕ) → Among k (had s) → entries_of seat_of k s.seen ≡ entries_upto k n

-- A seat of this cell, whose workers have ended. Where none of them lacked memory, each has appended the entries 1 to n
pub record IsDone (cell : Cell) (n : ℕ) (s : TallySeat) (complete : Bool) : Type 0 where
  pub here : s.cell ≡ cell
  pub outside : s.inside ≡ false
  pub limit : s.setting ≡ Some n
  pub entries : complete ≡ true → HasNumbered n s
