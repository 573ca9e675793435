-- How a cell, its seats and their turns are seen by callers.
use Rattle.std.specs.Prelude.{◌≡◌, ℕ, ◌+◌, ◌<◌, ◌≤◌, List, [], ◌∷◌, ◌++◌, Option, Some, Bool, true, false}
use Rattle.atomic_table.specs.Seated.{TableId}
use Rattle.turn_cell.specs.Lists.{Among, longer}

-- A cell: which it is, and with how many seats it was made
pub record Cell : Type 0 where
  pub table : TableId
  pub seats : ℕ

-- A seat: its cell, its number, the setting of the cell's value, the list that it has seen, the numbers joined into it, whether it is in a turn, the turn word that its last try found, which is 0 or the number of the seat in the turn, and how many times it tried
pub record SeatSeen (E G : Type 0) : Type 0 where
  pub cell : Cell
  pub number : ℕ
  pub setting : Option G
  pub seen : List E
  pub joined : List ℕ
  pub inside : Bool
  pub found : ℕ
  pub tries : ℕ

-- A turn: the value, the cell, the number of the seat that has the turn, and the value's list when it began
pub record TurnSeen (T E : Type 0) : Type 0 where
  pub value : T
  pub cell : Cell
  pub number : ℕ
  pub entry : List E

-- the numbers of which a seat has seen all entries: its own and the joined ones
abbrev pub had : {E G : Type 0} → SeatSeen E G → List ℕ
had s = s.number ∷ s.joined

-- a seat that was just made
abbrev pub new_seat : {E G : Type 0} → Cell → ℕ → G → SeatSeen E G
new_seat cell n g = record { cell = cell; number = n; setting = Some g; seen = []; joined = []; inside = false; found = 0; tries = 0 }

-- the seat, once one more try has found this turn word, and has changed nothing else
abbrev pub tried : {E G : Type 0} → SeatSeen E G → ℕ → SeatSeen E G
tried s n = record s { found = n; tries = s.tries + 1 }

-- the seat, once one more try has taken the turn, in which the value has this list
abbrev pub in_turn : {E G : Type 0} → SeatSeen E G → List E → SeatSeen E G
in_turn s all = record s { seen = all; inside = true; found = 0; tries = s.tries + 1 }

-- the seat after some tries that were refused
abbrev pub HasTried : {E G : Type 0} → SeatSeen E G → SeatSeen E G → Type 0
HasTried old new = (new ≡ record old { found = new.found; tries = new.tries }) × (old.tries ≤ new.tries)

-- the seat, once it has left its turn with this list
abbrev pub after_turn : {E G : Type 0} → SeatSeen E G → List E → SeatSeen E G
after_turn s all = record s { seen = all; inside = false }

-- the seat, once the other was joined into it
abbrev pub joined_with : {E G : Type 0} → SeatSeen E G → SeatSeen E G → SeatSeen E G
joined_with s other = record s { seen = longer s.seen other.seen; joined = s.joined ++ had other }

-- the turn of a seat, as it begins with this value, which has this list
abbrev pub turn_of : {T E G : Type 0} → SeatSeen E G → T → List E → TurnSeen T E
turn_of s value all = record { value = value; cell = s.cell; number = s.number; entry = all }

-- The seat n of the cell had the turn when this seat tried: this seat itself where it is in a turn, and else a seat that isn't among those of this one
pub record HoldsTurn {E G : Type 0} (s : SeatSeen E G) (n : ℕ) : Type 0 where
  pub positive : 0 < n
  pub within : n ≤ s.cell.seats
  pub own : s.inside ≡ true → n ≡ s.number
  pub other : s.inside ≡ false → ¬ Among n (had s)
