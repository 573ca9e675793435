-- How a tally is seen, and the entries of one seat in order.
use Rattle.std.specs.Prelude.{ℕ, zero, suc, List, [], ◌∷◌, ◌++◌, max}
use Rattle.turn_tally.specs.declared.entry.Entry.{Entry}

-- A tally: its entries, the oldest first, and the greatest number that an entry may have
pub record TallySeen : Type 0 where
  pub entries : List Entry
  pub limit : ℕ

-- the greatest number of an entry, 0 where there is none
abbrev pub greatest_of : List Entry → ℕ
greatest_of [] = 0
greatest_of (e ∷ es) = max e.number (greatest_of es)

abbrev pub tally_entry : ℕ → ℕ → Entry
tally_entry seat number = record { seat = seat; number = number }

-- the seat of an entry
abbrev pub seat_of : Entry → ℕ
seat_of e = e.seat

-- the entries of a seat with the numbers 1 to n, in order
abbrev pub entries_upto : ℕ → ℕ → List Entry
entries_upto seat zero = []
entries_upto seat (suc n) = entries_upto seat n ++ tally_entry seat (suc n) ∷ []
