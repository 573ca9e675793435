-- The rule under which threads share a cell, and what each kind of step tells the seat that makes it. No caller's clause names a word of this file.
-- Word 0 is the turn word: 0, or the number of the seat in the turn. Word 1 is the length of the list. The one slot holds the value.
use Rattle.std.specs.Prelude.{◌≡◌, ◌≢◌, ℕ, zero, suc, ◌+◌, ◌-◌, ◌<◌, ◌≤◌, List, [], ◌∷◌, ◌++◌, length, slice_get, Option, Some, None, Bool, true, false}
use mathlib.Core.Option.{some, none}
use lib.ListN.{get_elem?}
use Rattle.atomic_table.specs.Table.{State, Me, Step, rest}
use Rattle.atomic_table.specs.Seated.{TableId}
use Rattle.turn_cell.specs.declared.view.View.{View}
use Rattle.turn_cell.specs.Lists.{BeginsWith, entries_of, Among, Continues, IsOfSeats, longer}
use Rattle.turn_cell.specs.Seats.{Cell, SeatSeen, new_seat}

-- the numbers from k on, n of them
abbrev pub count_up : ℕ → ℕ → List ℕ
count_up k zero = []
count_up k (suc n) = k ∷ count_up (suc k) n

-- no number stands twice
abbrev pub AllApart : List ℕ → Type 0
AllApart [] = Unit {0}
AllApart (x ∷ xs) = (¬ Among x xs) × AllApart xs

-- a view with no join that is still to be looked at
abbrev pub plain_view : {E G : Type 0} → ℕ → ℕ → Option G → Bool → List E → List ℕ → ℕ → ℕ → View E G
plain_view seats n g inside seen keeps found tries = record { seats = seats; number = n; setting = g; seen = seen; keeps = keeps; inside = inside; found = found; tries = tries; spent = false; into_seen = []; into_keeps = []; other_seen = []; other_keeps = [] }

-- the view of the first seat keeps every number
abbrev pub first_view : {E G : Type 0} → G → ℕ → View E G
first_view g seats = plain_view seats 1 (Some g) false [] (count_up 1 seats) 0 0

abbrev pub entered : {E G : Type 0} → View E G → List E → View E G
entered v all = plain_view v.seats v.number v.setting true all v.keeps 0 (v.tries + 1)

abbrev pub refused : {E G : Type 0} → View E G → ℕ → View E G
refused v n = plain_view v.seats v.number v.setting v.inside v.seen v.keeps n (v.tries + 1)

abbrev pub grown : {E G : Type 0} → View E G → List E → View E G
grown v all = plain_view v.seats v.number v.setting v.inside all v.keeps v.found v.tries

abbrev pub outside : {E G : Type 0} → View E G → View E G
outside v = plain_view v.seats v.number v.setting false v.seen v.keeps v.found v.tries

-- the first number that is kept for a seat that is not made yet, and what is kept without it
abbrev pub second : List ℕ → ℕ
second [] = 0
second (x ∷ []) = 0
second (x ∷ y ∷ ys) = y

abbrev pub without_second : List ℕ → List ℕ
without_second [] = []
without_second (x ∷ []) = x ∷ []
without_second (x ∷ y ∷ ys) = x ∷ ys

-- the first seat without the number of the seat that is dealt, and that seat
abbrev pub dealt_from : {E G : Type 0} → View E G → View E G
dealt_from v = plain_view v.seats v.number v.setting v.inside v.seen (without_second v.keeps) v.found v.tries

abbrev pub dealt : {E G : Type 0} → View E G → View E G
dealt v = plain_view v.seats (second v.keeps) v.setting false v.seen (second v.keeps ∷ []) 0 0

-- The view of a seat into which another was joined, before it looks
abbrev pub both : {E G : Type 0} → View E G → View E G → View E G
both v w = record v { seen = longer v.seen w.seen; keeps = v.keeps ++ w.keeps; into_seen = v.seen; into_keeps = v.keeps; other_seen = w.seen; other_keeps = w.keeps }

abbrev pub spent_view : {E G : Type 0} → View E G
spent_view = record { seats = 0; number = 0; setting = None; seen = []; keeps = []; inside = false; found = 0; tries = 0; spent = true; into_seen = []; into_keeps = []; other_seen = []; other_keeps = [] }

-- What the rule says of the view v of the seat id, where the view in the turn is the one at `at`, of the number `turn`, the list is `all`, and the number n is kept by the view at `owner n`
pub record Fits {E G : Type 0} (by : E → ℕ) (seats turn at : ℕ) (all : List E) (g : G) (owner : ℕ → ℕ) (id : ℕ) (v : View E G) : Type 0 where
  pub positive : 0 < v.number
  -- no other view than the one at `at` is in the turn, and that has seen the whole list
  pub within : v.inside ≡ true → (id ≡ at) × (v.number ≡ turn) × (v.seen ≡ all)
  -- what was seen is a beginning of the list
  pub begins : BeginsWith all v.seen
  -- there is one setting
  pub same : v.setting ≡ Some g
  -- numbers lie between 1 and the number of seats, none is kept twice, and of each kept one every entry was seen
  pub own : Among v.number v.keeps
  pub apart : AllApart v.keeps
  pub kept : (n : ℕ) → Among n v.keeps → (0 < n) × (n ≤ seats) × (owner n ≡ id) × (entries_of by n v.seen ≡ entries_of by n all)
  -- what the two seats of the last join had
  pub into : Continues by v.into_keeps v.into_seen v.seen
  pub other : Continues by v.other_keeps v.other_seen v.seen

-- The rule
pub record IsConsistent {T E G : Type 0} (told : T → List E) (by : E → ℕ) (setting : T → G) (seats : ℕ) (s : State (Option T) (View E G)) : Type 0 where
  pub turn : ℕ
  pub at : ℕ
  pub all : List E
  pub g : G
  pub owner : ℕ → ℕ
  pub words : s.words ≡ turn ∷ length all ∷ []
  -- no entry is of a number that no seat has
  pub ours : IsOfSeats by seats all
  -- where no seat is in the turn, the value is at home, with that list and that setting
  pub home : turn ≡ 0 → (x : T) × (s.homes ≡ some (Some x) ∷ []) × (told x ≡ all) × (setting x ≡ g)
  -- else it is out, and the view at `at` is in the turn
  pub out : turn ≢ 0 → s.homes ≡ none ∷ []
  pub holder : turn ≢ 0 → (v : View E G) × (get_elem? s.views at ≡ some v) × (v.spent ≡ false) × (v.inside ≡ true) × (v.number ≡ turn)
  -- views that were joined into others are excepted
  pub views : (id : ℕ) (v : View E G) → get_elem? s.views id ≡ some v → v.spent ≡ false → Fits by seats turn at all g owner id v

-- a view, and the slot where its seat is in the turn
abbrev pub Sat : Type 0 → Type 0 → Type 0 → Type 0
Sat T E G = Me (Option T) (View E G)

-- what a view knows of the value at home
abbrev pub Finds : {T E G : Type 0} → (T → List E) → (E → ℕ) → (T → G) → View E G → T → Type 0
Finds told by setting v x = (v.inside ≡ false) × (v.setting ≡ Some (setting x)) × Continues by v.keeps v.seen (told x) × IsOfSeats by v.seats (told x)

-- the number n, found in the turn word, is that of a seat of the cell: its own where it is in the turn, and else none of those that it keeps
abbrev pub FindsTaken : {E G : Type 0} → View E G → ℕ → Type 0
FindsTaken v n = (n ≤ v.seats) × (v.inside ≡ true → n ≡ v.number) × (v.inside ≡ false → ¬ Among n v.keeps)

-- A try for the turn: compare and exchange of word 0, from 0 to the seat's number. At 0 the seat takes the slot, and else nothing but the number found is told. Either way it has tried once more; no other step raises that count
abbrev pub Enters : {T E G : Type 0} → (T → List E) → (E → ℕ) → (T → G) → Step (Option T) → Sat T E G → ℕ → Sat T E G → Type 0
Enters {T} told by setting st m n w =
    (n ≡ 0 → (x : T) × (w ≡ (entered m.0 (told x), (0, Some x) ∷ m.1)) × Finds told by setting m.0 x)
    × (n ≢ 0 → (w ≡ (refused m.0 n, m.1)) × FindsTaken m.0 n)

-- The store of the new length in word 1, in the turn, where the list is the one that the call names
abbrev pub Stores : {T E G : Type 0} → List E → Step (Option T) → Sat T E G → ℕ → Sat T E G → Type 0
Stores list st m n w = w ≡ (grown m.0 list, m.1)

-- The store of 0 in word 0, which gives the slot back
abbrev pub Leaves : {T E G : Type 0} → Step (Option T) → Sat T E G → ℕ → Sat T E G → Type 0
Leaves st m n w = w ≡ (outside m.0, rest m.1)

-- A load of word 1, which tells what the two seats of the last join had
abbrev pub Looks : {T E G : Type 0} → (E → ℕ) → Step (Option T) → Sat T E G → ℕ → Sat T E G → Type 0
Looks by st m n w = (w ≡ m) × Continues by m.0.into_keeps m.0.into_seen m.0.seen × Continues by m.0.other_keeps m.0.other_seen m.0.seen

abbrev pub others : List ℕ → List ℕ
others [] = []
others (n ∷ ns) = ns

abbrev pub cell_of : TableId → ℕ → Cell
cell_of table seats = record { table = table; seats = seats }

-- how a seat with this view is seen
abbrev pub seat_seen : {E G : Type 0} → TableId → View E G → SeatSeen E G
seat_seen table v = record { cell = cell_of table v.seats; number = v.number; setting = v.setting; seen = v.seen; joined = others v.keeps; inside = v.inside; found = v.found; tries = v.tries }

-- a seat outside holds no slot, and one inside holds the empty slot
abbrev pub Sits : {T E G : Type 0} → ℕ → Sat T E G → Type 0
Sits number m = (m.0.number ≡ number) × (m.0.spent ≡ false) × (m.0.inside ≡ false → m.1 ≡ []) × (m.0.inside ≡ true → m.1 ≡ (0, None) ∷ []) × (m.0.keeps ≡ m.0.number ∷ others m.0.keeps)

-- the first seat, while m numbers from n on have no seat yet
abbrev pub dealing : {E G : Type 0} → Cell → G → ℕ → ℕ → SeatSeen E G
dealing cell g n m = record { cell = cell; number = 1; setting = Some g; seen = []; joined = count_up n m; inside = false; found = 0; tries = 0 }

-- the seat at k of the row, when n seats are made and m are not
abbrev pub Row : {E G : Type 0} → Cell → G → ℕ → ℕ → ℕ → SeatSeen E G → Type 0
Row here g n m zero s = s ≡ dealing here g (n + 1) m
Row here g n m (suc k) s = s ≡ new_seat here (suc (suc k)) g

-- the first seat gives away the number n, while m more have no seat yet
abbrev pub Deals : {E G : Type 0} → Cell → ℕ → ℕ → SeatSeen E G → SeatSeen E G → SeatSeen E G → Type 0
Deals {E} {G} here n m old new next = (g : G) → old ≡ dealing here g n (m + 1) → (new ≡ dealing here g (n + 1) m) × (next ≡ new_seat here n g)

-- a row begins with the first seat, while m numbers have no seat yet
abbrev pub IsFirst : {E G : Type 0} → Cell → G → ℕ → List (SeatSeen E G) → Type 0
IsFirst here g m seats = (s : _) → slice_get seats 0 ≡ Some s → Row here g 1 m 0 s

-- from a row that begins with the first seat a row of n seats was made, and no number is left
abbrev pub DealsAll : {E G : Type 0} → Cell → ℕ → List (SeatSeen E G) → List (SeatSeen E G) → Type 0
DealsAll {E} {G} here n old new = (g : G) → IsFirst here g (n - 1) old → (k : ℕ) (s : _) → slice_get new k ≡ Some s → Row here g n 0 k s
