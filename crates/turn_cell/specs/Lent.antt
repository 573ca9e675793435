-- A turn, after a write through `value_mut`.
use Rattle.turn_cell.specs.Seats.{TurnSeen}

abbrev pub with_value : {T E : Type 0} → TurnSeen T E → T → TurnSeen T E
with_value t w = record t { value = w }
