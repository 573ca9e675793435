use Rattle.std.proofs.Common.{◌≡◌, ℕ, ◌-◌, ◌≤◌, Some}
use Rattle.std.specs.Prelude.{slice_get, vec_len, vec_capacity}
use Rattle.turn_cell.specs.Rule.{Row, cell_of}
use Rattle.turn_cell.proofs.cell.deal_all.Given as goal

abbrev pub invariant-loop-number : goal.invariant-loop-number
invariant-loop-number g l = (vec_len l.all ≡ l.number) × (l.seats ≤ vec_capacity l.all)
    × ((x : g.row.T-Setting.Denot) → ((s : _) → slice_get l.initial.all.items 0 ≡ Some s → Row (cell_of l.words.table_id l.words.key.seats) x 1 (l.seats - 1) 0 s)
    → (k : ℕ) (s : _) → slice_get l.all.items k ≡ Some s → Row (cell_of l.words.table_id l.words.key.seats) x l.number (l.seats - l.number) k s)
