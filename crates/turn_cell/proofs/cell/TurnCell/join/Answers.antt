use Rattle.std.proofs.Common.{◌≡◌, sym, ap, ◌∙◌, arith}
use mathlib.Core.Option.{none}
use Rattle.atomic_table.specs.Table.{step}
use Rattle.turn_cell.proofs.Seats.{joins, looks}
use Rattle.turn_cell.proofs.cell.TurnCell.join.Goals as goal

pub join_seat-requires : goal.join_seat-requires
join_seat-requires g c =
    let a = c.into.inside.token in
    let b = c.other.inside.token in
    let words : c.self.inside.table.shared.table_id.words ≡ 2 = c.self.invariant.0 in
    let here = sym (ap (λ z. z.table) c.self.view_is) in
    let out_a = ap (λ s. s.inside) c.into.view_is ∙ c.requires.outside.0 in
    let out_b = ap (λ s. s.inside) c.other.view_is ∙ c.requires.outside.1 in (
      ap (λ s. s.cell.table) c.into.view_is ∙ ap (λ z. z.table) c.requires.cell.0 ∙ here,
      ap (λ s. s.cell.table) c.other.view_is ∙ ap (λ z. z.table) c.requires.cell.1 ∙ here,
      c.other.invariant.2 out_b,
      omega arith,
      joins g.T.Told.told g.T.Told.seat_of g.T.Told.setting c.self.inside.table.shared.key.seats a.id b.id a.me.0 b.me.0 c.into.invariant.1 c.other.invariant.1 out_a out_b,
    )

pub load-requires : goal.load-requires
load-requires g c =
    let e = c.join_seat.ensures in
    let words : c.self.inside.table.shared.table_id.words ≡ 2 = c.self.invariant.0 in
    let here = sym (ap (λ z. z.table) c.self.view_is) in (
      e.0 ∙ (ap (λ s. s.cell.table) c.into.view_is ∙ ap (λ z. z.table) c.requires.cell.0 ∙ here),
      omega arith,
      looks g.T.Told.told g.T.Told.seat_of g.T.Told.setting c.self.inside.table.shared.key.seats _ c.join_seat.new.seat.id c.join_seat.new.seat.me (step 0 0 0 0 none) (ap (λ m. m.0.spent) e.2 ∙ c.into.invariant.1),
    )
