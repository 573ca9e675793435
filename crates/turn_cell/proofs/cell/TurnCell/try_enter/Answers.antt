use Rattle.std.proofs.Common.{◌≡◌, Some, ◌∷◌, sym, ap, ◌∙◌, arith}
use mathlib.Core.Option.{none}
use Rattle.atomic_table.specs.Table.{rest, step}
use Rattle.turn_cell.proofs.Moves.{enters_as}
use Rattle.turn_cell.proofs.cell.TurnCell.try_enter.Goals as goal

pub compare_exchange-found-requires : goal.compare_exchange-found-requires
compare_exchange-found-requires g c =
    let words : c.self.inside.table.shared.table_id.words ≡ 2 = c.self.invariant.0 in
    let token = c.seat.inside.token in (
      ap (λ s. s.cell.table) c.seat.view_is ∙ ap (λ z. z.table) c.requires.cell ∙ sym (ap (λ z. z.table) c.self.view_is),
      omega arith,
      enters_as g.T.Told.told g.T.Told.seat_of g.T.Told.setting c.self.inside.table.shared.key.seats _ token.id token.me (step 0 0 0 0 none) c.seat.inside.number c.seat.invariant.0 c.seat.invariant.1 (ap (λ s. s.cell.seats) c.seat.view_is ∙ ap (λ z. z.seats) c.requires.cell ∙ sym (ap (λ z. z.seats) c.self.view_is)),
    )

pub exchange-requires : goal.exchange-requires
exchange-requires g c =
    let e = c.compare_exchange-found.ensures in
    let won = e.2.0 c.if-found-ne0.false in
    let held = ap (λ m. m.1) won.1 in
    (e.0 ∙ (ap (λ s. s.cell.table) c.seat.view_is ∙ ap (λ z. z.table) c.requires.cell ∙ sym (ap (λ z. z.table) c.self.view_is)), (Some won.0, held ∙ ap (λ l. (0, Some won.0) ∷ l) (sym (ap rest held))))
