use Rattle.std.proofs.Common.{◌≡◌, Some, ◌∷◌, sym, ap, ◌∙◌, arith}
use mathlib.Core.Option.{none}
use Rattle.atomic_table.specs.Table.{rest, step}
use Rattle.turn_cell.proofs.Moves.{leaves}
use Rattle.turn_cell.proofs.cell.TurnCell.leave.Goals as goal

pub store-requires : goal.store-requires
store-requires g c =
    let words : c.self.inside.table.shared.table_id.words ≡ 2 = c.self.invariant.0 in
    let is = c.seat.view_is in
    let f = c.store_length.ensures in
    let e = c.exchange-before.ensures in
    let inside = ap (λ s. s.inside) is ∙ c.requires.inside in
    let x = c.turn.inside.value in
    let same = ap (λ t. t.value) c.turn.view_is in
    let holds = ap (λ m. m.1) e.3 ∙ ap (λ l. (0, Some x) ∷ rest l) (ap (λ m. m.1) f.view ∙ c.seat.invariant.3 inside) in
    let view = ap (λ m. m.0) e.3 ∙ ap (λ m. m.0) f.view in (
      e.0 ∙ f.token.0 ∙ (ap (λ s. s.cell.table) is ∙ ap (λ z. z.table) c.requires.cell ∙ sym (ap (λ z. z.table) c.self.view_is)),
      omega arith,
      leaves g.T.Told.told g.T.Told.seat_of g.T.Told.setting c.self.inside.table.shared.key.seats _ c.exchange-before.new.seat.id c.exchange-before.new.seat.me (step 0 0 0 0 none) x
          (ap (λ v. v.spent) view)
          (ap (λ v. v.inside) view ∙ inside)
          holds
          (sym (ap (λ v. v.seen) view))
          (ap (λ v. v.setting) view ∙ ap (λ s. s.setting) is ∙ c.requires.setting ∙ ap (λ y. Some (g.T.Told.setting y)) (sym same)),
    )
