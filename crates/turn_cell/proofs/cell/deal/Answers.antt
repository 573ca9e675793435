use Rattle.std.proofs.Common.{◌≡◌, ap, ◌∙◌, arith}
use Rattle.turn_cell.specs.Rule.{cell_of}
use Rattle.turn_cell.proofs.Seats.{deals_as}
use Rattle.turn_cell.proofs.cell.deal.Goals as goal

pub split_seat-token-requires : goal.split_seat-token-requires
split_seat-token-requires g c =
    let words = c.args.words.now in
    let token = c.first.inside.token in
    let r = c.requires.first in
    let w : words.table_id.words ≡ 2 = c.requires.words in (
      ap (λ s. s.cell.table) (c.first.view_is ∙ r.1),
      omega arith,
      deals_as g.T.Told.told g.T.Told.seat_of g.T.Told.setting words.key.seats token.id c.args.number c.args.left token.table_id (cell_of words.table_id words.key.seats) token.me.0 r.0 c.first.invariant.1 c.first.invariant.4
          (c.first.view_is ∙ r.1),
    )
