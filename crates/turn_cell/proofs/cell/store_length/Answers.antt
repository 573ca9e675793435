use Rattle.std.proofs.Common.{◌≡◌, arith}
use mathlib.Core.Option.{none}
use Rattle.atomic_table.specs.Table.{step}
use Rattle.turn_cell.proofs.Moves.{stores}
use Rattle.turn_cell.proofs.cell.store_length.Goals as goal

pub store-requires : goal.store-requires
store-requires g c =
    let words : c.args.words.now.table_id.words ≡ 2 = c.requires.words.1 in
    let token = c.args.token.now in
    (c.requires.words.0, omega arith, stores g.T.Told.told g.T.Told.seat_of g.T.Told.setting c.args.words.now.key.seats _ token.id token.me (step 0 0 0 0 none) g.L.Listed.list c.args.count c.requires.list.0 c.requires.inside.0 c.requires.inside.1 c.requires.list.1)
