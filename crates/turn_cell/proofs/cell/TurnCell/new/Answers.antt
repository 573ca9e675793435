use Rattle.std.proofs.Common.{◌<◌, [], ◌∷◌, ◌++◌, Some, sym, ap, ◌∙◌, subst}
use Rattle.turn_cell.specs.Rule.{first_view, seat_seen, cell_of}
use Rattle.turn_cell.proofs.Rows.{get_only, row_made}
use Rattle.turn_cell.proofs.Seats.{opens_as, first_is_dealer, first_sits}
use Rattle.turn_cell.proofs.cell.TurnCell.new.Goals as goal

pub new-requires : goal.new-requires
new-requires g c = opens_as g.T.Told.told g.T.Told.seat_of g.T.Told.setting c.args.seats c.args.value c.of.result.value c.from.result c.push_reserved.new.self.items c.from.ensures c.of.ensures (c.push_reserved.ensures.items ∙ ap (λ l. l ++ Some c.args.value ∷ []) c.in-Ok-with_capacity.ensures.items) c.requires.empty c.requires.some

pub invariant_of-push_reserved : goal.invariant_of-push_reserved
invariant_of-push_reserved g c = first_sits (g.T.Told.setting c.of.result.value) c.from.result c.in-Ok-new.token.me c.in-Ok-new.ensures.ok.4 (subst (λ n. 0 < n) (sym c.from.ensures) c.requires.some)

pub deal_all-requires-clause-first : goal.deal_all-requires-clause-first
deal_all-requires-clause-first g c = (
  g.T.Told.setting c.args.value,
  λ s e.
      let made = c.in-Ok-new.ensures.ok in
      let x = g.T.Told.setting c.args.value in
      let view = ap (λ m. m.0) made.4 ∙ ap (λ y. first_view (g.T.Told.setting y) c.from.result) c.of.ensures in
      let is = get_only c.push_reserved-in-Ok-new.new.self.items c.in-Ok.all.items _ s c.push_reserved-in-Ok-new.ensures.items c.in-Ok.ensures.items e in
      sym is ∙ ap (λ z. seat_seen z c.in-Ok-new.token.me.0) made.2 ∙ first_is_dealer c.in-Ok-new.table.shared.table_id x c.from.result c.in-Ok-new.table.shared.key.seats c.args.seats c.in-Ok-new.token.me.0 view c.from.ensures (ap (λ k. k.seats) made.5) c.requires.some,
)

pub returns-in-Ok-new-clause-each : goal.returns-in-Ok-new-clause-each
returns-in-Ok-new-clause-each g c =
    let x = g.T.Told.setting c.args.value in
    λ k s e. row_made (cell_of c.in-Ok-new.table.shared.table_id c.in-Ok-new.table.shared.key.seats) x c.args.seats k s
    (c.deal_all.ensures.each x
    (λ s e.
    let made = c.in-Ok-new.ensures.ok in
    let x = g.T.Told.setting c.args.value in
    let view = ap (λ m. m.0) made.4 ∙ ap (λ y. first_view (g.T.Told.setting y) c.from.result) c.of.ensures in
    let is = get_only c.push_reserved-in-Ok-new.new.self.items c.in-Ok.all.items _ s c.push_reserved-in-Ok-new.ensures.items c.in-Ok.ensures.items e in
    sym is ∙ ap (λ z. seat_seen z c.in-Ok-new.token.me.0) made.2 ∙ first_is_dealer c.in-Ok-new.table.shared.table_id x c.from.result c.in-Ok-new.table.shared.key.seats c.args.seats c.in-Ok-new.token.me.0 view c.from.ensures (ap (λ k. k.seats) made.5) c.requires.some) k s e)
