use Rattle.std.proofs.Common.{ℕ, List, ◌∷◌, sym, ap, ◌∙◌, subst}
use Rattle.turn_cell.specs.Lists.{Continues, HasAllSeats, IsOfSeats}
use Rattle.turn_cell.proofs.Seats.{closes_full, closes_with}
use Rattle.turn_cell.proofs.cell.TurnCell.end.Goals as goal

pub unreachable-requires : goal.unreachable-requires
unreachable-requires g c =
    let is = c.last.view_is in
    let keeps = c.last.invariant.4 ∙ ap (λ s. s.number ∷ s.joined) is in
    let all = subst (λ n. HasAllSeats n c.last.inside.token.me.0.keeps) (sym (ap (λ s. s.seats) c.self.view_is)) (subst (HasAllSeats c.args.self.seats) (sym keeps) c.requires.all) in
    closes_full g.T.Told.told g.T.Told.seat_of g.T.Told.setting c.self.inside.table.shared.key.seats c.last.inside.token.id c.last.inside.token.me.0 _ _ c.take.result c.last.invariant.1 (ap (λ s. s.inside) is ∙ c.requires.outside) all c.close_with-closed.ensures.values.2 c.take.ensures.value c.in_default.is

pub returns-clause-setting : goal.returns-clause-setting
returns-clause-setting g c =
    let is = c.last.view_is in
    let keeps = c.last.invariant.4 ∙ ap (λ s. s.number ∷ s.joined) is in
    let all = subst (λ n. HasAllSeats n c.last.inside.token.me.0.keeps) (sym (ap (λ s. s.seats) c.self.view_is)) (subst (HasAllSeats c.args.self.seats) (sym keeps) c.requires.all) in
    sym (ap (λ s. s.setting) is) ∙ (closes_with g.T.Told.told g.T.Told.seat_of g.T.Told.setting c.self.inside.table.shared.key.seats c.last.inside.token.id c.last.inside.token.me.0 _ _ c.take.result c.in-Some.value c.last.invariant.1 (ap (λ s. s.inside) is ∙ c.requires.outside) all c.close_with-closed.ensures.values.2 c.take.ensures.value c.in-Some.is).0

pub returns-clause-list : goal.returns-clause-list
returns-clause-list g c =
    let is = c.last.view_is in
    let keeps = c.last.invariant.4 ∙ ap (λ s. s.number ∷ s.joined) is in
    let all = subst (λ n. HasAllSeats n c.last.inside.token.me.0.keeps) (sym (ap (λ s. s.seats) c.self.view_is)) (subst (HasAllSeats c.args.self.seats) (sym keeps) c.requires.all) in
    subst (λ (l : List ℕ × List g.row.T-Entry.Denot). Continues g.T.Told.seat_of l.0 l.1 (g.T.Told.told c.in-Some.value)) (λ i. (keeps i, (is i).seen))
    (closes_with g.T.Told.told g.T.Told.seat_of g.T.Told.setting c.self.inside.table.shared.key.seats c.last.inside.token.id c.last.inside.token.me.0 _ _ c.take.result c.in-Some.value c.last.invariant.1 (ap (λ s. s.inside) is ∙ c.requires.outside) all c.close_with-closed.ensures.values.2 c.take.ensures.value c.in-Some.is).1

pub returns-clause-ours : goal.returns-clause-ours
returns-clause-ours g c =
    let is = c.last.view_is in
    let keeps = c.last.invariant.4 ∙ ap (λ s. s.number ∷ s.joined) is in
    let all = subst (λ n. HasAllSeats n c.last.inside.token.me.0.keeps) (sym (ap (λ s. s.seats) c.self.view_is)) (subst (HasAllSeats c.args.self.seats) (sym keeps) c.requires.all) in
    subst (λ n. IsOfSeats g.T.Told.seat_of n (g.T.Told.told c.in-Some.value)) (ap (λ s. s.seats) c.self.view_is)
    (closes_with g.T.Told.told g.T.Told.seat_of g.T.Told.setting c.self.inside.table.shared.key.seats c.last.inside.token.id c.last.inside.token.me.0 _ _ c.take.result c.in-Some.value c.last.invariant.1 (ap (λ s. s.inside) is ∙ c.requires.outside) all c.close_with-closed.ensures.values.2 c.take.ensures.value c.in-Some.is).2
