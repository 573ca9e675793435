use Rattle.std.specs.Prelude.{if◌then◌else◌}
use Rattle.std.proofs.Common.{arith, ap, not, ◌&&◌, sym, ◌∙◌, ℕ}
use Rattle.case_journal.specs.Facts.{is_stop}
use Rattle.split_tree.proofs.Lens.{seats_len, read_seat}
use Rattle.split_tree.proofs.table.Table.cost.Goals as goal

pub index-requires : goal.index-requires
index-requires c =
    let there = rw (← c.self.view_is) at c.requires.there in
    omega (arith, seats_len c.self.inside c.self.invariant, there, c.requires.some)

pub returns : goal.returns
returns c =
    let there = rw (← c.self.view_is) at c.requires.there in
    let seat = read_seat c.self.inside c.self.invariant c.args.by c.index.result.now c.requires.some there c.index.ensures in
    rw (← c.self.view_is)
    (c.room_of.ensures
    ∙ (ap {B = ℕ} (λ b. if b && not c.index.result.now.stopped then 0 else 1) c.is_stop.ensures
    ∙ ap {B = ℕ} (λ x. if is_stop c.args.event.now && not x.stopped then 0 else 1) (sym seat)))
