use Rattle.std.proofs.Common.{ap, sym, arith}
use Rattle.split_tree.proofs.Lens.{seats_len, read_seat}
use Rattle.split_tree.proofs.table.Table.claimed.Goals as goal

pub index-requires : goal.index-requires
index-requires c =
    let there = rw (← c.self.view_is) at c.requires.there in
    omega (arith, seats_len c.self.inside c.self.invariant, there, c.requires.some)

pub returns : goal.returns
returns c =
    let there = rw (← c.self.view_is) at c.requires.there in
    rw (← c.self.view_is) (sym (ap (λ x. x.claimed) (read_seat c.self.inside c.self.invariant c.args.worker c.index.result.now c.requires.some there c.index.ensures)))
