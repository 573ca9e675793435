use Rattle.std.proofs.Common.{sym, arith}
use Rattle.split_tree.proofs.Lens.{empties_len, read_empty}
use Rattle.split_tree.proofs.table.Table.own_empty.Goals as goal

pub index-requires : goal.index-requires
index-requires c =
    let there = rw (← c.self.view_is) at c.requires in
    omega (arith, empties_len c.self.inside c.self.invariant, there)

pub returns : goal.returns
returns c =
    let there = rw (← c.self.view_is) at c.requires in
    rw (← c.self.view_is) (sym (read_empty c.self.inside c.self.invariant c.args.node c.index.result.now there c.index.ensures))
