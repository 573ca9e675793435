use Rattle.std.proofs.Common.{ap, sym, arith}
use Rattle.split_tree.proofs.Lens.{states_len, read_state}
use Rattle.split_tree.proofs.table.Table.leaf.Goals as goal

pub index-requires : goal.index-requires
index-requires c =
    let there = rw (← c.self.view_is) at c.requires in
    omega (arith, states_len c.self.inside c.self.invariant, there)

pub returns : goal.returns
returns c =
    let there = rw (← c.self.view_is) at c.requires in
    rw (← c.self.view_is) (sym (ap (λ x. x.leaf) (read_state c.self.inside c.self.invariant c.args.node c.index.result.now there c.index.ensures)))
