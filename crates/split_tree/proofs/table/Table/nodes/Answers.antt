use Rattle.std.proofs.Common.{arith}
use Rattle.split_tree.proofs.Lens.{branches_len}
use Rattle.split_tree.proofs.table.Table.nodes.Goals as goal

pub overflow_cast-result : goal.overflow_cast-result
overflow_cast-result c = omega (arith, c.len.ensures, branches_len c.self.inside c.self.invariant, c.self.invariant.few_nodes)

pub returns : goal.returns
returns c = rw (← c.self.view_is) (omega (arith, c.len.ensures, branches_len c.self.inside c.self.invariant))
