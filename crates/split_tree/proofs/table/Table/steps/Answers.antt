use Rattle.std.proofs.Common.{arith}
use Rattle.split_tree.proofs.Lens.{homes_len}
use Rattle.split_tree.proofs.table.Table.steps.Goals as goal

pub overflow_cast-result : goal.overflow_cast-result
overflow_cast-result c = omega (arith, c.len.ensures, homes_len c.self.inside c.self.invariant, c.self.invariant.few_steps)

pub returns : goal.returns
returns c = rw (← c.self.view_is) (omega (arith, c.len.ensures, homes_len c.self.inside c.self.invariant))
