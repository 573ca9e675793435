use Rattle.std.proofs.Common.{arith}
use Rattle.split_tree.proofs.Past.{length-past_of}
use Rattle.split_tree.proofs.table.Table.events.Goals as goal

pub returns : goal.returns
returns c = rw (← c.self.view_is) (omega (arith, c.len.ensures, length-past_of c.self.inside.journal.items, c.self.inside.journal.ok.0))
