use Rattle.case_journal.specs.ClosedLaws.{dead_closed}
use Rattle.split_tree.proofs.table.Table.dead_nodes_are_closed.Goals as goal

pub returns : goal.returns
returns c = dead_closed c.args.self.now.setting c.args.self.now.past c.journal_is_legal.ensures
