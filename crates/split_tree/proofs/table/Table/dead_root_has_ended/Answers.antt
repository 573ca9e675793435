use Rattle.case_journal.specs.EndedLaws.{no_leaf_ends}
use Rattle.split_tree.proofs.table.Table.dead_root_has_ended.Goals as goal

pub returns : goal.returns
returns c = no_leaf_ends c.args.self.now.setting c.args.self.now.past c.journal_is_legal.ensures c.requires.settled c.requires.none c.requires.idle
