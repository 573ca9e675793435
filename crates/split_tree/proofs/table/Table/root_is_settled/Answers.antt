use Rattle.case_journal.specs.RootLaws.{settled_root}
use Rattle.split_tree.proofs.table.Table.root_is_settled.Goals as goal

pub returns : goal.returns
returns c = settled_root c.args.self.now.setting c.args.self.now.past c.requires
