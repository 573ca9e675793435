use Rattle.case_journal.specs.RootLaws.{unended}
use Rattle.split_tree.proofs.table.Table.has_not_ended.Goals as goal

pub returns : goal.returns
returns c = unended c.args.self.now.setting c.args.self.now.past c.requires
