use Rattle.case_journal.specs.BranchLaws.{branch_root, hangs_below}
use Rattle.split_tree.proofs.table.Table.the_root_alone_hangs_nowhere.Goals as goal

pub returns : goal.returns
returns c = record {
  root = branch_root c.args.self.now.past;
  others = λ m some there. hangs_below c.args.self.now.setting c.args.self.now.past c.journal_is_legal.ensures m some there;
}
