use Rattle.case_journal.specs.SymbolLaws.{numbered_passes}
use Rattle.split_tree.proofs.table.Table.symbols_are_of_the_input.Goals as goal

pub returns : goal.returns
returns c = numbered_passes c.args.self.now.setting c.args.self.now.past c.journal_is_legal.ensures
