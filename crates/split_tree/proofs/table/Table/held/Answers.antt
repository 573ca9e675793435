use Rattle.std.proofs.Common.{sym}
use Rattle.case_journal.specs.PlaceLaws.{claimed_within}
use Rattle.split_tree.proofs.table.Table.held.Goals as goal

pub leaf-requires : goal.leaf-requires
leaf-requires c = claimed_within c.args.self.now.setting c.args.self.now.past c.journal_is_legal.ensures c.args.worker c.in-Some.node (sym c.in-Some.ensures)

pub live-requires : goal.live-requires
live-requires c = claimed_within c.args.self.now.setting c.args.self.now.past c.journal_is_legal.ensures c.args.worker c.in-Some.node (sym c.in-Some.ensures)
