use Rattle.split_tree.specs.Fields.{setting_of}
use Rattle.split_tree.specs.Caches.{past_of}
use Rattle.case_journal.specs.LedgerLaws.{ledger_concluded}
use Rattle.split_tree.proofs.table.Table.ledger_is_concluded.Goals as goal

pub returns : goal.returns
returns c = rw (← c.self.view_is) (ledger_concluded (setting_of c.self.inside) (past_of c.self.inside.journal.items) c.self.invariant.small_input c.self.invariant.legal)
