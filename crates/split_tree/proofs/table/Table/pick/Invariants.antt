use Rattle.std.specs.Prelude.{fold}
use Rattle.std.proofs.Common.{◌≡◌, take, None}
use Rattle.spl_truth.specs.Picking.{better}
use Rattle.case_journal.specs.Journal.{ledger}
use Rattle.case_journal.specs.Picking.{passing, is_passive}
use Rattle.split_tree.proofs.table.Table.pick.Given as goal

abbrev pub invariant-loop-k : goal.invariant-loop-k
invariant-loop-k l = l.best ≡ fold (better l.by_age) None (passing (is_passive l.self.setting l.self.past l.node) 1 (take l.k (ledger l.self.setting l.self.past)))
