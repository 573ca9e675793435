use Rattle.std.proofs.Common.{◌≡◌, ◌<◌}
use Rattle.case_journal.specs.Journal.{nodes}
use Rattle.case_journal.specs.Paths.{on_path}
use Rattle.split_tree.specs.Caches.{past_of}
use Rattle.split_tree.proofs.table.Table.on_path.Given as goal

abbrev pub invariant-loop-at : goal.invariant-loop-at
invariant-loop-at l = record {
  there : l.at < nodes (past_of l.self-inside.journal.items);
  same : on_path (past_of l.self-inside.journal.items) l.at l.above ≡ on_path (past_of l.self-inside.journal.items) l.node l.above;
}

abbrev pub decreases-loop-at : goal.decreases-loop-at
decreases-loop-at l = l.at
