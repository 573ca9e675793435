use Rattle.std.proofs.Common.{◌≡◌, ◌<◌}
use Rattle.case_journal.specs.Journal.{nodes}
use Rattle.case_journal.specs.Paths.{owner}
use Rattle.split_tree.proofs.table.Table.owner.Given as goal

abbrev pub invariant-loop-at : goal.invariant-loop-at
invariant-loop-at l = record {
  there : l.at < nodes l.self.past;
  same : owner l.self.past l.deps l.at ≡ owner l.self.past l.deps l.node;
}

abbrev pub decreases-loop-at : goal.decreases-loop-at
decreases-loop-at l = l.at
