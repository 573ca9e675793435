use Rattle.std.proofs.Common.{◌≡◌, ◌≤◌, ℕ, Some}
use Rattle.case_journal.specs.Facts.{claimed}
use Rattle.split_tree.proofs.table.Table.unclaimed.Given as goal

abbrev pub invariant-loop-k : goal.invariant-loop-k
invariant-loop-k l = (w : ℕ) → 1 ≤ w → w ≤ l.k → ¬ (claimed l.self.past w ≡ Some l.node)
