use Rattle.split_tree.proofs.Empties.{IsFirstBelow}
use Rattle.split_tree.proofs.table.Table.first_empty.Given as goal

abbrev pub invariant-loop-branch : goal.invariant-loop-branch
invariant-loop-branch l = IsFirstBelow l.self.setting l.self.past l.node l.at l.first

abbrev pub decreases-loop-branch : goal.decreases-loop-branch
decreases-loop-branch l = l.at
