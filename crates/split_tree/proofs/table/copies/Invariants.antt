use Rattle.std.proofs.Common.{◌≡◌, take}
use Rattle.split_tree.proofs.table.copies.Given as goal

abbrev pub invariant-loop-clause : goal.invariant-loop-clause
invariant-loop-clause l = l.clauses ≡ take l.clause-index l.input
