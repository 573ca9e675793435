use Rattle.std.proofs.Common.{◌≡◌, ◌≤◌, ◌++◌, drop}
use Rattle.proof_extract.specs.Marking.{counts_from}
use Rattle.proof_extract.proofs.marking.counts.Given as goal

abbrev pub invariant-loop-mark : goal.invariant-loop-mark
invariant-loop-mark l = record { counts : l.counts.items ++ counts_from l.count (drop l.mark-index l.marks) ≡ counts_from 0 l.marks; count : l.count ≤ l.mark-index }
