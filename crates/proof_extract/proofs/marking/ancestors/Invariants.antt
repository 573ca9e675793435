use Rattle.std.proofs.Common.{◌≤◌}
use Rattle.case_journal.specs.Journal.{ledger}
use Rattle.proof_extract.proofs.MarkLemmas.{AreMarkedTo}
use Rattle.proof_extract.proofs.marking.ancestors.Given as goal

abbrev pub invariant-loop-number : goal.invariant-loop-number
invariant-loop-number l = record { marked : AreMarkedTo (ledger l.table.setting l.table.past) l.clause l.number l.marks; below : l.number ≤ l.clause }

abbrev pub decreases-loop-number : goal.decreases-loop-number
decreases-loop-number l = l.number
