use Rattle.clause_filing.proofs.Finding.{IsAdding}
use Rattle.clause_filing.proofs.filing.Filing.add_values.Given as goal

abbrev pub invariant-loop-entry : goal.invariant-loop-entry
invariant-loop-entry l = IsAdding l.self l.key l.mask l.fn.values.items l.values.items l.number

abbrev pub decreases-loop-entry : goal.decreases-loop-entry
decreases-loop-entry l = l.number
