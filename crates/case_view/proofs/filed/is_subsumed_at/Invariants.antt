use Rattle.clause_filing.specs.FilingLaws.{IsGoingBack}
use Rattle.case_view.specs.Caches.{IsOther}
use Rattle.case_view.proofs.filed.is_subsumed_at.Given as goal

abbrev pub invariant-loop-entry : goal.invariant-loop-entry
invariant-loop-entry l = IsGoingBack (IsOther l.clauses l.clause) l.filing l.key l.mask l.number

abbrev pub decreases-loop-entry : goal.decreases-loop-entry
decreases-loop-entry l = l.number
