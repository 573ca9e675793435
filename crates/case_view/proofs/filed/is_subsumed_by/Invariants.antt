use Rattle.clause_filing.specs.FilingLaws.{HoldUnderFirst}
use Rattle.case_view.specs.Caches.{IsOther}
use Rattle.case_view.proofs.filed.is_subsumed_by.Given as goal

abbrev pub invariant-loop-atom : goal.invariant-loop-atom
invariant-loop-atom l = HoldUnderFirst (IsOther l.clauses l.clause) l.filing l.side l.atoms l.mask l.atom-index
