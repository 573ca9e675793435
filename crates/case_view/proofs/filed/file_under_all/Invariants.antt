use Rattle.case_view.specs.Caches.{AreUnderAllTo}
use Rattle.case_view.proofs.filed.file_under_all.Given as goal

abbrev pub invariant-loop-place : goal.invariant-loop-place
invariant-loop-place l = AreUnderAllTo l.place l.clauses l.filing
