use Rattle.case_view.specs.Caches.{AreFiledTo}
use Rattle.case_view.proofs.filed.file_clauses.Given as goal

abbrev pub invariant-loop-place : goal.invariant-loop-place
invariant-loop-place l = AreFiledTo l.place l.clauses l.filing
