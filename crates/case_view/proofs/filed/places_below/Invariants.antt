use Rattle.case_view.proofs.FiledSteps.{IsBelow}
use Rattle.case_view.proofs.filed.places_below.Given as goal

abbrev pub invariant-loop-k : goal.invariant-loop-k
invariant-loop-k l = IsBelow l.places l.kept.items l.count l.k
