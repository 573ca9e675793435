use Rattle.refutation_check.proofs.Verdicts.{AreBefore}
use Rattle.refutation_check.proofs.checking.check_lines.Given as goal

-- the lines before this one are conclusions
abbrev pub invariant-loop-k : goal.invariant-loop-k
invariant-loop-k l = AreBefore l.input l.lines l.k
