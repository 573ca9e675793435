use Rattle.std.proofs.Common.{◌≡◌}
use Rattle.dfg_problem.specs.Declarations.{variables}
use Rattle.dfg_problem.proofs.build.variables.Given as goal

abbrev pub invariant-loop-number : goal.invariant-loop-number
invariant-loop-number l = l.terms ≡ variables l.number
