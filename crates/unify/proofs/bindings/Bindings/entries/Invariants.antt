use Rattle.std.proofs.Common.{◌≡◌}
use Rattle.spl_truth.specs.Unifiers.{entries_below}
use Rattle.unify.specs.Bindings.{filled}
use Rattle.unify.proofs.bindings.Bindings.entries.Given as goal

abbrev pub invariant-loop-variable : goal.invariant-loop-variable
invariant-loop-variable l = l.terms ≡ entries_below l.variable (filled l.self.1)
