use Rattle.std.proofs.Common.{◌≡◌}
use Rattle.spl_truth.specs.Unifiers.{entries_below}
use Rattle.unify.specs.Bindings.{substitution}
use Rattle.unify.proofs.unifying.applied_entries.Given as goal

abbrev pub invariant-loop-variable : goal.invariant-loop-variable
invariant-loop-variable l = l.entries ≡ entries_below l.variable (substitution l.bindings.1)
