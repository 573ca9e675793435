use Rattle.std.proofs.Common.{◌≡◌, ◌≤◌, drop}
use Rattle.spl_truth.specs.Unifiers.{entries_below}
use Rattle.unify.specs.Bindings.{substitution}
use Rattle.superposition.proofs.unifiers.entries_from.Given as goal

abbrev pub invariant-loop-variable : goal.invariant-loop-variable
invariant-loop-variable l = (l.terms ≡ drop l.from (entries_below l.variable (substitution l.bindings.1))) × (l.from ≤ l.variable)
