use Rattle.std.proofs.Common.{◌≡◌}
use Rattle.spl_terms.specs.declared.term.Term.{Var}
use Rattle.spl_truth.specs.Unifiers.{entries_below}
use Rattle.reductions.proofs.words.unchanged.Given as goal

abbrev pub invariant-loop-variable : goal.invariant-loop-variable
invariant-loop-variable l = l.terms ≡ entries_below l.variable Var
