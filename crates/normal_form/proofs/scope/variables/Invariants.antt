use Rattle.std.proofs.Common.{◌≡◌, map, take}
use Rattle.spl_terms.specs.declared.term.Term.{Var}
use Rattle.normal_form.proofs.scope.variables.Given as goal

abbrev pub invariant-loop-number : goal.invariant-loop-number
invariant-loop-number l = l.made ≡ map Var (take l.number-index l.numbers)
