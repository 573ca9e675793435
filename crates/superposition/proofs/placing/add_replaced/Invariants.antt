use Rattle.std.proofs.Common.{◌≡◌, ◌++◌, take, map}
use Rattle.spl_terms.specs.Terms.{replace}
use Rattle.spl_truth.specs.Truth.{entry}
use Rattle.superposition.proofs.placing.add_replaced.Given as goal

abbrev pub invariant-loop-term : goal.invariant-loop-term
invariant-loop-term l = l.made ≡ l.initial.made ++ map (replace (entry l.entries)) (take l.term-index l.terms)
