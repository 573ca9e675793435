use Rattle.std.proofs.Common.{◌≡◌, map, take}
use Rattle.spl_terms.specs.Terms.{replace}
use Rattle.spl_truth.specs.Truth.{entry}
use Rattle.reductions.proofs.noting.instances.Given as goal

abbrev pub invariant-loop-term : goal.invariant-loop-term
invariant-loop-term l = l.made ≡ map (replace (entry l.entries)) (take l.term-index l.terms)
