use Rattle.std.proofs.Common.{◌≡◌, take, map}
use Rattle.spl_terms.specs.Terms.{replace}
use Rattle.spl_truth.specs.Truth.{entry}
use Rattle.superposition.specs.Sizes.{entries_from}
use Rattle.superposition.proofs.viewing.+viewing.Given as goal

abbrev pub invariant-terms_of-loop-term : goal.invariant-terms_of-loop-term
invariant-terms_of-loop-term l = l.made ≡ map (replace (entry (entries_from l.from l.past l.bindings.1))) (take l.term-index l.terms)
