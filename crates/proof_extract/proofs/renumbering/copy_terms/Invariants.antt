use Rattle.std.proofs.Common.{◌≡◌, take}
use Rattle.proof_extract.proofs.renumbering.copy_terms.Given as goal

abbrev pub invariant-loop-term : goal.invariant-loop-term
invariant-loop-term l = l.made ≡ take l.term-index l.terms
