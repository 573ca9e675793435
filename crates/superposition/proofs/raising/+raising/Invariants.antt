use Rattle.std.proofs.Common.{◌≡◌, take, map}
use Rattle.superposition.specs.Pairs.{raised}
use Rattle.superposition.proofs.raising.+raising.Given as goal

abbrev pub invariant-all_raised-loop-term : goal.invariant-all_raised-loop-term
invariant-all_raised-loop-term l = l.made ≡ map (raised l.lift) (take l.term-index l.terms)
