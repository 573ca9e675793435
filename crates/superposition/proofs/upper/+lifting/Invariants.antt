use Rattle.std.proofs.Common.{◌≡◌, take, map}
use Rattle.spl_terms.specs.Terms.{replace}
use Rattle.unify.specs.Bindings.{substitution}
use Rattle.superposition.specs.Pairs.{raised}
use Rattle.superposition.proofs.upper.+lifting.Given as goal

abbrev pub invariant-raised_instances-loop-term : goal.invariant-raised_instances-loop-term
invariant-raised_instances-loop-term l = l.made ≡ map (replace (substitution l.bindings.1)) (map (raised l.lift) (take l.term-index l.terms))
