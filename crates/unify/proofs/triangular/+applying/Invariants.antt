use Rattle.std.proofs.Common.{◌≡◌, ◌+◌, ◌*◌, map, take}
use Rattle.spl_terms.specs.Terms.{replace}
use Rattle.unify.specs.Bindings.{substitution}
use Rattle.unify.proofs.TriangularLemmas.{size, sizes}
use Rattle.unify.proofs.triangular.+applying.Given as goal

abbrev pub decreases-applied : goal.decreases-applied
decreases-applied l = 2 * size l.bindings.now.1 l.term.now

abbrev pub decreases-all_applied : goal.decreases-all_applied
decreases-all_applied l = 2 * sizes l.bindings.now.1 l.terms.now + 1

abbrev pub invariant-all_applied-loop-term : goal.invariant-all_applied-loop-term
invariant-all_applied-loop-term l = l.made ≡ map (replace (substitution l.bindings.1)) (take l.term-index l.terms)
