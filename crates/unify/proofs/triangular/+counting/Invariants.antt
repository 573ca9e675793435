use Rattle.std.proofs.Common.{◌≡◌, ◌+◌, ◌*◌, ◌≤◌, min, drop}
use Rattle.unify.proofs.TriangularLemmas.{size, sizes}
use Rattle.unify.proofs.triangular.+counting.Given as goal

abbrev pub decreases-symbols_up_to : goal.decreases-symbols_up_to
decreases-symbols_up_to l = 2 * size l.bindings.now.1 l.term.now

abbrev pub decreases-symbols_in_up_to : goal.decreases-symbols_in_up_to
decreases-symbols_in_up_to l = 2 * sizes l.bindings.now.1 l.terms.now + 1

-- what was counted and what is left make the whole
abbrev pub invariant-symbols_in_up_to-loop-term : goal.invariant-symbols_in_up_to-loop-term
invariant-symbols_in_up_to-loop-term l = (min (l.count + sizes l.bindings.1 (drop l.term-index l.terms)) l.limit ≡ min (sizes l.bindings.1 l.terms) l.limit) × (l.count ≤ l.limit)
