use Rattle.std.proofs.Common.{◌≡◌, ◌+◌, ◌*◌, drop}
use Rattle.std.specs.List.{list_any}
use Rattle.spl_terms.specs.Terms.{replace}
use Rattle.spl_truth.specs.Unifiers.{occurs}
use Rattle.unify.specs.Bindings.{substitution}
use Rattle.unify.specs.Marks.{AreApart}
use Rattle.unify.proofs.TriangularLemmas.{size, sizes}
use Rattle.unify.proofs.occurring.+occurring.Given as goal

abbrev pub decreases-occurs_beyond : goal.decreases-occurs_beyond
decreases-occurs_beyond l = 4 * size l.bindings.now.1 l.term.now + 2

abbrev pub decreases-occurs_through : goal.decreases-occurs_through
decreases-occurs_through l = 4 * size l.bindings.now.1 l.term.now + 1

abbrev pub decreases-occurs_at : goal.decreases-occurs_at
decreases-occurs_at l = 4 * size l.bindings.now.1 l.term.now

abbrev pub decreases-occurs_in : goal.decreases-occurs_in
decreases-occurs_in l = 4 * sizes l.bindings.now.1 l.terms.now + 3

-- the terms that were looked at have no such variable
abbrev pub invariant-occurs_in-loop-term : goal.invariant-occurs_in-loop-term
invariant-occurs_in-loop-term l =
    (list_any (λ t. occurs l.variable (replace (substitution l.bindings.1) t)) (drop l.term-index l.terms) ≡ list_any (λ t. occurs l.variable (replace (substitution l.bindings.1) t)) l.terms) × AreApart l.variable l.bindings.1 l.marks.items
