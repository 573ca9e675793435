use Rattle.std.proofs.Common.{◌≡◌}
use Rattle.spl_terms.specs.Terms.{replace}
use Rattle.unify.specs.Below.{IsBelow}
use Rattle.unify.specs.Bindings.{substitution, rank_of}
use Rattle.unify.proofs.triangular.dereferenced.Given as goal

abbrev pub invariant-loop-term : goal.invariant-loop-term
invariant-loop-term l = (replace (substitution l.bindings.1) l.term ≡ replace (substitution l.bindings.1) l.initial.term) × (IsBelow l.bindings.0 l.initial.term → IsBelow l.bindings.0 l.term)

abbrev pub decreases-loop-term : goal.decreases-loop-term
decreases-loop-term l = rank_of l.bindings.1 l.term
