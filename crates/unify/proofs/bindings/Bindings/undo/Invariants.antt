use Rattle.std.proofs.Common.{length}
use Rattle.unify.proofs.BindingsLemmas.{IsPast}
use Rattle.unify.proofs.bindings.Bindings.undo.Given as goal

abbrev pub invariant-loop-self : goal.invariant-loop-self
invariant-loop-self l = IsPast l.count l.initial.self l.self

abbrev pub decreases-loop-self : goal.decreases-loop-self
decreases-loop-self l = length l.self.1
