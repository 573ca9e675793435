use Rattle.std.proofs.Common.{drop}
use Rattle.std.specs.List.{flat_map}
use Rattle.spl_terms.specs.InOrder.{variables}
use Rattle.proof_steps.specs.declared.step.Rule.TheVariants.{Reflex}
use Rattle.calculus.specs.Inferences.{clause_of, by_unifier, sides_unifier}
use Rattle.superposition.proofs.Composing.{LeadsOn}
use Rattle.superposition.proofs.own.reflect_all.Given as goal

abbrev pub invariant-loop-k : goal.invariant-loop-k
invariant-loop-k l =
    LeadsOn (flat_map (λ x. by_unifier l.p (Reflex x.0) (sides_unifier (variables (clause_of l.p)) x.1.now)) l.places) l.fn.out.items
    (flat_map (λ x. by_unifier l.p (Reflex x.0) (sides_unifier (variables (clause_of l.p)) x.1.now)) (drop l.k l.places)) l.out.items
