use Rattle.std.proofs.Common.{subst}
use Rattle.calculus.specs.Inferences.{factorings}
use Rattle.superposition.specs.Appending.{Appended}
use Rattle.superposition.proofs.own.factorings.Goals as goal

pub returns : goal.returns
returns c = subst (λ k. Appended (factorings k) c.args.out.now.items c.factor_premise.new.out.items c.factor_premise.result) c.in_ok-premise.ensures.0 c.factor_premise.ensures
