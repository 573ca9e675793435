use Rattle.std.proofs.Common.{subst}
use Rattle.calculus.specs.Inferences.{reflections}
use Rattle.superposition.specs.Appending.{Appended}
use Rattle.superposition.proofs.own.reflections.Goals as goal

pub returns : goal.returns
returns c = subst (λ k. Appended (reflections k) c.args.out.now.items c.reflect_premise.new.out.items c.reflect_premise.result) c.in_ok-premise.ensures.0 c.reflect_premise.ensures
