use Rattle.std.proofs.Common.{subst}
use Rattle.calculus.specs.Inferences.{own_inferences}
use Rattle.superposition.specs.Appending.{Appended}
use Rattle.superposition.proofs.inferring.infer_self.Goals as goal

pub returns : goal.returns
returns c = subst (λ k. Appended (own_inferences k) c.args.out.now.items c.infer_from_one.new.out.items c.infer_from_one.result) c.in_ok-premise.ensures.0 c.infer_from_one.ensures
