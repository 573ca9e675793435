use Rattle.std.proofs.Common.{subst}
use Rattle.calculus.specs.Inferences.{pair_inferences}
use Rattle.superposition.specs.Appending.{Appended}
use Rattle.superposition.proofs.inferring.infer_pair.Goals as goal

pub returns : goal.returns
returns c =
    subst (λ k. Appended (pair_inferences c.args.given.now k) c.args.out.now.items c.infer_from_both.new.out.items c.infer_from_both.result) c.in_ok-second.ensures.0
    (subst (λ k. Appended (pair_inferences k c.in_ok-second.second.kept.now) c.args.out.now.items c.infer_from_both.new.out.items c.infer_from_both.result) c.in_ok-first.ensures.0 c.infer_from_both.ensures)
