use Rattle.std.proofs.Common.{subst}
use Rattle.calculus.specs.Inferences.{superpositions}
use Rattle.superposition.specs.Appending.{Appended}
use Rattle.superposition.proofs.rewriting.superpositions.Goals as goal

pub returns : goal.returns
returns c =
    subst (λ k. Appended (superpositions c.args.p.now k) c.args.out.now.items c.superpose_premises.new.out.items c.superpose_premises.result) c.in_ok-second.ensures.0
    (subst (λ k. Appended (superpositions k c.in_ok-second.second.kept.now) c.args.out.now.items c.superpose_premises.new.out.items c.superpose_premises.result) c.in_ok-first.ensures.0 c.superpose_premises.ensures)
