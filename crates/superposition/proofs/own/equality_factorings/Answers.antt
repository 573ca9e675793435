use Rattle.std.proofs.Common.{subst}
use Rattle.calculus.specs.Inferences.{equality_factorings}
use Rattle.superposition.specs.Appending.{Appended}
use Rattle.superposition.proofs.own.equality_factorings.Goals as goal

pub returns : goal.returns
returns c = subst (λ k. Appended (equality_factorings k) c.args.out.now.items c.factor_equations_of.new.out.items c.factor_equations_of.result) c.in_ok-premise.ensures.0 c.factor_equations_of.ensures
