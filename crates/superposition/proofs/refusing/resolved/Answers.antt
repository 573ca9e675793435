use Rattle.superposition.proofs.Refused.{resolved_part}
use Rattle.superposition.proofs.refusing.resolved.Goals as goal

pub returns : goal.returns
returns c = λ made.
    resolved_part c.args.pair c.requires.pair made c.args.literals c.args.of c.left_of.result.0.now c.left_of.result.1.now c.left_of-2.result.0.now c.left_of-2.result.1.now c.left_of.ensures c.left_of-2.ensures
