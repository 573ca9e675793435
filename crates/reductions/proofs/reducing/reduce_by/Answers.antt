use Rattle.reductions.proofs.Stating.{given_none}
use Rattle.reductions.proofs.Rewritings.{answer_by}
use Rattle.reductions.proofs.reducing.reduce_by.Goals as goal

pub returns : goal.returns
returns c = answer_by c.args.number c.args.target.now c.args.by.now _ (given_none _ _ _ c.in_default.is c.in_ok-replaced.ensures) c.in_ok-rewritten.ensures
