use Rattle.reductions.proofs.Stating.{own_answer, given_none}
use Rattle.reductions.proofs.own.reduce_self.Goals as goal

pub returns : goal.returns
returns c = own_answer c.args.number c.args.target.now _ (given_none _ _ _ c.in_default.is c.in_ok-line.ensures) c.in_ok-made.ensures
