use Rattle.reductions.proofs.Stating.{given_none}
use Rattle.reductions.proofs.Rewritings.{no_equation, answer_back}
use Rattle.reductions.proofs.rewriting.rewrite_by.Goals as goal

pub returns-in_default : goal.returns-in_default
returns-in_default c = no_equation c.args.target.now.clause c.args.by.now.statement.clause (given_none _ _ _ c.in_default.is c.sides.ensures)

pub returns : goal.returns
returns c = answer_back c.args.number c.args.target.now c.args.by.now _ (given_none _ _ _ c.in_default-forth.is c.in_ok-forth.ensures) c.in_ok-back.ensures
