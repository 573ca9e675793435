use Rattle.reductions.proofs.Stating.{given_none}
use Rattle.reductions.proofs.Walked.{answer_parts}
use Rattle.reductions.proofs.walking.find_in_clause.Goals as goal

pub returns : goal.returns
returns c = answer_parts c.args.r c.args.clause.now _ (given_none _ _ _ c.in_default.is c.in_ok-found.ensures) (given_none _ _ _ c.in_default-2.is c.in_ok-found-2.ensures) c.in_ok-found-3.ensures
