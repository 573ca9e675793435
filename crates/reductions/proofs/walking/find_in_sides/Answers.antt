use Rattle.reductions.proofs.Stating.{given_none}
use Rattle.reductions.proofs.Walked.{both_sides}
use Rattle.reductions.proofs.walking.find_in_sides.Goals as goal

pub returns-clause-found : goal.returns-clause-found
returns-clause-found c = both_sides c.args.r c.args.left.now c.args.right.now (given_none _ _ _ c.in_default.is c.in_ok-first.ensures.found) (given_none _ _ _ c.in_default-second.is c.in_ok-second.ensures.found)
