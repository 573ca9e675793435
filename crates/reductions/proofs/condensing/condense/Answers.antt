use Rattle.reductions.proofs.Folded.{nothing_folds}
use Rattle.reductions.proofs.Stating.{condensing_made, given_some, given_none}
use Rattle.reductions.proofs.condensing.condense.Goals as goal

pub returns-in_default : goal.returns-in_default
returns-in_default c = nothing_folds c.args.target.now.clause c.requires (given_none _ _ _ c.in_default.is c.in_ok-s.ensures)

pub returns : goal.returns
returns c =
    condensing_made c.args.number c.args.target.now c.in-Some.s _ _ _ c.in_ok-line.line c.requires (given_some _ _ _ _ c.in-Some.is c.in_ok-s.ensures) c.in_ok-distinct_instance.ensures c.in_ok-into_ordered.ensures.exact c.in_ok-copy.ensures c.in_ok-line.ensures
