use Rattle.reductions.proofs.Stating.{given_some, given_none}
use Rattle.reductions.proofs.Rewritings.{side_below, never_falls, irreducible_nothing}
use Rattle.reductions.proofs.rewriting.rewrite_as.Goals as goal

pub judged-requires-clause-below : goal.judged-requires-clause-below
judged-requires-clause-below c = side_below c.args.right_to_left c.args.by.now.statement.clause c.args.left.now c.args.right.now c.in_ok-vars.vars c.requires.equation c.requires.in_order c.in_ok-vars.ensures

pub returns-in_default : goal.returns-in_default
returns-in_default c = never_falls c.args.right_to_left c.args.target.now.clause c.args.by.now.statement.clause c.args.left.now c.args.right.now c.requires.equation (given_none _ _ _ c.in_default.is c.in_ok-r.ensures)

pub returns-in_default-2 : goal.returns-in_default-2
returns-in_default-2 c =
    let r = given_some _ _ _ _ c.in-Some.is c.in_ok-r.ensures in
    irreducible_nothing c.args.right_to_left c.args.target.now.clause c.args.by.now.statement.clause c.args.left.now c.args.right.now c.requires.equation c.in-Some.r r.0 r.1 (given_none _ _ _ c.in_default-2.is c.in_ok-found.ensures)
