use Rattle.spl_terms.specs.declared.clause.Part.TheVariants.{Succedent}
use Rattle.reductions.proofs.Stating.{given_some}
use Rattle.reductions.proofs.Removing.{single_below, before_made, place_within}
use Rattle.reductions.proofs.replacing.replace_before.Goals as goal

pub first_match-requires : goal.first_match-requires
first_match-requires c = single_below c.args.by.now.statement.clause Succedent c.args.atom.now c.in_ok-vars.vars c.requires.single c.requires.in_order c.in_ok-vars.ensures

pub stated_without-requires : goal.stated_without-requires
stated_without-requires c = place_within _ _ _ _ c.part.ensures (given_some _ _ _ (c.in-Some.place, c.in-Some.s) c.in-Some.is c.in_ok-place.ensures)

pub returns : goal.returns
returns c =
    before_made c.args.number c.args.target.now c.args.by.now c.args.atom.now c.args.part c.in-Some.place c.in_ok-vars.vars _ c.in-Some.s _ _ _ c.in_ok-line.line c.requires.single c.requires.apart c.requires.negative c.in_ok-vars.ensures c.part.ensures
    (given_some _ _ _ (c.in-Some.place, c.in-Some.s) c.in-Some.is c.in_ok-place.ensures) c.in_ok-deps.ensures.exact c.in_ok-stated.ensures c.in_ok-t.ensures c.in_ok-line.ensures
