use Rattle.superposition.proofs.Alone.{left_below, right_below}
use Rattle.superposition.proofs.unifiers.unifier_of_sides.Goals as goal

pub unifier_of_terms-requires-clause-left_below : goal.unifier_of_terms-requires-clause-left_below
unifier_of_terms-requires-clause-left_below c = left_below c.args.vars c.args.atom.now c.in-Equal.left c.in-Equal.right c.in-Equal.is c.requires.below

pub unifier_of_terms-requires-clause-right_below : goal.unifier_of_terms-requires-clause-right_below
unifier_of_terms-requires-clause-right_below c = right_below c.args.vars c.args.atom.now c.in-Equal.left c.in-Equal.right c.in-Equal.is c.requires.below
