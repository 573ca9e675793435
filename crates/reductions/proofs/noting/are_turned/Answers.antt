use Rattle.reductions.proofs.Imaged.{holds_equal, sides_tell}
use Rattle.reductions.proofs.noting.are_turned.Goals as goal

pub returns-in-Equal-Equal : goal.returns-in-Equal-Equal
returns-in-Equal-Equal c = sides_tell c.args.atom.now c.args.other.now _ _ _ _ c.equals.result c.in-Equal-Equal.is-0 c.in-Equal-Equal.is-1 c.requires c.equals.ensures

pub returns-in_default-2 : goal.returns-in_default-2
returns-in_default-2 c = holds_equal c.args.atom.now c.args.other.now _ _ c.in_default.is-0 c.requires
