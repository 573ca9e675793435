use Rattle.std.proofs.Common.{◌∙◌, sym, ap}
use Rattle.superposition.proofs.Compared.{is_upper, upper_is}
use Rattle.superposition.proofs.ordering.is_upper.Goals as goal

pub returns-in-Greater : goal.returns-in-Greater
returns-in-Greater c = ap is_upper (sym c.in-Greater.is) ∙ upper_is c.args.first.now c.args.second.now c.compare.result c.compare.ensures

pub returns-in-Incomparable : goal.returns-in-Incomparable
returns-in-Incomparable c = ap is_upper (sym c.in-Incomparable.is) ∙ upper_is c.args.first.now c.args.second.now c.compare.result c.compare.ensures

pub returns-in-Less : goal.returns-in-Less
returns-in-Less c = ap is_upper (sym c.in-Less.is) ∙ upper_is c.args.first.now c.args.second.now c.compare.result c.compare.ensures

pub returns-in-Equal : goal.returns-in-Equal
returns-in-Equal c = ap is_upper (sym c.in-Equal.is) ∙ upper_is c.args.first.now c.args.second.now c.compare.result c.compare.ensures
