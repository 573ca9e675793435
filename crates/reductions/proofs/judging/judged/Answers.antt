use Rattle.std.proofs.Common.{refl}
use Rattle.reductions.proofs.Judged.{less_never, equal_never, when_greater, greater_covers}
use Rattle.reductions.proofs.judging.judged.Goals as goal

pub returns-in-Less : goal.returns-in-Less
returns-in-Less c = λ _. less_never _ _ _ c.compare.ensures c.order_is_stable.ensures c.in-Less.is

pub returns-in-Equal : goal.returns-in-Equal
returns-in-Equal c = λ _. equal_never _ _ _ c.compare.ensures c.in-Equal.is

pub returns-in-Greater : goal.returns-in-Greater
returns-in-Greater c =
    let falls = when_greater c.args.left.now c.args.right.now _ c.compare.ensures c.in-Greater.is in
    (refl, refl, refl, record { below = c.requires.below; bound = greater_covers c.args.left.now c.args.right.now falls; always = λ _ g. c.order_is_stable.ensures g c.args.left.now c.args.right.now falls })
