use Rattle.superposition.proofs.Compared.{greater_forth, greater_back, less_forth, less_back, equal_forth, equal_back}
use Rattle.superposition.proofs.ordering.standings.Goals as goal

pub returns-in-Greater-clause-forth : goal.returns-in-Greater-clause-forth
returns-in-Greater-clause-forth c = greater_forth c.order_is_stable.ensures c.args.left.now c.args.right.now c.compare.result c.compare.ensures c.in-Greater.is

pub returns-in-Greater-clause-back : goal.returns-in-Greater-clause-back
returns-in-Greater-clause-back c = greater_back c.order_is_stable.ensures c.args.left.now c.args.right.now c.compare.result c.compare.ensures c.in-Greater.is

pub returns-in-Less-clause-forth : goal.returns-in-Less-clause-forth
returns-in-Less-clause-forth c = less_forth c.order_is_stable.ensures c.args.left.now c.args.right.now c.compare.result c.compare.ensures c.in-Less.is

pub returns-in-Less-clause-back : goal.returns-in-Less-clause-back
returns-in-Less-clause-back c = less_back c.order_is_stable.ensures c.args.left.now c.args.right.now c.compare.result c.compare.ensures c.in-Less.is

pub returns-in-Equal-clause-forth : goal.returns-in-Equal-clause-forth
returns-in-Equal-clause-forth c = equal_forth c.order_is_stable.ensures c.args.left.now c.args.right.now c.compare.result c.compare.ensures c.in-Equal.is

pub returns-in-Equal-clause-back : goal.returns-in-Equal-clause-back
returns-in-Equal-clause-back c = equal_back c.order_is_stable.ensures c.args.left.now c.args.right.now c.compare.result c.compare.ensures c.in-Equal.is
