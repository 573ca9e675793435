use Rattle.journal_laws.proofs.Order.{stated_ordered}
use Rattle.journal_laws.proofs.conclusions_are_in_order.Goals as goal

pub returns : goal.returns
returns c = stated_ordered c.order_stays.ensures
