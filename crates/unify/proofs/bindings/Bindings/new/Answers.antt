use Rattle.unify.proofs.BindingsLemmas.{index_of_none}
use Rattle.unify.proofs.bindings.Bindings.new.Goals as goal

pub invariant_of-result : goal.invariant_of-result
invariant_of-result c = index_of_none c.loop.counter c.loop.terms.items c.new.result.items c.loop.invariant c.new.ensures.items
