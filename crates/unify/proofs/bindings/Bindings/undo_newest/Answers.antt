use Rattle.unify.proofs.BindingsLemmas.{undone_in_fields}
use Rattle.unify.proofs.bindings.Bindings.undo_newest.Goals as goal

pub invariant_of-self : goal.invariant_of-self
invariant_of-self c = undone_in_fields c.self.inside.terms.items c.self.inside.made.items c.pop.new.self.items c.in-Some.variable c.in-Some.field-0-1 c.self.invariant c.in-Some.ensures.items
