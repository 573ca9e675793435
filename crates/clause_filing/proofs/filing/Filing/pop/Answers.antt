use Rattle.std.proofs.Common.{◌≡◌, ◌∙◌, refl, sym}
use Rattle.clause_filing.proofs.Entries.{linked_less, last_key_there, numbered_before}
use Rattle.clause_filing.proofs.filing.Filing.pop.Goals as goal

pub invariant_of-self : goal.invariant_of-self
invariant_of-self c = linked_less c.self.inside _ c.pop.new.self.items c.in-Some.entry c.self.invariant c.in-Some.ensures.items (λ q. c.in-Ok.ensures.updates.0 q) refl

pub unreachable-requires : goal.unreachable-requires
unreachable-requires c = last_key_there c.self.inside c.pop.new.self.items c.in-Some.entry c.self.invariant c.in-Some.ensures.items c.in-Err.ensures.absent

pub returns-in-Ok-clause-others : goal.returns-in-Ok-clause-others
returns-in-Ok-clause-others c =
    let same : c.self.inside.entries.items ≡ c.args.self.now = c.self.view_is in
    numbered_before c.pop.new.self.items c.in-Some.entry c.args.self.now c.pop.new.self.items (sym same ∙ c.in-Some.ensures.items) refl
