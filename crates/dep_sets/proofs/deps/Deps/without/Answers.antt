use Rattle.std.proofs.Common.{◌≡◌, ap, subst, sym, ◌∙◌, length, arith}
use Rattle.std.proofs.lemmas.List.{take_all}
use Rattle.dep_sets.specs.Assumptions.{IsAscending, contains_assumption, without_assumption}
use Rattle.dep_sets.specs.SetLaws.{without_ascending, length-without, without_contains}
use Rattle.dep_sets.proofs.deps.Deps.without.Goals as goal

pub invariant_of-result : goal.invariant_of-result
invariant_of-result c =
    let whole : c.loop-item.items.items ≡ without_assumption c.args.assumption c.self.inside.items.items =
    c.loop-item.invariant ∙ ap (without_assumption c.args.assumption) (take_all c.loop-item.item-index c.deref-item-items.result.now c.loop-item-test.false ∙ c.deref-item-items.ensures.value) in (
      subst IsAscending (sym whole) (without_ascending c.args.assumption c.self.inside.items.items c.self.invariant.0),
      omega (arith, ap length whole, length-without c.args.assumption c.self.inside.items.items, c.self.invariant.1),
    )

pub returns-clause-members : goal.returns-clause-members
returns-clause-members c =
    let whole : c.loop-item.items.items ≡ without_assumption c.args.assumption c.args.self.now =
    c.loop-item.invariant ∙ ap (without_assumption c.args.assumption) (take_all c.loop-item.item-index c.deref-item-items.result.now c.loop-item-test.false ∙ c.deref-item-items.ensures.value ∙ c.self.view_is) in
    λ x.
    ap (λ z. contains_assumption z x) whole ∙ without_contains x c.args.assumption c.args.self.now
