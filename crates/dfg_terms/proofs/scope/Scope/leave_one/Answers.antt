use Rattle.std.proofs.Common.{IsSome, refl, [], ◌∷◌, ◌++◌, sym, subst}
use Rattle.dfg_terms.specs.ScopeViews.{IsScope}
use Rattle.dfg_terms.proofs.Scopes.{left_one, last_number}
use Rattle.dfg_terms.proofs.scope.Scope.leave_one.Goals as goal

pub give_back-requires : goal.give_back-requires
give_back-requires c =
    let whole : IsScope c.self.inside.numbers.entries (c.pop.new.self.items ++ c.in-Some.shadow ∷ []) = subst (IsScope c.self.inside.numbers.entries) c.in-Some.ensures.items c.self.invariant in
    subst (λ o. IsSome o) (sym (last_number c.self.inside.numbers.entries c.pop.new.self.items c.in-Some.shadow whole)) refl

pub invariant_of-self : goal.invariant_of-self
invariant_of-self c =
    let whole : IsScope c.self.inside.numbers.entries (c.pop.new.self.items ++ c.in-Some.shadow ∷ []) = subst (IsScope c.self.inside.numbers.entries) c.in-Some.ensures.items c.self.invariant in
    left_one c.self.inside.numbers.entries c.give_back.new.numbers.entries c.pop.new.self.items c.in-Some.shadow whole c.give_back.ensures
