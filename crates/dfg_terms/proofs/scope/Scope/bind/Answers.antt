use Rattle.std.proofs.Common.{List, [], ◌∷◌, ◌++◌, sym, ap, subst, ◌∙◌}
use Rattle.dfg_terms.specs.declared.scope.Shadow.{Shadow}
use Rattle.dfg_terms.specs.Scopes.{bound}
use Rattle.dfg_terms.specs.ScopeViews.{IsScope}
use Rattle.dfg_terms.proofs.Scopes.{bound_one}
use Rattle.dfg_terms.proofs.scope.Scope.bind.Goals as goal

pub invariant_of-self-2 : goal.invariant_of-self-2
invariant_of-self-2 c =
    let s : Shadow = record { name = c.args.name; number = c.args.number; hidden = c.bound-hidden.result } in
    let hides = c.bound-hidden.ensures ∙ ap (bound c.args.name.now) (sym c.self.view_is) in
    let now = bound_one c.self.inside.numbers.entries c.rebind.new.numbers.entries c.self.inside.shadows.items s c.self.invariant hides c.in_ok-rebind.ensures.ok in
    subst (IsScope c.rebind.new.numbers.entries) (sym (c.push_reserved.ensures.items ∙ ap (λ (ss : List Shadow). ss ++ s ∷ []) c.in_ok-reserve.ensures.items)) now
