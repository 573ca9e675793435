use Rattle.std.proofs.Common.{◌≡◌, ℕ, ◌<◌, List, None, sym, ap, subst, ◌∙◌}
use Rattle.spl_terms.specs.declared.term.Term.{Term}
use Rattle.unify.specs.Bindings.{newest_first, bound_to}
use Rattle.unify.proofs.BindingsLemmas.{bound_in_fields, newest_last}
use Rattle.unify.proofs.bindings.Bindings.bind.Goals as goal

pub invariant_of-self-2 : goal.invariant_of-self-2
invariant_of-self-2 c =
    bound_in_fields c.self.inside.terms.items c.self.inside.made.items c.push.new.self.items c.args.variable c.args.term c.self.invariant
    (subst (λ (b : ℕ × List (ℕ × Term)). c.args.variable < b.0) (sym c.self.view_is) c.requires.below)
    (subst (λ (b : ℕ × List (ℕ × Term)). bound_to b.1 c.args.variable ≡ None) (sym c.self.view_is) c.requires.unbound)
    (ap newest_first c.in_ok-push.ensures.items ∙ newest_last c.self.inside.made.items c.args.variable c.args.term)
