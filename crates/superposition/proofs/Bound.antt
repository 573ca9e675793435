-- What bindings that unify two terms say, before they are written out.
use Rattle.std.proofs.Common.{◌≡◌, ℕ, Bool, List, Option, Some, None, MatchOption, option_and_then, sym, ap, ◌∙◌, subst}
use Rattle.std.specs.Prelude.{not}
use Rattle.spl_terms.specs.declared.term.Term.{Term}
use Rattle.spl_terms.specs.Terms.{replace}
use Rattle.spl_truth.specs.Truth.{entry}
use Rattle.spl_truth.specs.Orders.{is_below, is_not_below}
use Rattle.spl_truth.specs.Unifiers.{HasVariablesBelow, HasNoUnifier, IsMostGeneral, entries_below, unifier}
use Rattle.unify.specs.Bindings.{substitution, IsTriangular}
use Rattle.unify.specs.Standing.{StandForUnifier}
use Rattle.proof_steps.specs.Steps.{when}
use Rattle.superposition.proofs.Unified.{entries_are}

module _ (n : ℕ) (a b : Term) (found : Option (ℕ × List (ℕ × Term))) (exact : MatchOption found (unifier n a b ≡ None) (StandForUnifier n a b)) where
  pub bound_none : found ≡ None → None ≡ unifier n a b
  bound_none e = sym (subst (λ o. MatchOption o (unifier n a b ≡ None) (StandForUnifier n a b)) e exact)

  module _ (bs : ℕ × List (ℕ × Term)) (is : found ≡ Some bs) where
    stand : StandForUnifier n a b bs
    stand = subst (λ o. MatchOption o (unifier n a b ≡ None) (StandForUnifier n a b)) is exact

    pub bound_triangular : IsTriangular bs.0 bs.1
    bound_triangular = stand.triangular

    pub bound_is : unifier n a b ≡ Some (entries_below n (substitution bs.1))
    bound_is = stand.exact

    pub bound_entries : HasVariablesBelow n a → HasVariablesBelow n b → MatchOption found (HasNoUnifier a b) (λ u. IsMostGeneral a b (substitution u.1)) → entry (entries_below n (substitution bs.1)) ≡ substitution bs.1
    bound_entries h k general = entries_are n a b (substitution bs.1) h k (subst (λ o. MatchOption o (HasNoUnifier a b) (λ u. IsMostGeneral a b (substitution u.1))) is general)

-- what was found of the instances is what the entries say
pub upper_there : (u : List Term) (s : ℕ → Term) (l r : Term) (b : Bool) → entry u ≡ s → b ≡ not (is_below (replace s l) (replace s r)) → b ≡ is_not_below u l r
upper_there u s l r b is e = e ∙ ap (λ h. not (is_below (replace h l) (replace h r))) (sym is)

pub none_left : (f : List Term → Bool) (o : Option (List Term)) → o ≡ None → option_and_then (λ u. when (f u) u) o ≡ None
none_left f o e = ap (option_and_then (λ u. when (f u) u)) e

pub one_left : (f : List Term → Bool) (o : Option (List Term)) (u : List Term) (b : Bool) → o ≡ Some u → f u ≡ b → option_and_then (λ u. when (f u) u) o ≡ when b u
one_left f o u b e is = ap (option_and_then (λ u. when (f u) u)) e ∙ ap (λ t. when t u) is
