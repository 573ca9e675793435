-- The laws of the unifier, for two terms whose variables are below a number.
use Rattle.std.proofs.Common.{◌≡◌, inl, inr, ℕ, ◌≤◌, ◌<◌, Bool, true, false, [], ◌∷◌, Option, Some, None, option_map, MatchOption, refl, sym, subst, ◌↔◌, arith}
use Rattle.std.proofs.lemmas.Bool.{or_cases}
use Rattle.spl_terms.specs.declared.term.Term.{Term, Var}
use Rattle.spl_truth.specs.Truth.{entry}
use Rattle.spl_truth.specs.Unifiers.{occurs, solution, entries_below, unifier, HasVariablesBelow, HasNoUnifier, IsMostGeneral, Leads}
use Rattle.spl_truth.specs.OccurrenceLaws.{occurs_below}
use Rattle.spl_truth.proofs.Unifying.{in_either, Unifies, unifies}
use Rattle.spl_truth.proofs.Leading.{solution_leads, leads_only}
use Rattle.spl_truth.specs.EntryLaws.{entry-entries_below}

pub either_below : (n : ℕ) (a b : Term) → HasVariablesBelow n a → HasVariablesBelow n b → (v : ℕ) → in_either a b v ≡ true → v < n
either_below n a b x y v o = elim (or_cases (occurs v a) _ o) [
  | inl here ↦ occurs_below n a x v here
  | inr there ↦ occurs_below n b y v there
]

pub steps : (vars : ℕ) (a b : Term) → HasVariablesBelow vars a → HasVariablesBelow vars b → (r : Option (ℕ → Term)) → Leads Var ((a, b) ∷ []) r ↔ (solution vars Var ((a, b) ∷ []) ≡ r)
steps vars a b x y r = (
  leads_only vars a b (either_below vars a b x y) r,
  λ e. subst (Leads Var ((a, b) ∷ [])) e (solution_leads vars a b (either_below vars a b x y)),
)

-- what is past the number is neither in a nor in b
past_both : (n : ℕ) (a b : Term) → HasVariablesBelow n a → HasVariablesBelow n b → (u : ℕ → Term) → IsMostGeneral a b u → (v : ℕ) → n ≤ v → u v ≡ Var v
past_both n a b x y u most v ge = most.others v (not_in a x (occurs v a) refl) (not_in b y (occurs v b) refl)
  where
    not_in : (t : Term) → HasVariablesBelow n t → (c : Bool) → occurs v t ≡ c → occurs v t ≡ false
    not_in t all true o = absurd (let lt = occurs_below n t all v o in omega arith)
    not_in t all false o = o

entries_general : (vars : ℕ) (a b : Term) → HasVariablesBelow vars a → HasVariablesBelow vars b → (o : Option (ℕ → Term)) → Unifies a b o → MatchOption (option_map (entries_below vars) o) (HasNoUnifier a b) (λ entries. IsMostGeneral a b (entry entries))
entries_general vars a b x y None h = h
entries_general vars a b x y (Some u) h = subst (IsMostGeneral a b) (sym (entry-entries_below vars u (past_both vars a b x y u h))) h

pub most_general : (vars : ℕ) (a b : Term) → HasVariablesBelow vars a → HasVariablesBelow vars b → MatchOption (unifier vars a b) (HasNoUnifier a b) (λ entries. IsMostGeneral a b (entry entries))
most_general vars a b x y = entries_general vars a b x y _ (unifies vars a b (either_below vars a b x y))
