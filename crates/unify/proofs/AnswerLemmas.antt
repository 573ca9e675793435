-- From where the list of equations leads to what the public calls answer.
use Rattle.std.proofs.Common.{◌≡◌, ℕ, suc, ◌≤◌, nat_lt, Bool, true, false, ◌&&◌, List, [], ◌∷◌, ◌++◌, length, Option, Some, None, option_map, Result, Ok, Err, IfOk, IfSome, MatchOption, refl, sym, ap, subst, ◌∙◌, ◌↔◌, arith}
use Rattle.std.specs.List.{zip}
use Rattle.std.proofs.lemmas.Bool.{ltb-true, and_parts}
use Rattle.spl_terms.specs.declared.term.Symbol.{Symbol}
use Rattle.spl_terms.specs.declared.term.Term.{Term, Var, App}
use Rattle.spl_terms.specs.Terms.{replace}
use Rattle.spl_terms.specs.TermLaws.{symbol_eq-refl, replace-App, replace-itself}
use Rattle.spl_truth.specs.Truth.{entry}
use Rattle.spl_truth.specs.Unifiers.{solution, entries_below, unifier, HasVariablesBelow, HaveVariablesBelow, HasNoUnifier, IsMostGeneral, Leads}
use Rattle.spl_truth.specs.EntryLaws.{entry-entries_below}
use Rattle.unify.specs.Below.{EquationsBelow}
use Rattle.unify.specs.Fitting.{fits, all_fit}
use Rattle.unify.specs.Bindings.{substitution, IsTriangular}
use Rattle.unify.specs.Standing.{StandForUnifier}
use Rattle.unify.proofs.BelowLemmas.{below_from, below_to, are_below_from, application_below, zip_below}
use Rattle.unify.proofs.TriangularLemmas.{stands}
use Rattle.unify.specs.FittingLaws.{fits-App-App, GeneralLaw, misfit_exact}
use Rattle.unify.proofs.SolvingLemmas.{split_leads}

-- ---- the solution

pub entries_stand : (vars : ℕ) (made : List (ℕ × Term)) (terms : List Term) → IsTriangular vars made → terms ≡ entries_below vars (substitution made) → entry terms ≡ substitution made
entries_stand vars made terms tri is = ap entry is ∙ entry-entries_below vars (substitution made) (λ v ge. (stands vars made tri).0.outside v (past v ge (nat_lt v vars) refl))
  where
    past : (v : ℕ) → vars ≤ v → (b : Bool) → nat_lt v vars ≡ b → nat_lt v vars ≡ false
    past v ge true e = absurd (let lt = ltb-true v vars e in omega arith)
    past v ge false e = e

-- ---- from the solution to the unifier

pub both : {T E : Type 0} (r : Result T E) (P Q R : T → Type 0) → ((x : T) → P x → Q x → R x) → IfOk r P → IfOk r Q → IfOk r R
both (Ok x) P Q R f p q = f x p q
both (Err e) P Q R f p q = tt

-- the law of the steps, for two terms
abbrev pub StepsLaw : Type 0
StepsLaw = (vars : ℕ) (a b : Term) → HasVariablesBelow vars a → HasVariablesBelow vars b → (r : Option (ℕ → Term)) → Leads Var ((a, b) ∷ []) r ↔ (solution vars Var ((a, b) ∷ []) ≡ r)

module _ (vars : ℕ) (a b : Term) (below_a : HasVariablesBelow vars a) (below_b : HasVariablesBelow vars b) where
  pub found_exact : StepsLaw → (found : Option (ℕ × List (ℕ × Term))) → Leads Var ((a, b) ∷ []) (option_map (λ (u : ℕ × List (ℕ × Term)). substitution u.1) found) → IfSome found (λ u. (u.0 ≡ vars) × IsTriangular u.0 u.1) → MatchOption found (unifier vars a b ≡ None) (StandForUnifier vars a b)
  found_exact law None h k = ap (option_map (entries_below vars)) ((law vars a b below_a below_b None).0 h)
  found_exact law (Some u) h k = record {
    as_many = k.0;
    triangular = k.1;
    exact = ap (option_map (entries_below vars)) ((law vars a b below_a below_b (Some (substitution u.1))).0 h);
  }

  pub found_general : GeneralLaw → (found : Option (ℕ × List (ℕ × Term))) → MatchOption found (unifier vars a b ≡ None) (StandForUnifier vars a b) → MatchOption found (HasNoUnifier a b) (λ u. IsMostGeneral a b (substitution u.1))
  found_general law None e = subst (λ o. MatchOption o (HasNoUnifier a b) (λ entries. IsMostGeneral a b (entry entries))) e (law vars a b below_a below_b)
  found_general law (Some u) stand =
      subst (IsMostGeneral a b) (entries_stand vars u.1 _ (subst (λ n. IsTriangular n u.1) stand.as_many stand.triangular) refl)
      (subst (λ o. MatchOption o (HasNoUnifier a b) (λ entries. IsMostGeneral a b (entry entries))) stand.exact (law vars a b below_a below_b))

-- ---- the entries that are written from the bindings

module _ (vars : ℕ) (a b : Term) (found : Option (ℕ × List (ℕ × Term))) (u : ℕ × List (ℕ × Term)) (is : found ≡ Some u) (stand_or_none : MatchOption found (unifier vars a b ≡ None) (StandForUnifier vars a b)) where
  pub found_stand : StandForUnifier vars a b u
  found_stand = subst (λ o. MatchOption o (unifier vars a b ≡ None) (StandForUnifier vars a b)) is stand_or_none

  pub written_same : (terms : List Term) → terms ≡ entries_below vars (substitution u.1) → substitution u.1 ≡ entry terms
  written_same terms written = sym (entries_stand vars u.1 terms (subst (λ n. IsTriangular n u.1) found_stand.as_many found_stand.triangular) written)

  pub written_steps : (terms : List Term) → terms ≡ entries_below vars (substitution u.1) → Leads Var ((a, b) ∷ []) (option_map (λ (x : ℕ × List (ℕ × Term)). substitution x.1) found) → Leads Var ((a, b) ∷ []) (Some (entry terms))
  written_steps terms written leads =
      subst (λ s. Leads Var ((a, b) ∷ []) (Some s)) (written_same terms written)
      (subst (λ (o : Option (ℕ × List (ℕ × Term))). Leads Var ((a, b) ∷ []) (option_map (λ (x : ℕ × List (ℕ × Term)). substitution x.1) o)) is leads)

  pub written_general : (terms : List Term) → terms ≡ entries_below vars (substitution u.1) → MatchOption found (HasNoUnifier a b) (λ x. IsMostGeneral a b (substitution x.1)) → IsMostGeneral a b (entry terms)
  written_general terms written general =
      subst (IsMostGeneral a b) (written_same terms written)
      (subst (λ o. MatchOption o (HasNoUnifier a b) (λ x. IsMostGeneral a b (substitution x.1))) is general)

pub one_equation : (vars : ℕ) (a b : Term) (first es : List (Term × Term)) → HasVariablesBelow vars a → HasVariablesBelow vars b → first ≡ [] → es ≡ (a, b) ∷ first → EquationsBelow vars es
one_equation vars a b first es below_a below_b none is =
    subst (EquationsBelow vars) (sym (is ∙ ap (λ l. (a, b) ∷ l) none)) (below_from vars a below_a, below_from vars b below_b, tt)

pub one_leads : (a b : Term) (first es : List (Term × Term)) (r : Option (ℕ → Term)) → first ≡ [] → es ≡ (a, b) ∷ first → Leads Var es r → Leads Var ((a, b) ∷ []) r
one_leads a b first es r none is h = subst (λ l. Leads Var l r) (is ∙ ap (λ l. (a, b) ∷ l) none) h

-- ---- lists of arguments

pub application_has : (vars : ℕ) (f : Symbol) (ts : List Term) → HaveVariablesBelow vars ts → HasVariablesBelow vars (App f ts)
application_has vars f ts h = below_to vars (App f ts) (application_below vars f ts (are_below_from vars ts h))

pub arguments_equations : (vars : ℕ) (ss ts : List Term) (first es : List (Term × Term)) → HaveVariablesBelow vars ss → HaveVariablesBelow vars ts → first ≡ [] → es ≡ zip ss ts ++ first → EquationsBelow vars es
arguments_equations vars ss ts first es h k none is =
    subst (EquationsBelow vars) (sym is) (zip_below vars ss ts first (are_below_from vars ss h) (are_below_from vars ts k) (subst (EquationsBelow vars) (sym none) tt))

pub arguments_lead : (f : Symbol) (ss ts : List Term) (first es : List (Term × Term)) (r : Option (ℕ → Term)) → length ss ≡ length ts → first ≡ [] → es ≡ zip ss ts ++ first → Leads Var es r → Leads Var ((App f ss, App f ts) ∷ []) r
arguments_lead f ss ts first es r many none is h =
    split_leads Var (λ t. replace-itself (replace Var t)) (App f ss) (App f ts) f f ss ts (replace-App Var f ss) (replace-App Var f ts) (symbol_eq-refl f) many [] r
    (subst (λ l. Leads Var l r) (is ∙ ap (λ l. zip ss ts ++ l) none) h)

-- ---- terms that don't fit

none_before : (f : (ℕ → Term) → List Term) (o : Option (ℕ → Term)) → option_map f o ≡ None → o ≡ None
none_before f None e = refl
none_before f (Some s) e = absurd (cc)

module _ (vars : ℕ) (a b : Term) (below_a : HasVariablesBelow vars a) (below_b : HasVariablesBelow vars b) (general_law : GeneralLaw) (apart : fits a b ≡ false) where
  pub misfit_leads : StepsLaw → Leads Var ((a, b) ∷ []) None
  misfit_leads law = (law vars a b below_a below_b None).1 (none_before (entries_below vars) _ (sym (misfit_exact vars a b below_a below_b general_law apart)))

pub arguments_apart : (f : Symbol) (ss ts : List Term) (test : Bool) → test ≡ all_fit ss ts → test ≡ false → fits (App f ss) (App f ts) ≡ false
arguments_apart f ss ts test is apart = fits-App-App f ss f ts ∙ ap (λ b. b && all_fit ss ts) (symbol_eq-refl f) ∙ sym is ∙ apart

pub as_many_fit : (ss ts : List Term) → all_fit ss ts ≡ true → length ss ≡ length ts
as_many_fit [] [] e = refl
as_many_fit [] (t ∷ ts) e = absurd (cc)
as_many_fit (s ∷ ss) [] e = absurd (cc)
as_many_fit (s ∷ ss) (t ∷ ts) e = ap suc (as_many_fit ss ts (and_parts (fits s t) (all_fit ss ts) e).1)
