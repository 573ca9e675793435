-- Laws with their proofs, not definitions that a reader must believe: terms with a unifier fit, so terms that don't have none.
use Rattle.std.proofs.Common.{◌≡◌, ℕ, Bool, true, false, ◌&&◌, List, [], ◌∷◌, map, Option, Some, None, MatchOption, refl, sym, ap, ◌∙◌}
use Rattle.std.proofs.lemmas.Bool.{false≢true}
use Rattle.spl_terms.specs.declared.term.Symbol.{Symbol}
use Rattle.spl_terms.specs.declared.term.Term.{Term, Var, App}
use Rattle.spl_terms.specs.declared.term.Term.TheViews.{outs-Var, outs-App}
use Rattle.spl_terms.specs.Terms.{symbol_eq, all_pass, replace}
use Rattle.spl_terms.specs.TermLaws.{symbol_eq-refl, Each, term_induction, fold-Var, fold-App, replace-App}
use Rattle.spl_truth.specs.Truth.{entry}
use Rattle.spl_truth.specs.Unifiers.{HasVariablesBelow, IsUnifier, HasNoUnifier, IsMostGeneral, unifier}
use Rattle.spl_truth.specs.OccurrenceLaws.{same_arguments, same_symbols}
use Rattle.unify.specs.Fitting.{may_be, fitting_step, fits, all_fit}

pub fits-Var : (v : ℕ) (t : Term) → fits (Var v) t ≡ true
fits-Var v t = ap (λ (h : Term → Bool). h t) (fold-Var fitting_step v)

pub fits-App-Var : (f : Symbol) (ss : List Term) (w : ℕ) → fits (App f ss) (Var w) ≡ true
fits-App-Var f ss w = ap (λ (h : Term → Bool). h (Var w)) (fold-App fitting_step f ss) ∙ ap (may_be f (map fits ss)) (outs-Var w)

all_pass-fits : (ss ts : List Term) → all_pass (map fits ss) ts ≡ all_fit ss ts
all_pass-fits [] [] = refl
all_pass-fits [] (t ∷ ts) = refl
all_pass-fits (s ∷ ss) [] = refl
all_pass-fits (s ∷ ss) (t ∷ ts) = ap (λ b. fits s t && b) (all_pass-fits ss ts)

pub fits-App-App : (f : Symbol) (ss : List Term) (g : Symbol) (ts : List Term) → fits (App f ss) (App g ts) ≡ (symbol_eq f g && all_fit ss ts)
fits-App-App f ss g ts =
    ap (λ (h : Term → Bool). h (App g ts)) (fold-App fitting_step f ss)
    ∙ ap (may_be f (map fits ss)) (outs-App g ts)
    ∙ ap (λ b. symbol_eq f g && b) (all_pass-fits ss ts)

-- ---- terms with a unifier fit

module _ (g : ℕ → Term) where
  each_fits : (ss ts : List Term) → Each (λ s. (t : Term) → replace g s ≡ replace g t → fits s t ≡ true) ss → map (replace g) ss ≡ map (replace g) ts → all_fit ss ts ≡ true
  each_fits [] [] each e = refl
  each_fits [] (t ∷ ts) each e = absurd (cc)
  each_fits (s ∷ ss) [] each e = absurd (cc)
  each_fits (s ∷ ss) (t ∷ ts) each e =
      let a : replace g s ≡ replace g t = cc in
      let b : map (replace g) ss ≡ map (replace g) ts = cc in
      rw (each.0 t a, each_fits ss ts each.1 b)

  pub unified_fit : (s t : Term) → IsUnifier g s t → fits s t ≡ true
  unified_fit =
      term_induction (λ s. (t : Term) → replace g s ≡ replace g t → fits s t ≡ true)
      (λ v t e. fits-Var v t)
      (λ f ss each. term_induction (λ t. replace g (App f ss) ≡ replace g t → fits (App f ss) t ≡ true)
      (λ w e. fits-App-Var f ss w)
      (λ h ts _ e.
      let made = sym (replace-App g f ss) ∙ e ∙ replace-App g h ts in
      let heads : f ≡ h = same_symbols _ _ _ _ made in
      let one : symbol_eq f h ≡ true = ap (symbol_eq f) (sym heads) ∙ symbol_eq-refl f in
      let two = each_fits ss ts each (same_arguments _ _ _ _ made) in
      fits-App-App f ss h ts ∙ rw (one, two)))

pub misfits : (a b : Term) → fits a b ≡ false → HasNoUnifier a b
misfits a b e g same = false≢true (sym e ∙ unified_fit g a b same)

-- where there is no unifier, a most general one is none
pub none_general : (a b : Term) → HasNoUnifier a b → (o : Option (List Term)) → MatchOption o (HasNoUnifier a b) (λ entries. IsMostGeneral a b (entry entries)) → o ≡ None
none_general a b never None h = refl
none_general a b never (Some entries) h = absurd (never (entry entries) h.unifies)

-- ---- so the unifier is none

abbrev pub GeneralLaw : Type 0
GeneralLaw = (vars : ℕ) (a b : Term) → HasVariablesBelow vars a → HasVariablesBelow vars b → MatchOption (unifier vars a b) (HasNoUnifier a b) (λ entries. IsMostGeneral a b (entry entries))

module _ (vars : ℕ) (a b : Term) (below_a : HasVariablesBelow vars a) (below_b : HasVariablesBelow vars b) (general_law : GeneralLaw) (apart : fits a b ≡ false) where
  pub misfit_exact : None ≡ unifier vars a b
  misfit_exact = sym (none_general a b (misfits a b apart) (unifier vars a b) (general_law vars a b below_a below_b))
