-- Terms that fit, as terms with a unifier do, and terms that cover others, as their instances.
use Rattle.std.proofs.Common.{◌≡◌, ℕ, Bool, true, false, ◌&&◌, List, [], ◌∷◌, map, refl, sym, ap, ◌∙◌}
use Rattle.std.proofs.Math.Bool.{true-and}
use Rattle.std.proofs.lemmas.Bool.{false≢true}
use Rattle.spl_terms.specs.declared.term.Symbol.{Symbol}
use Rattle.spl_terms.specs.declared.term.Term.{Term, Var, App}
use Rattle.spl_terms.specs.declared.term.Term.TheViews.{outs-Var, outs-App}
use Rattle.spl_terms.specs.Terms.{symbol_eq, all_pass, replace}
use Rattle.spl_terms.specs.TermLaws.{symbol_eq-refl, Each, term_induction, fold-Var, fold-App, term_symbols-App, term_symbols-positive, replace-App}
use Rattle.spl_truth.specs.Matching.{HasNoMatcher}
use Rattle.spl_truth.specs.OccurrenceLaws.{same_arguments, same_symbols, no_application}
use Rattle.unify.specs.Fitting.{fits, all_fit, may_become, covering_step, covers, all_cover}
use Rattle.unify.specs.FittingLaws.{fits-Var, fits-App-Var, fits-App-App}

pub ruleset fits_laws = (fits-Var, fits-App-Var, fits-App-App, term_symbols-App, term_symbols-positive)

pub fitting_apps : (s t : Term) (f g : Symbol) (ss ts as' bs : List Term) (q r : Bool) → s ≡ App f ss → t ≡ App g ts → q ≡ symbol_eq f g → q ≡ true → as' ≡ ss → bs ≡ ts → r ≡ all_fit as' bs → r ≡ fits s t
fitting_apps s t f g ss ts as' bs q r p1 p2 p3 p4 p5 p6 p7 = cc (fits-App-App f ss g ts, true-and (all_fit ss ts))

-- ---- a term covers its instances

pub covers-Var : (v : ℕ) (t : Term) → covers (Var v) t ≡ true
covers-Var v t = ap (λ (h : Term → Bool). h t) (fold-Var covering_step v)

pub covers-App-Var : (f : Symbol) (ss : List Term) (w : ℕ) → covers (App f ss) (Var w) ≡ false
covers-App-Var f ss w = ap (λ (h : Term → Bool). h (Var w)) (fold-App covering_step f ss) ∙ ap (may_become f (map covers ss)) (outs-Var w)

all_pass-covers : (ss ts : List Term) → all_pass (map covers ss) ts ≡ all_cover ss ts
all_pass-covers [] [] = refl
all_pass-covers [] (t ∷ ts) = refl
all_pass-covers (s ∷ ss) [] = refl
all_pass-covers (s ∷ ss) (t ∷ ts) = ap (λ b. covers s t && b) (all_pass-covers ss ts)

pub covers-App-App : (f : Symbol) (ss : List Term) (g : Symbol) (ts : List Term) → covers (App f ss) (App g ts) ≡ (symbol_eq f g && all_cover ss ts)
covers-App-App f ss g ts =
    ap (λ (h : Term → Bool). h (App g ts)) (fold-App covering_step f ss)
    ∙ ap (may_become f (map covers ss)) (outs-App g ts)
    ∙ ap (λ b. symbol_eq f g && b) (all_pass-covers ss ts)

pub ruleset covers_laws = (covers-Var, covers-App-Var, covers-App-App, term_symbols-App, term_symbols-positive)

module _ (g : ℕ → Term) where
  each_covers : (ss ts : List Term) → Each (λ s. (t : Term) → replace g s ≡ t → covers s t ≡ true) ss → map (replace g) ss ≡ ts → all_cover ss ts ≡ true
  each_covers [] [] each e = refl
  each_covers [] (t ∷ ts) each e = absurd (cc)
  each_covers (s ∷ ss) [] each e = absurd (cc)
  each_covers (s ∷ ss) (t ∷ ts) each e =
      let a : replace g s ≡ t = cc in
      let b : map (replace g) ss ≡ ts = cc in
      rw (each.0 t a, each_covers ss ts each.1 b)

  pub instance_covered : (s t : Term) → replace g s ≡ t → covers s t ≡ true
  instance_covered =
      term_induction (λ s. (t : Term) → replace g s ≡ t → covers s t ≡ true)
      (λ v t e. covers-Var v t)
      (λ f ss each. term_induction (λ t. replace g (App f ss) ≡ t → covers (App f ss) t ≡ true)
      (λ w e. absurd (no_application w f (map (replace g) ss) (sym (replace-App g f ss) ∙ e)))
      (λ h ts _ e.
      let made = sym (replace-App g f ss) ∙ e in
      let heads : f ≡ h = same_symbols _ _ _ _ made in
      let one : symbol_eq f h ≡ true = ap (symbol_eq f) (sym heads) ∙ symbol_eq-refl f in
      let two = each_covers ss ts each (same_arguments _ _ _ _ made) in
      covers-App-App f ss h ts ∙ rw (one, two)))

pub uncovered : (p t : Term) → covers p t ≡ false → HasNoMatcher p t
uncovered p t e g same = false≢true (sym e ∙ instance_covered g p t same)

pub arguments_uncovered : (f : Symbol) (ss ts : List Term) (test : Bool) → test ≡ all_cover ss ts → test ≡ false → HasNoMatcher (App f ss) (App f ts)
arguments_uncovered f ss ts test is apart = uncovered (App f ss) (App f ts) (covers-App-App f ss f ts ∙ ap (λ b. b && all_cover ss ts) (symbol_eq-refl f) ∙ sym is ∙ apart)
