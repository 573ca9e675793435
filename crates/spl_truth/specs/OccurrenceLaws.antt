-- Laws with their proofs, not definitions that a reader must believe: which variables occur in a term, what that says of
-- replacing them, and that a term is no smaller than what its variables become.
use Rattle.std.proofs.Common.{◌≡◌, inl, inr, ℕ, ◌≤◌, ◌<◌, Bool, true, false, ◌||◌, ◌==◌, eq-eqb, List, [], ◌∷◌, map, sum, refl, sym, ap, subst, ◌∙◌, arith}
use Rattle.std.specs.List.{list_any, flat_map, AllByRecursion}
use Rattle.std.proofs.lemmas.Bool.{eqb-true, false≢true, or_cases, or_left, or_right}
use Rattle.std.proofs.lemmas.List.Folds.{list_any-append}
use Rattle.std.proofs.lemmas.List.Sums.{sum_by-cons}
use Rattle.spl_terms.specs.declared.term.Symbol.{Symbol}
use Rattle.spl_terms.specs.declared.term.Term.{Term, Var, App, Term-F, out-Term}
use Rattle.spl_terms.specs.declared.term.Term.TheOpen as layer
use Rattle.spl_terms.specs.declared.term.Term.TheViews.{outs-Var, outs-App}
use Rattle.spl_terms.specs.Terms.{term_symbols, term_variables, replace}
use Rattle.spl_terms.specs.TermLaws.{Each, term_induction, term_symbols-App, term_variables-Var, term_variables-App}
use Rattle.std.proofs.Math.Bool.{or-false}
use Rattle.spl_terms.specs.ListLaws.{same_first, same_rest}
use Rattle.spl_terms.specs.TermLaws.{replace-Var, replace-App}
use Rattle.std.proofs.lemmas.List.Elements.{recursion_from_All}
use Rattle.spl_truth.specs.Unifiers.{occurs, HasVariablesBelow}

-- ---- the two cases of a term

abbrev args_of : Term-F Term → List Term
args_of (layer.Var v) = []
args_of (layer.App f ts) = ts

abbrev symbol_or : Symbol → Term-F Term → Symbol
symbol_or g (layer.Var v) = g
symbol_or g (layer.App f ts) = f

abbrev is_applied : Term-F Term → Bool
is_applied (layer.Var v) = false
is_applied (layer.App f ts) = true

same_layers : (a b : Term) (x y : Term-F Term) → out-Term a ≡ x → out-Term b ≡ y → a ≡ b → x ≡ y
same_layers a b x y p q e = sym p ∙ ap out-Term e ∙ q

pub same_arguments : (f g : Symbol) (ss ts : List Term) → App f ss ≡ App g ts → ss ≡ ts
same_arguments f g ss ts e = let h : layer.App f ss ≡ layer.App g ts = same_layers _ _ _ _ (outs-App f ss) (outs-App g ts) e in ap args_of h

pub same_symbols : (f g : Symbol) (ss ts : List Term) → App f ss ≡ App g ts → f ≡ g
same_symbols f g ss ts e = let h : layer.App f ss ≡ layer.App g ts = same_layers _ _ _ _ (outs-App f ss) (outs-App g ts) e in ap (symbol_or f) h

pub no_application : (v : ℕ) (f : Symbol) (ts : List Term) → App f ts ≡ Var v → ⊥
no_application v f ts e = let h : layer.App f ts ≡ layer.Var v = same_layers _ _ _ _ (outs-App f ts) (outs-Var v) e in false≢true (sym (ap is_applied h))

-- ---- occurring

pub occurs-Var : (x v : ℕ) → occurs x (Var v) ≡ (x == v)
occurs-Var x v = ap (list_any (λ w. x == w)) (term_variables-Var v) ∙ or-false (x == v)

pub any-variables : (x : ℕ) (ts : List Term) → list_any (λ w. x == w) (flat_map term_variables ts) ≡ list_any (occurs x) ts
any-variables x [] = refl
any-variables x (t ∷ ts) = list_any-append (λ w. x == w) (term_variables t) (flat_map term_variables ts) ∙ ap (λ b. occurs x t || b) (any-variables x ts)

pub occurs-App : (x : ℕ) (f : Symbol) (ts : List Term) → occurs x (App f ts) ≡ list_any (occurs x) ts
occurs-App x f ts = ap (list_any (λ w. x == w)) (term_variables-App f ts) ∙ any-variables x ts

pub occurs-self : (v : ℕ) → occurs v (Var v) ≡ true
occurs-self v = occurs-Var v v ∙ eq-eqb v v refl

-- ---- two maps that agree at the variables of a term

module _ (g h : ℕ → Term) where
  all_agree : (ts : List Term) → Each (λ t. ((x : ℕ) → occurs x t ≡ true → g x ≡ h x) → replace g t ≡ replace h t) ts → ((x : ℕ) → list_any (occurs x) ts ≡ true → g x ≡ h x) → map (replace g) ts ≡ map (replace h) ts
  all_agree [] each same = refl
  all_agree (t ∷ ts) each same =
      let a : replace g t ≡ replace h t = each.0 (λ x o. same x (or_left _ _ o)) in
      let b : map (replace g) ts ≡ map (replace h) ts = all_agree ts each.1 (λ x o. same x (or_right (occurs x t) _ o)) in
      λ i. a i ∷ b i

  pub agree : (t : Term) → ((x : ℕ) → occurs x t ≡ true → g x ≡ h x) → replace g t ≡ replace h t
  agree =
      term_induction (λ t. ((x : ℕ) → occurs x t ≡ true → g x ≡ h x) → replace g t ≡ replace h t)
      (λ v same. replace-Var g v ∙ same v (occurs-self v) ∙ sym (replace-Var h v))
      (λ f ts each same. replace-App g f ts ∙ ap (App f) (all_agree ts each (λ x o. same x (occurs-App x f ts ∙ o))) ∙ sym (replace-App h f ts))

  all_agreed : (ts : List Term) → Each (λ t. replace g t ≡ replace h t → (x : ℕ) → occurs x t ≡ true → g x ≡ h x) ts → map (replace g) ts ≡ map (replace h) ts → (x : ℕ) → list_any (occurs x) ts ≡ true → g x ≡ h x
  all_agreed [] each e x o = absurd (false≢true o)
  all_agreed (t ∷ ts) each e x o =
      let a : replace g t ≡ replace h t = same_first _ _ _ _ e in
      let b : map (replace g) ts ≡ map (replace h) ts = same_rest _ _ _ _ e in
      elim (or_cases (occurs x t) _ o) [
        | inl here ↦ each.0 a x here
        | inr there ↦ all_agreed ts each.1 b x there
      ]

  pub agreed : (t : Term) → replace g t ≡ replace h t → (x : ℕ) → occurs x t ≡ true → g x ≡ h x
  agreed =
      term_induction (λ t. replace g t ≡ replace h t → (x : ℕ) → occurs x t ≡ true → g x ≡ h x)
      (λ v e x o. subst (λ y. g y ≡ h y) (sym (eqb-true x v (sym (occurs-Var x v) ∙ o))) (sym (replace-Var g v) ∙ e ∙ replace-Var h v))
      (λ f ts each e x o. all_agreed ts each (same_arguments f f _ _ (sym (replace-App g f ts) ∙ e ∙ replace-App h f ts)) x (sym (occurs-App x f ts) ∙ o))

-- ---- a term is no smaller than what its variables become

module _ (g : ℕ → Term) (v : ℕ) where
  part_of_all : (ts : List Term) → Each (λ t. occurs v t ≡ true → term_symbols (g v) ≤ term_symbols (replace g t)) ts → list_any (occurs v) ts ≡ true → term_symbols (g v) ≤ sum (map term_symbols (map (replace g) ts))
  part_of_all [] each o = absurd (false≢true o)
  part_of_all (t ∷ ts) each o = elim (or_cases (occurs v t) _ o) [
    | inl here ↦ let h = each.0 here in omega (arith, h, sum_by-cons (λ n. n) (term_symbols (replace g t)) (map term_symbols (map (replace g) ts)))
    | inr there ↦ let h = part_of_all ts each.1 there in omega (arith, h, sum_by-cons (λ n. n) (term_symbols (replace g t)) (map term_symbols (map (replace g) ts)))
  ]

  pub part_of_term : (t : Term) → occurs v t ≡ true → term_symbols (g v) ≤ term_symbols (replace g t)
  part_of_term =
      term_induction (λ t. occurs v t ≡ true → term_symbols (g v) ≤ term_symbols (replace g t))
      (λ w o. let e : g v ≡ replace g (Var w) = ap g (eqb-true v w (sym (occurs-Var v w) ∙ o)) ∙ sym (replace-Var g w) in omega (arith, ap term_symbols e))
      (λ f ts each o.
      let h = part_of_all ts each (sym (occurs-App v f ts) ∙ o) in
      omega (arith, h, ap term_symbols (replace-App g f ts), term_symbols-App f (map (replace g) ts)))

  part_of_some : (ts : List Term) → list_any (occurs v) ts ≡ true → term_symbols (g v) ≤ sum (map term_symbols (map (replace g) ts))
  part_of_some [] o = absurd (false≢true o)
  part_of_some (t ∷ ts) o = elim (or_cases (occurs v t) _ o) [
    | inl here ↦ omega (arith, part_of_term t here, sum_by-cons (λ n. n) (term_symbols (replace g t)) (map term_symbols (map (replace g) ts)))
    | inr there ↦ omega (arith, part_of_some ts there, sum_by-cons (λ n. n) (term_symbols (replace g t)) (map term_symbols (map (replace g) ts)))
  ]

  -- the check that a variable doesn't occur: where it does, only the variable itself becomes what it becomes
  pub no_cycle : (t : Term) → occurs v t ≡ true → g v ≡ replace g t → t ≡ Var v
  no_cycle =
      term_induction (λ t. occurs v t ≡ true → g v ≡ replace g t → t ≡ Var v)
      (λ w o e. ap Var (sym (eqb-true v w (sym (occurs-Var v w) ∙ o))))
      (λ f ts _ o e.
      let h = part_of_some ts (sym (occurs-App v f ts) ∙ o) in
      absurd (omega (arith, h, ap term_symbols (e ∙ replace-App g f ts), term_symbols-App f (map (replace g) ts))))

-- ---- variables below a number

pub any_of_all : (n : ℕ) (x : ℕ) (vs : List ℕ) → AllByRecursion (λ v. v < n) vs → list_any (λ w. x == w) vs ≡ true → x < n
any_of_all n x [] all o = absurd (false≢true o)
any_of_all n x (v ∷ vs) all o = by_test (x == v) refl o (any_of_all n x vs all.1)
  where
    by_test : (b : Bool) → (x == v) ≡ b → (b || list_any (λ w. x == w) vs) ≡ true → (list_any (λ w. x == w) vs ≡ true → x < n) → x < n
    by_test true e o later = subst (λ w. w < n) (sym (eqb-true x v e)) all.0
    by_test false e o later = later o

-- what occurs in a term whose variables are below n is below n
pub occurs_below : (n : ℕ) (t : Term) → HasVariablesBelow n t → (v : ℕ) → occurs v t ≡ true → v < n
occurs_below n t all v o = any_of_all n v (term_variables t) (recursion_from_All (λ v. v < n) (term_variables t) all) o
