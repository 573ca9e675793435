-- What each answer to one equation means.
use Rattle.std.proofs.Common.{◌≡◌, ◌⊎◌, inl, inr, ℕ, suc, Bool, true, false, ◌&&◌, ◌==◌, if◌then◌else◌, eq-eqb, List, [], ◌∷◌, length, map, refl, sym, ap, subst, ◌∙◌}
use Rattle.std.specs.List.{zip}
use Rattle.std.proofs.lemmas.List.{length-map}
use Rattle.std.proofs.lemmas.Bool.{eqb-true, false≢true, and_parts}
use Rattle.spl_terms.specs.declared.term.Symbol.{Symbol}
use Rattle.spl_terms.specs.declared.term.Term.{Term, Var, App, out-Term}
use Rattle.spl_terms.specs.declared.term.Term.TheOpen as layer
use Rattle.spl_terms.specs.declared.term.Term.TheViews.{outs-Var, outs-App}
use Rattle.spl_terms.specs.Terms.{symbol_eq, term_eq, replace}
use Rattle.spl_terms.specs.TermLaws.{term_induction, symbol_eq-true, symbol_eq-refl, term_eq-true, term_eq-refl, replace-Var, replace-App}
use Rattle.spl_truth.specs.Unifiers.{occurs, Action, trivial, eliminate, decompose, clash, action_of_variable, action_apart, action}
use Rattle.spl_truth.specs.OccurrenceLaws.{same_arguments, same_symbols, no_cycle}

pub record Split (a b : Term) (more : List (Term × Term)) : Type 0 where
  pub symbol : Symbol
  pub lefts : List Term
  pub rights : List Term
  pub left_is : a ≡ App symbol lefts
  pub right_is : b ≡ App symbol rights
  pub as_many : length lefts ≡ length rights
  pub are : more ≡ zip lefts rights

-- one of a and b is the variable, the other is t
pub record Bound (a b : Term) (v : ℕ) (t : Term) : Type 0 where
  pub sides : ((a ≡ Var v) × (b ≡ t)) ⊎ ((b ≡ Var v) × (a ≡ t))
  pub apart : occurs v t ≡ false

abbrev pub Means : Term → Term → Action → Type 0
Means a b trivial = a ≡ b
Means a b (eliminate v t) = Bound a b v t
Means a b (decompose more) = Split a b more
Means a b clash = (g : ℕ → Term) → replace g a ≡ replace g b → ⊥

meant_variable : (a b : Term) (v : ℕ) (t : Term) → ((a ≡ Var v) × (b ≡ t)) ⊎ ((b ≡ Var v) × (a ≡ t)) → (a ≡ b → ⊥) → Means a b (action_of_variable v t)
meant_variable a b v t sides differ = by_test (occurs v t) refl
  where
    no_unifier : occurs v t ≡ true → (g : ℕ → Term) → replace g a ≡ replace g b → ⊥
    no_unifier o g e = elim sides [
      | inl (p, q) ↦ differ (p ∙ sym (no_cycle g v t o (sym (replace-Var g v) ∙ ap (replace g) (sym p) ∙ e ∙ ap (replace g) q)) ∙ sym q)
      | inr (p, q) ↦ differ (q ∙ no_cycle g v t o (sym (replace-Var g v) ∙ ap (replace g) (sym p) ∙ sym e ∙ ap (replace g) q) ∙ sym p)
    ]

    by_test : (c : Bool) → occurs v t ≡ c → Means a b (if c then clash else eliminate v t)
    by_test true o = no_unifier o
    by_test false o = record { sides = sides; apart = o }

meant_applications : (f g : Symbol) (ss ts : List Term) → Means (App f ss) (App g ts) (if symbol_eq f g && (length ss == length ts) then decompose (zip ss ts) else clash)
meant_applications f g ss ts = by_test (symbol_eq f g && (length ss == length ts)) refl
  where
    by_test : (c : Bool) → (symbol_eq f g && (length ss == length ts)) ≡ c → Means (App f ss) (App g ts) (if c then decompose (zip ss ts) else clash)
    by_test true e =
        let p : (symbol_eq f g ≡ true) × ((length ss == length ts) ≡ true) = and_parts _ _ e in
        record { symbol = f; lefts = ss; rights = ts; left_is = refl; right_is = ap (λ h. App h ts) (sym (symbol_eq-true f g p.0)); as_many = eqb-true _ _ p.1; are = refl }
    by_test false e = λ h same.
        let made : App f (map (replace h) ss) ≡ App g (map (replace h) ts) = sym (replace-App h f ss) ∙ same ∙ replace-App h g ts in
        let heads : f ≡ g = same_symbols _ _ _ _ made in
        let args : map (replace h) ss ≡ map (replace h) ts = same_arguments _ _ _ _ made in
        let many : length ss ≡ length ts = sym (length-map ss (replace h)) ∙ ap length args ∙ length-map ts (replace h) in
        let one : symbol_eq f g ≡ true = ap (symbol_eq f) (sym heads) ∙ symbol_eq-refl f in
        let two : (length ss == length ts) ≡ true = eq-eqb _ _ many in
        false≢true (sym e ∙ ap (λ b. b && (length ss == length ts)) one ∙ two)

meant_apart : (a b : Term) → (a ≡ b → ⊥) → Means a b (action_apart a b (out-Term a) (out-Term b))
meant_apart =
    term_induction (λ a. (b : Term) → (a ≡ b → ⊥) → Means a b (action_apart a b (out-Term a) (out-Term b)))
    (λ v b differ. subst (λ x. Means (Var v) b (action_apart (Var v) b x (out-Term b))) (sym (outs-Var v)) (meant_variable (Var v) b v b (inl (refl, refl)) differ))
    (λ f ss _. term_induction (λ b. (App f ss ≡ b → ⊥) → Means (App f ss) b (action_apart (App f ss) b (out-Term (App f ss)) (out-Term b)))
    (λ w differ.
    subst (λ x. Means (App f ss) (Var w) (action_apart (App f ss) (Var w) x (out-Term (Var w)))) (sym (outs-App f ss))
    (subst (λ y. Means (App f ss) (Var w) (action_apart (App f ss) (Var w) (layer.App f ss) y)) (sym (outs-Var w))
    (meant_variable (App f ss) (Var w) w (App f ss) (inr (refl, refl)) differ)))
    (λ g ts _ differ.
    subst (λ x. Means (App f ss) (App g ts) (action_apart (App f ss) (App g ts) x (out-Term (App g ts)))) (sym (outs-App f ss))
    (subst (λ y. Means (App f ss) (App g ts) (action_apart (App f ss) (App g ts) (layer.App f ss) y)) (sym (outs-App g ts))
    (meant_applications f g ss ts))))

pub meant : (a b : Term) → Means a b (action a b)
meant a b = by_test (term_eq a b) refl
  where
    by_test : (c : Bool) → term_eq a b ≡ c → Means a b (if c then trivial else action_apart a b (out-Term a) (out-Term b))
    by_test true e = term_eq-true a b e
    by_test false e = meant_apart a b (λ same. false≢true (sym e ∙ ap (term_eq a) (sym same) ∙ term_eq-refl a))
