-- Terms under substitutions that are compared without being built.
use Rattle.std.proofs.Common.{◌≡◌, ℕ, Bool, true, false, List, [], ◌∷◌, length, map, ◌==◌, ◌<◌, refl, sym, ap, ◌∙◌, arith}
use Rattle.std.proofs.lemmas.Bool.{false≢true, false_from_ne_true, eqb-true}
use Rattle.std.proofs.lemmas.List.{length-map}
use Rattle.spl_terms.specs.declared.term.Symbol.{Symbol}
use Rattle.spl_terms.specs.declared.term.Term.{Term, Var, App}
use Rattle.spl_terms.specs.Terms.{symbol_eq, term_eq, terms_eq, replace}
use Rattle.spl_terms.specs.TermLaws.{replace-Var, replace-App, term_symbols-App, term_symbols-positive, term_eq-Var-Var, term_eq-Var-App, term_eq-App-Var, term_eq-App-App, term_eq-true, term_eq-refl, equal_apps}

pub ruleset instance_laws = (replace-Var, replace-App, term_symbols-App, term_symbols-positive, term_eq-Var-Var, term_eq-Var-App, term_eq-App-Var, term_eq-App-App)

-- two terms may be exchanged
pub term_eq-turned : (s t : Term) → term_eq s t ≡ term_eq t s
term_eq-turned s t = by (term_eq s t) refl (term_eq t s) refl
  where
    by : (a : Bool) → term_eq s t ≡ a → (b : Bool) → term_eq t s ≡ b → term_eq s t ≡ term_eq t s
    by true e true f = e ∙ sym f
    by true e false f = absurd (false≢true (sym f ∙ ap (λ x. term_eq x s) (sym (term_eq-true s t e)) ∙ term_eq-refl s))
    by false e true f = absurd (false≢true (sym e ∙ ap (λ x. term_eq x t) (sym (term_eq-true t s f)) ∙ term_eq-refl t))
    by false e false f = e ∙ sym f

-- a variable's entry, compared from the other side
pub from_entry : (h k : ℕ → Term) (s t : Term) (v : ℕ) (q : Bool) → s ≡ Var v → q ≡ term_eq (replace k t) (h v) → q ≡ term_eq (replace h s) (replace k t)
from_entry h k s t v q is e = e ∙ term_eq-turned (replace k t) (h v) ∙ ap (λ u. term_eq u (replace k t)) (sym (ap (replace h) is ∙ replace-Var h v))

pub instance_apps : (h : ℕ → Term) (s t : Term) (f g : Symbol) (ss ts as' bs : List Term) (q r : Bool) → s ≡ App f ss → t ≡ App g ts → q ≡ symbol_eq f g → q ≡ true → as' ≡ ss → bs ≡ ts → r ≡ terms_eq (map (replace h) as') bs → r ≡ term_eq (replace h s) t
instance_apps h s t f g ss ts as' bs q r left right is here first second tested =
    equal_apps (replace h s) t f g (map (replace h) ss) ts (map (replace h) as') bs q r (ap (replace h) left ∙ replace-App h f ss) right is here (ap (map (replace h)) first) second tested

pub both_apps : (h k : ℕ → Term) (s t : Term) (f g : Symbol) (ss ts as' bs : List Term) (q r : Bool) → s ≡ App f ss → t ≡ App g ts → q ≡ symbol_eq f g → q ≡ true → as' ≡ ss → bs ≡ ts → r ≡ terms_eq (map (replace h) as') (map (replace k) bs) → r ≡ term_eq (replace h s) (replace k t)
both_apps h k s t f g ss ts as' bs q r left right is here first second tested =
    instance_apps h s (replace k t) f g ss (map (replace k) ts) as' (map (replace k) bs) q r left (ap (replace k) right ∙ replace-App k g ts) is here first (ap (map (replace k)) second) tested

-- no terms are equal to no others alone
pub none_left : (f : Term → Term) (ss ts : List Term) (q : Bool) → length ss < 1 → q ≡ (length ts == 0) → q ≡ terms_eq (map f ss) ts
none_left f (s ∷ ss) ts q none e = absurd (omega arith)
none_left f [] [] q none e = e
none_left f [] (t ∷ ts) q none e = e ∙ false_from_ne_true (length (t ∷ ts) == 0) (λ is. omega (arith, eqb-true (length (t ∷ ts)) 0 is))

pub none_of_both : (f g : Term → Term) (ss ts : List Term) (q : Bool) → length ss < 1 → q ≡ (length ts == 0) → q ≡ terms_eq (map f ss) (map g ts)
none_of_both f g ss ts q none e = none_left f ss (map g ts) q none (e ∙ ap (λ n. n == 0) (sym (length-map ts g)))
