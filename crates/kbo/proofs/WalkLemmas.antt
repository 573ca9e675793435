-- The variables of terms, as walks meet them.
use Rattle.std.proofs.Common.{◌≡◌, ℕ, ◌≤◌, min, Bool, true, false, ◌==◌, nat_le, if◌then◌else◌, List, [], ◌∷◌, map, sum, refl, ap, ◌∙◌, arith, eq-eqb, zero-add}
use Rattle.std.specs.List.{flat_map}
use Rattle.std.proofs.lemmas.Bool.{eqb-true}
use Rattle.std.proofs.lemmas.List.Folds.{list_all-append, list_any-append}
use Rattle.spl_terms.specs.declared.term.Term.{Term, Var}
use Rattle.spl_terms.specs.Terms.{term_symbols, term_variables}
use Rattle.spl_terms.specs.TermLaws.{term_variables-Var, term_variables-App}
use Rattle.spl_terms.specs.SizeLaws.{few_in_terms}
use Rattle.spl_truth.specs.Orders.{times}
use Rattle.kbo.proofs.TimesLemmas.{times-append, times-within}

pub ruleset variables_laws = (term_variables-Var, term_variables-App, list_all-append, list_any-append)

pub times-same : (v : ℕ) → times v (term_variables (Var v)) ≡ 1
times-same v = ap (times v) (term_variables-Var v) ∙ zero-add _ ∙ ap (λ (b : Bool). let none : ℕ = 0 in (if b then 1 else none)) (eq-eqb v v refl)

pub times-other : (v w : ℕ) → (v ≡ w → ⊥) → times v (term_variables (Var w)) ≡ 0
times-other v w differ = ap (times v) (term_variables-Var w) ∙ by_test (v == w) refl
  where
    by_test : (b : Bool) → (v == w) ≡ b → times v (w ∷ []) ≡ 0
    by_test true e = absurd (differ (eqb-true v w e))
    by_test false e = zero-add _ ∙ ap (λ (b : Bool). let none : ℕ = 0 in (if b then 1 else none)) e

pub few : (v : ℕ) (ts : List Term) → times v (flat_map term_variables ts) ≤ sum (map term_symbols ts)
few v ts = omega (arith, times-within v (flat_map term_variables ts), few_in_terms ts)

pub ruleset times_laws = (term_variables-App, times-append, times-same, times-other)

-- counts that stop at the last `u64` compare as the counts do, where there are few symbols
pub compared : (r q x y m n : ℕ) → r ≡ min x 18446744073709551615 → q ≡ min y 18446744073709551615 → x ≤ m → y ≤ n → m ≤ 4294967295 → n ≤ 4294967295 → nat_le r q ≡ nat_le x y
compared r q x y m n e f a b c d =
    let p : r ≡ x = omega arith in
    let k : q ≡ y = omega arith in
    λ i. nat_le (p i) (k i)
