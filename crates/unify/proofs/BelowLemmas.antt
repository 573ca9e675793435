-- Variables below a number, by a test.
use Rattle.std.proofs.Common.{◌≡◌, ℕ, ◌<◌, true, ◌&&◌, ◌==◌, nat_lt, eq-eqb, All, List, [], ◌∷◌, ◌++◌, refl, sym, ap, subst, ◌∙◌, ◌↔◌}
use Rattle.std.specs.List.{list_all, list_any, flat_map, zip, AllByRecursion}
use Rattle.std.proofs.Math.Bool.{and-true}
use Rattle.std.proofs.lemmas.Bool.{ltb-true, lt-ltb, and_parts, or_left, or_right}
use Rattle.std.proofs.lemmas.List.Elements.{All-nil, All-cons, recursion_from_All}
use Rattle.std.proofs.lemmas.List.Folds.{list_all-append}
use Rattle.spl_terms.specs.declared.term.Symbol.{Symbol}
use Rattle.spl_terms.specs.declared.term.Term.{Term, Var, App}
use Rattle.spl_terms.specs.Terms.{term_variables}
use Rattle.spl_terms.specs.TermLaws.{term_variables-Var, term_variables-App}
use Rattle.spl_truth.specs.Unifiers.{occurs, HasVariablesBelow, HaveVariablesBelow}
use Rattle.spl_truth.specs.OccurrenceLaws.{any-variables, occurs-App, any_of_all, occurs_below}
use Rattle.unify.specs.Below.{has_variables_below, AllBelow, IsBelow, AreBelow, EquationsBelow}

pub below-Var : (n v : ℕ) → has_variables_below n (Var v) ≡ nat_lt v n
below-Var n v = ap (list_all (λ w. nat_lt w n)) (term_variables-Var v) ∙ and-true _

all-variables : (n : ℕ) (ts : List Term) → list_all (λ w. nat_lt w n) (flat_map term_variables ts) ≡ list_all (has_variables_below n) ts
all-variables n [] = refl
all-variables n (t ∷ ts) = list_all-append (λ w. nat_lt w n) (term_variables t) (flat_map term_variables ts) ∙ ap (λ b. has_variables_below n t && b) (all-variables n ts)

pub below-App : (n : ℕ) (f : Symbol) (ts : List Term) → has_variables_below n (App f ts) ≡ list_all (has_variables_below n) ts
below-App n f ts = ap (list_all (λ w. nat_lt w n)) (term_variables-App f ts) ∙ all-variables n ts

pub ruleset below_laws = (below-Var, below-App)

all_from_test : (n : ℕ) (vs : List ℕ) → list_all (λ w. nat_lt w n) vs ≡ true → All (λ v. v < n) vs
all_from_test n [] e = All-nil (λ v. v < n)
all_from_test n (v ∷ vs) e =
    let p = and_parts (nat_lt v n) (list_all (λ w. nat_lt w n) vs) e in
    All-cons (λ v. v < n) v vs (ltb-true v n p.0) (all_from_test n vs p.1)

test_from_all : (n : ℕ) (vs : List ℕ) → AllByRecursion (λ v. v < n) vs → list_all (λ w. nat_lt w n) vs ≡ true
test_from_all n [] h = refl
test_from_all n (v ∷ vs) h = rw (lt-ltb v n h.0, test_from_all n vs h.1)

pub test_exact : (n : ℕ) (vs : List ℕ) → (list_all (λ w. nat_lt w n) vs ≡ true) ↔ All (λ v. v < n) vs
test_exact n vs = (all_from_test n vs, λ h. test_from_all n vs (recursion_from_All (λ v. v < n) vs h))

pub tests_exact : (n : ℕ) (ts : List Term) → (list_all (has_variables_below n) ts ≡ true) ↔ All (λ v. v < n) (flat_map term_variables ts)
tests_exact n ts = subst (λ b. (b ≡ true) ↔ All (λ v. v < n) (flat_map term_variables ts)) (all-variables n ts) (test_exact n (flat_map term_variables ts))

-- ---- by what occurs

all_from_any : (n : ℕ) (vs : List ℕ) → AllBelow n (λ v. list_any (λ w. v == w) vs) → All (λ v. v < n) vs
all_from_any n [] h = All-nil (λ v. v < n)
all_from_any n (v ∷ vs) h = All-cons (λ v. v < n) v vs (h v (or_left (v == v) _ (eq-eqb v v refl))) (all_from_any n vs (λ w o. h w (or_right (w == v) _ o)))

pub below_from : (n : ℕ) (t : Term) → HasVariablesBelow n t → IsBelow n t
below_from n t h = occurs_below n t h

pub below_to : (n : ℕ) (t : Term) → IsBelow n t → HasVariablesBelow n t
below_to n t h = all_from_any n (term_variables t) h

pub are_below_from : (n : ℕ) (ts : List Term) → HaveVariablesBelow n ts → AreBelow n ts
are_below_from n ts h v o = any_of_all n v (flat_map term_variables ts) (recursion_from_All (λ w. w < n) (flat_map term_variables ts) h) (any-variables v ts ∙ o)

pub are_below_to : (n : ℕ) (ts : List Term) → AreBelow n ts → HaveVariablesBelow n ts
are_below_to n ts h = all_from_any n (flat_map term_variables ts) (λ v o. h v (sym (any-variables v ts) ∙ o))

-- ---- the arguments of terms, side by side

pub arguments_below : (n : ℕ) (t : Term) (f : Symbol) (ts : List Term) → t ≡ App f ts → IsBelow n t → AreBelow n ts
arguments_below n t f ts is h v o = h v (ap (occurs v) is ∙ occurs-App v f ts ∙ o)

pub application_below : (n : ℕ) (f : Symbol) (ts : List Term) → AreBelow n ts → IsBelow n (App f ts)
application_below n f ts h v o = h v (sym (occurs-App v f ts) ∙ o)

pub zip_below : (n : ℕ) (ss ts : List Term) (es : List (Term × Term)) → AreBelow n ss → AreBelow n ts → EquationsBelow n es → EquationsBelow n (zip ss ts ++ es)
zip_below n [] ts es h k m = m
zip_below n (s ∷ ss) [] es h k m = m
zip_below n (s ∷ ss) (t ∷ ts) es h k m = (
  λ v o. h v (or_left _ _ o),
  λ v o. k v (or_left _ _ o),
  zip_below n ss ts es (λ v o. h v (or_right (occurs v s) _ o)) (λ v o. k v (or_right (occurs v t) _ o)) m,
)
