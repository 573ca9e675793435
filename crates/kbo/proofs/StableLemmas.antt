-- A term that is greater than another one is so under each substitution.
use Rattle.std.proofs.Common.{◌≡◌, inl, inr, ℕ, suc, ◌+◌, ◌<◌, ◌≤◌, Bool, true, false, ◌&&◌, ◌||◌, ◌==◌, nat_lt, if◌then◌else◌, List, [], ◌∷◌, ◌++◌, length, map, refl, sym, ap, ◌∙◌, subst, arith, eq-eqb}
use Rattle.std.specs.Prelude.{sum_by, sum}
use Rattle.std.specs.List.{flat_map}
use Rattle.std.proofs.lemmas.Bool.{eqb-true, ltb-true, ltb-false, false≢true, and_parts, or_cases}
use Rattle.std.proofs.lemmas.Grind.{flat_map-append}
use Rattle.std.proofs.lemmas.List.Sums.{sum_by-append, sum_by-cons}
use Rattle.spl_terms.specs.declared.term.Symbol.{Symbol}
use Rattle.spl_terms.specs.declared.term.Term.{Term, Var, App}
use Rattle.spl_terms.specs.Terms.{term_symbols, term_variables, term_eq, symbol_eq, replace}
use Rattle.spl_terms.specs.TermLaws.{Each, term_induction, term_symbols-Var, term_symbols-App, term_variables-Var, term_variables-App, replace-Var, replace-App, term_eq-true, term_eq-refl}
use Rattle.spl_truth.specs.Orders.{times, contains_each, meets_variable_condition, is_greater_head, by_weight, is_greater}
use Rattle.spl_truth.specs.OrderLaws.{first_greater, is_greater-Var, is_greater-App-Var, same_head, by_arguments, is_greater-App-App, heavier, balanced, asymmetric}
use Rattle.kbo.specs.Stability.{IsStable}
use Rattle.kbo.proofs.TimesLemmas.{times-append, times-cons, contains_at, contains_all}

-- ---- what a list has beyond another one

one : (b : Bool) → b ≡ true → (let none : ℕ = 0 in (if b then 1 else none) ≡ 1)
one b e = ap (λ c. let none : ℕ = 0 in (if c then 1 else none)) e

none : (b : Bool) → b ≡ false → (let none : ℕ = 0 in (if b then 1 else none) ≡ 0)
none b e = ap (λ c. let none : ℕ = 0 in (if c then 1 else none)) e

abbrev without_first : ℕ → List ℕ → List ℕ
without_first w [] = []
without_first w (v ∷ vs) = if w == v then vs else v ∷ without_first w vs

taken : (w : ℕ) (vs : List ℕ) → 0 < times w vs → (g : ℕ → ℕ) → sum_by g vs ≡ g w + sum_by g (without_first w vs)
taken w [] h g = absurd (omega (arith, h))
taken w (v ∷ vs) h g = by_test (w == v) refl (λ k. taken w vs k g)
  where
    by_test : (b : Bool) → (w == v) ≡ b → (0 < times w vs → sum_by g vs ≡ g w + sum_by g (without_first w vs)) → sum_by g (v ∷ vs) ≡ g w + sum_by g (if b then vs else v ∷ without_first w vs)
    by_test true e more = sum_by-cons g v vs ∙ ap (λ x. g x + sum_by g vs) (sym (eqb-true w v e))
    by_test false e more = omega (arith, sum_by-cons g v vs, sum_by-cons g v (without_first w vs), more (omega (arith, times-cons w v vs, none (w == v) e, h)))

abbrev beyond : List ℕ → List ℕ → List ℕ
beyond vs [] = vs
beyond vs (w ∷ ws) = beyond (without_first w vs) ws

abbrev Includes : List ℕ → List ℕ → Type 0
Includes vs ws = (v : ℕ) → times v ws ≤ times v vs

parted : (vs ws : List ℕ) → Includes vs ws → (g : ℕ → ℕ) → sum_by g vs ≡ sum_by g ws + sum_by g (beyond vs ws)
parted vs [] h g = omega arith
parted vs (w ∷ ws) h g =
    omega (arith, out g, sum_by-cons g w ws, parted (without_first w vs) ws left g)
  where
    out : (g : ℕ → ℕ) → sum_by g vs ≡ g w + sum_by g (without_first w vs)
    out = taken w vs (omega (arith, h w, times-cons w w ws, one (w == w) (eq-eqb w w refl)))

    left : Includes (without_first w vs) ws
    left v = (let e : times v vs ≡ (if v == w then 1 else 0) + times v (without_first w vs) = out (λ x. if v == x then 1 else 0) in omega (arith, e, times-cons v w ws, h v))

-- ---- symbols and variables of instances

positive : (t : Term) → 0 < term_symbols t
positive = term_induction (λ t. 0 < term_symbols t) (λ v. omega (arith, term_symbols-Var v)) (λ f ts each. omega (arith, term_symbols-App f ts))

module _ (h : ℕ → Term) where
  abbrev ones : List ℕ → ℕ
  ones vs = sum_by (λ v. 1) vs

  abbrev weights : List ℕ → ℕ
  weights vs = sum_by (λ v. term_symbols (h v)) vs

  ones_least : (vs : List ℕ) → ones vs ≤ weights vs
  ones_least [] = omega arith
  ones_least (v ∷ vs) = omega (arith, sum_by-cons (λ v. 1) v vs, sum_by-cons (λ v. term_symbols (h v)) v vs, positive (h v), ones_least vs)

  abbrev Grown : Term → Type 0
  Grown t = term_symbols (replace h t) + ones (term_variables t) ≡ term_symbols t + weights (term_variables t)

  all_grown : (ts : List Term) → Each Grown ts → sum (map term_symbols (map (replace h) ts)) + ones (flat_map term_variables ts) ≡ sum (map term_symbols ts) + weights (flat_map term_variables ts)
  all_grown [] each = refl
  all_grown (t ∷ ts) each = omega (
    arith,
    sum_by-cons (λ n. n) (term_symbols (replace h t)) (map term_symbols (map (replace h) ts)),
    sum_by-cons (λ n. n) (term_symbols t) (map term_symbols ts),
    sum_by-append (λ v. 1) (term_variables t) (flat_map term_variables ts),
    sum_by-append (λ v. term_symbols (h v)) (term_variables t) (flat_map term_variables ts),
    each.0,
    all_grown ts each.1,
  )

  grown : (t : Term) → Grown t
  grown = term_induction Grown at_variable at_application
    where
      at_variable : (v : ℕ) → Grown (Var v)
      at_variable v =
          let e : term_symbols (replace h (Var v)) ≡ term_symbols (h v) = ap term_symbols (replace-Var h v) in
          let m : ones (term_variables (Var v)) ≡ 1 = ap ones (term_variables-Var v) in
          let n : weights (term_variables (Var v)) ≡ term_symbols (h v) = ap weights (term_variables-Var v) ∙ omega arith in
          omega (arith, e, m, n, term_symbols-Var v)

      at_application : (f : Symbol) (ts : List Term) → Each Grown ts → Grown (App f ts)
      at_application f ts each =
          let e : term_symbols (replace h (App f ts)) ≡ sum (map term_symbols (map (replace h) ts)) + 1 = ap term_symbols (replace-App h f ts) ∙ term_symbols-App f (map (replace h) ts) in
          let m : ones (term_variables (App f ts)) ≡ ones (flat_map term_variables ts) = ap ones (term_variables-App f ts) in
          let n : weights (term_variables (App f ts)) ≡ weights (flat_map term_variables ts) = ap weights (term_variables-App f ts) in
          omega (arith, e, m, n, term_symbols-App f ts, all_grown ts each)

  -- the variables of an instance
  abbrev spread : List ℕ → List ℕ
  spread vs = flat_map (λ v. term_variables (h v)) vs

  abbrev Spread : Term → Type 0
  Spread t = term_variables (replace h t) ≡ spread (term_variables t)

  all_spread : (ts : List Term) → Each Spread ts → flat_map term_variables (map (replace h) ts) ≡ spread (flat_map term_variables ts)
  all_spread [] each = refl
  all_spread (t ∷ ts) each = (λ i. each.0 i ++ all_spread ts each.1 i) ∙ sym (flat_map-append (λ v. term_variables (h v)) (term_variables t) (flat_map term_variables ts))

  append_nil : (xs : List ℕ) → xs ≡ xs ++ []
  append_nil [] = refl
  append_nil (x ∷ xs) = ap (λ l. x ∷ l) (append_nil xs)

  variables_spread : (t : Term) → Spread t
  variables_spread =
      term_induction Spread
      (λ v. ap term_variables (replace-Var h v) ∙ append_nil (term_variables (h v)) ∙ sym (ap spread (term_variables-Var v)))
      (λ f ts each. ap term_variables (replace-App h f ts) ∙ term_variables-App f (map (replace h) ts) ∙ all_spread ts each ∙ sym (ap spread (term_variables-App f ts)))

  times_spread : (x : ℕ) (vs : List ℕ) → times x (spread vs) ≡ sum_by (λ v. times x (term_variables (h v))) vs
  times_spread x [] = refl
  times_spread x (v ∷ vs) = omega (arith, times-append x (term_variables (h v)) (spread vs), sum_by-cons (λ v. times x (term_variables (h v))) v vs, times_spread x vs)

  -- ---- two terms of which the first has each variable as often

  module _ (s t : Term) (meets : meets_variable_condition s t ≡ true) where
    parts : (g : ℕ → ℕ) → sum_by g (term_variables s) ≡ sum_by g (term_variables t) + sum_by g (beyond (term_variables s) (term_variables t))
    parts = parted (term_variables s) (term_variables t) (contains_at (term_variables s) (term_variables t) meets)

    still_meets : meets_variable_condition (replace h s) (replace h t) ≡ true
    still_meets = contains_all (term_variables (replace h s)) (term_variables (replace h t)) as_often
      where
        as_often : (x : ℕ) → times x (term_variables (replace h t)) ≤ times x (term_variables (replace h s))
        as_often x =
            omega (arith, ap (times x) (variables_spread s), ap (times x) (variables_spread t), times_spread x (term_variables s), times_spread x (term_variables t), parts (λ v. times x (term_variables (h v))))

    still_heavier : term_symbols t < term_symbols s → term_symbols (replace h t) < term_symbols (replace h s)
    still_heavier less = omega (arith, less, grown s, grown t, parts (λ v. 1), parts (λ v. term_symbols (h v)), ones_least (beyond (term_variables s) (term_variables t)))

    still_as_heavy : term_symbols t ≡ term_symbols s → term_symbols (replace h t) ≤ term_symbols (replace h s)
    still_as_heavy e = omega (arith, e, grown s, grown t, parts (λ v. 1), parts (λ v. term_symbols (h v)), ones_least (beyond (term_variables s) (term_variables t)))

  -- ---- the order

  abbrev Stays : Term → Type 0
  Stays s = (t : Term) → is_greater s t ≡ true → is_greater (replace h s) (replace h t) ≡ true

  -- of two terms that weigh not the same the heavier one is greater
  heavier_greater : (f : Symbol) (ss : List Term) (t : Term) → meets_variable_condition (App f ss) t ≡ true → term_symbols t < term_symbols (App f ss) → is_greater (App f ss) t ≡ true
  heavier_greater f ss t meets less = by_form t meets less
    where
      by_form : (t : Term) → meets_variable_condition (App f ss) t ≡ true → term_symbols t < term_symbols (App f ss) → is_greater (App f ss) t ≡ true
      by_form =
          term_induction (λ t. meets_variable_condition (App f ss) t ≡ true → term_symbols t < term_symbols (App f ss) → is_greater (App f ss) t ≡ true)
          (λ w meets less. is_greater-App-Var f ss w ∙ heavier (App f ss) (Var w) false less ∙ meets)
          (λ g ts each meets less. is_greater-App-App f ss g ts ∙ heavier (App f ss) (App g ts) _ less ∙ meets)

  instance_heavier : (f : Symbol) (ss : List Term) (t : Term) → meets_variable_condition (App f ss) t ≡ true → term_symbols (replace h t) < term_symbols (replace h (App f ss)) → is_greater (replace h (App f ss)) (replace h t) ≡ true
  instance_heavier f ss t meets less =
      subst (λ x. is_greater x (replace h t) ≡ true) (sym (replace-App h f ss))
      (heavier_greater f (map (replace h) ss) (replace h t)
      (subst (λ x. meets_variable_condition x (replace h t) ≡ true) (replace-App h f ss) (still_meets (App f ss) t meets))
      (subst (λ x. term_symbols (replace h t) < term_symbols x) (replace-App h f ss) less))

  -- no term is greater than itself
  differ : (s t : Term) → is_greater s t ≡ true → term_eq s t ≡ false
  differ s t e = by_test (term_eq s t) refl
    where
      by_test : (b : Bool) → term_eq s t ≡ b → term_eq s t ≡ false
      by_test true q =
          let same : s ≡ t = term_eq-true s t q in
          let self : is_greater s s ≡ true = subst (λ x. is_greater s x ≡ true) (sym same) e in
          absurd (false≢true (sym (asymmetric s s self) ∙ self))
      by_test false q = q

  first_stays : (ss : List Term) → Each Stays ss → (ts : List Term) → first_greater ss ts ≡ true → first_greater (map (replace h) ss) (map (replace h) ts) ≡ true
  first_stays [] each ts e = absurd (false≢true e)
  first_stays (s ∷ ss) each [] e = absurd (false≢true e)
  first_stays (s ∷ ss) each (t ∷ ts) e = by_test (term_eq s t) refl (first_stays ss each.1 ts) e
    where
      by_test : (b : Bool) → term_eq s t ≡ b → (first_greater ss ts ≡ true → first_greater (map (replace h) ss) (map (replace h) ts) ≡ true) → (if b then first_greater ss ts else is_greater s t) ≡ true → (if term_eq (replace h s) (replace h t) then first_greater (map (replace h) ss) (map (replace h) ts) else is_greater (replace h s) (replace h t)) ≡ true
      by_test true q rest k =
          let same : term_eq (replace h s) (replace h t) ≡ true = ap (λ x. term_eq (replace h s) (replace h x)) (sym (term_eq-true s t q)) ∙ term_eq-refl (replace h s) in
          ap (λ b. if b then first_greater (map (replace h) ss) (map (replace h) ts) else is_greater (replace h s) (replace h t)) same ∙ rest k
      by_test false q rest k =
          let more : is_greater (replace h s) (replace h t) ≡ true = each.0 t k in
          ap (λ b. if b then first_greater (map (replace h) ss) (map (replace h) ts) else is_greater (replace h s) (replace h t)) (differ (replace h s) (replace h t) more) ∙ more

  length_map : (ts : List Term) → length (map (replace h) ts) ≡ length ts
  length_map [] = refl
  length_map (t ∷ ts) = ap suc (length_map ts)

  abbrev decides : Symbol → List Term → Symbol → List Term → Bool
  decides f ss g ts = is_greater_head f (length ss) g (length ts) || by_arguments f ss g ts

  decides_still : (f : Symbol) (ss : List Term) → Each Stays ss → (g : Symbol) (ts : List Term) → decides f ss g ts ≡ true → decides f (map (replace h) ss) g (map (replace h) ts) ≡ true
  decides_still f ss each g ts e =
      (λ i. is_greater_head f (length_map ss i) g (length_map ts i) || (same_head f (length_map ss i) g (length_map ts i) && first_greater (map (replace h) ss) (map (replace h) ts)))
      ∙ by_tests (is_greater_head f (length ss) g (length ts)) (same_head f (length ss) g (length ts)) e
    where
      by_tests : (a b : Bool) → (a || (b && first_greater ss ts)) ≡ true → (a || (b && first_greater (map (replace h) ss) (map (replace h) ts))) ≡ true
      by_tests true b k = refl
      by_tests false true k = first_stays ss each ts k
      by_tests false false k = absurd (false≢true k)

  at_applications : (f : Symbol) (ss : List Term) → Each Stays ss → (g : Symbol) (ts : List Term) → by_weight (App f ss) (App g ts) (decides f ss g ts) ≡ true → is_greater (replace h (App f ss)) (replace h (App g ts)) ≡ true
  at_applications f ss each g ts e = elim (or_cases (nat_lt (term_symbols (App g ts)) (term_symbols (App f ss))) _ (and_parts (meets_variable_condition (App f ss) (App g ts)) _ e).1) [
    | inl less ↦ instance_heavier f ss (App g ts) meets (still_heavier (App f ss) (App g ts) meets (ltb-true _ _ less))
    | inr alike ↦ same_weight (eqb-true _ _ (and_parts _ _ alike).0) (and_parts _ _ alike).1
  ]
    where
      meets : meets_variable_condition (App f ss) (App g ts) ≡ true
      meets = (and_parts (meets_variable_condition (App f ss) (App g ts)) _ e).0

      same_weight : term_symbols (App f ss) ≡ term_symbols (App g ts) → decides f ss g ts ≡ true → is_greater (replace h (App f ss)) (replace h (App g ts)) ≡ true
      same_weight even o = by_test (nat_lt (term_symbols (replace h (App g ts))) (term_symbols (replace h (App f ss)))) refl
        where
          by_test : (b : Bool) → nat_lt (term_symbols (replace h (App g ts))) (term_symbols (replace h (App f ss))) ≡ b → is_greater (replace h (App f ss)) (replace h (App g ts)) ≡ true
          by_test true less = instance_heavier f ss (App g ts) meets (ltb-true _ _ less)
          by_test false not_less =
              let top : term_symbols (replace h (App g ts)) ≤ term_symbols (replace h (App f ss)) = still_as_heavy (App f ss) (App g ts) meets (sym even) in
              let same : term_symbols (replace h (App f ss)) ≡ term_symbols (replace h (App g ts)) = omega (arith, ltb-false _ _ not_less, top) in
              (λ i. is_greater (replace-App h f ss i) (replace-App h g ts i))
              ∙ is_greater-App-App f (map (replace h) ss) g (map (replace h) ts)
              ∙ (λ i. by_weight (sym (replace-App h f ss) i) (sym (replace-App h g ts) i) (decides f (map (replace h) ss) g (map (replace h) ts)))
              ∙ balanced (replace h (App f ss)) (replace h (App g ts)) _ same
              ∙ (λ i. still_meets (App f ss) (App g ts) meets i && decides_still f ss each g ts o i)

  all_stay : (s : Term) → Stays s
  all_stay = term_induction Stays (λ v t e. absurd (false≢true (sym (is_greater-Var v t) ∙ e))) at_application
    where
      at_application : (f : Symbol) (ss : List Term) → Each Stays ss → Stays (App f ss)
      at_application f ss each =
          term_induction (λ t. is_greater (App f ss) t ≡ true → is_greater (replace h (App f ss)) (replace h t) ≡ true)
          (λ w e. (let k : by_weight (App f ss) (Var w) false ≡ true = sym (is_greater-App-Var f ss w) ∙ e in at_variable w k))
          (λ g ts others e. at_applications f ss each g ts (sym (is_greater-App-App f ss g ts) ∙ e))
        where
          at_variable : (w : ℕ) → by_weight (App f ss) (Var w) false ≡ true → is_greater (replace h (App f ss)) (replace h (Var w)) ≡ true
          at_variable w e = elim (or_cases (nat_lt (term_symbols (Var w)) (term_symbols (App f ss))) _ (and_parts (meets_variable_condition (App f ss) (Var w)) _ e).1) [
            | inl less ↦ instance_heavier f ss (Var w) (and_parts _ _ e).0 (still_heavier (App f ss) (Var w) (and_parts _ _ e).0 (ltb-true _ _ less))
            | inr alike ↦ absurd (false≢true (and_parts _ _ alike).1)
          ]

pub is_stable : IsStable
is_stable h s = all_stay h s
