-- One level of a comparison decides it.
use Rattle.std.proofs.Common.{◌≡◌, ℕ, ◌+◌, ◌≤◌, ◌<◌, Bool, true, false, ◌&&◌, ◌||◌, ◌==◌, nat_lt, if◌then◌else◌, List, [], ◌∷◌, length, map, sum, refl, sym, ap, subst, ◌∙◌, arith}
use Rattle.std.specs.List.{list_any, flat_map}
use Rattle.std.proofs.Common.{eq-eqb}
use Rattle.std.proofs.Math.Bool.{and-false}
use Rattle.std.proofs.lemmas.Bool.{eqb-true, ltb-true, ltb-false, lt-ltb, le-ltb, false≢true, and_parts}
use Rattle.spl_terms.specs.declared.term.Symbol.{Symbol}
use Rattle.spl_terms.specs.declared.term.Term.{Term, Var, App}
use Rattle.spl_terms.specs.Terms.{term_symbols, term_variables, term_eq, terms_eq, symbol_eq}
use Rattle.spl_terms.specs.TermLaws.{term_symbols-Var, term_symbols-App, term_eq-true, terms_eq-same, term_eq-Var-Var, term_eq-Var-App, term_eq-App-Var, term_eq-App-App, term_variables-App}
use Rattle.spl_truth.specs.Orders.{times, contains_each, is_greater_head, meets_variable_condition, by_weight, is_greater}
use Rattle.spl_truth.specs.OrderLaws.{first_greater, same_head, by_arguments, is_greater-Var, is_greater-App-Var, is_greater-App-App, heavier, lighter, balanced, HeadCases, alike, first, second, head_cases, term_eq-sym, asymmetric, lists_asymmetric}
use Rattle.kbo.specs.declared.order.Order.{Order}
use Rattle.kbo.specs.declared.order.Order.TheVariants.{Greater, Less, Equal, Incomparable}
use Rattle.kbo.proofs.TimesLemmas.{has_times, none_times, contains_all, contains_at}
use Rattle.kbo.proofs.WalkLemmas.{times-same, times-other, few}
use Rattle.kbo.specs.Comparisons.{compare, then_by, compare_heads, compare_lists, decided, judged}

-- ---- lists

abbrev picked : Bool → Bool → Bool → Order
picked e g l = if e then Equal else (if g then Greater else (if l then Less else Incomparable))

settled : (g l : Bool) (o : Order) → then_by (picked false g l) o ≡ picked false g l
settled true l o = refl
settled false true o = refl
settled false false o = refl

lists : (ss ts : List Term) → length ss ≡ length ts → compare_lists ss ts ≡ picked (terms_eq ss ts) (first_greater ss ts) (first_greater ts ss)
lists [] [] e = refl
lists [] (t ∷ ts) e = absurd (omega (arith, e))
lists (s ∷ ss) [] e = absurd (omega (arith, e))
lists (s ∷ ss) (t ∷ ts) e = by_test (term_eq s t) (term_eq t s) (term_eq-sym s t) (lists ss ts (omega (arith, e)))
  where
    by_test : (a b : Bool) → a ≡ b → compare_lists ss ts ≡ picked (terms_eq ss ts) (first_greater ss ts) (first_greater ts ss) → then_by (picked a (is_greater s t) (is_greater t s)) (compare_lists ss ts) ≡ picked (a && terms_eq ss ts) (if a then first_greater ss ts else is_greater s t) (if b then first_greater ts ss else is_greater t s)
    by_test true true p q = q
    by_test false false p q = settled (is_greater s t) (is_greater t s) _
    by_test true false p q = absurd (cc)
    by_test false true p q = absurd (cc)

-- ---- two applications

-- what decides below, where the weights are the same
below_decides : (c d e g l : Bool) → (g ≡ true → l ≡ false) → picked e (c && g) (d && l) ≡ decided c d (picked e g l)
below_decides c d true g l h = refl
below_decides c d false true true h = absurd (cc (h refl))
below_decides true d false true false h = refl
below_decides false true false true false h = refl
below_decides false false false true false h = refl
below_decides true true false false true h = refl
below_decides true false false false true h = refl
below_decides false true false false true h = refl
below_decides false false false false true h = refl
below_decides true true false false false h = refl
below_decides true false false false false h = refl
below_decides false true false false false h = refl
below_decides false false false false false h = refl

first_decides : (c d : Bool) → picked false (c && true) (d && false) ≡ decided c d Greater
first_decides true true = refl
first_decides true false = refl
first_decides false true = refl
first_decides false false = refl

second_decides : (c d : Bool) → picked false (c && false) (d && true) ≡ decided c d Less
second_decides true true = refl
second_decides true false = refl
second_decides false true = refl
second_decides false false = refl

-- the heads decide, or what is below them
heads_decide : (c d e a b y z te fg fl : Bool) (o : Order) → HeadCases a y z → HeadCases b z y → (a ≡ false → e ≡ false) → (a ≡ true → e ≡ te) → (a ≡ true → o ≡ picked te fg fl) → (fg ≡ true → fl ≡ false) → picked e (c && (y || (a && fg))) (d && (z || (b && fl))) ≡ decided c d (then_by (if a then Equal else (if y then Greater else Less)) o)
heads_decide c d e a b y z te fg fl o (alike p q r) (alike p' q' r') other same below excludes =
    (λ i. picked (same p i) (c && (q i || (p i && fg))) (d && (r i || (p' i && fl))))
    ∙ below_decides c d te fg fl excludes
    ∙ sym (λ i. decided c d (then_by (if p i then Equal else (if q i then Greater else Less)) (below p i)))
heads_decide c d e a b y z te fg fl o (alike p q r) (first p' q' r') other same below excludes = absurd (false≢true (sym r ∙ q'))
heads_decide c d e a b y z te fg fl o (alike p q r) (second p' q' r') other same below excludes = absurd (false≢true (sym q ∙ r'))
heads_decide c d e a b y z te fg fl o (first p q r) (alike p' q' r') other same below excludes = absurd (false≢true (sym r' ∙ q))
heads_decide c d e a b y z te fg fl o (first p q r) (first p' q' r') other same below excludes = absurd (false≢true (sym r ∙ q'))
heads_decide c d e a b y z te fg fl o (first p q r) (second p' q' r') other same below excludes =
    (λ i. picked (other p i) (c && (q i || (p i && fg))) (d && (r i || (p' i && fl))))
    ∙ first_decides c d
    ∙ sym (λ i. decided c d (then_by (if p i then Equal else (if q i then Greater else Less)) o))
heads_decide c d e a b y z te fg fl o (second p q r) (alike p' q' r') other same below excludes = absurd (false≢true (sym q' ∙ r))
heads_decide c d e a b y z te fg fl o (second p q r) (second p' q' r') other same below excludes = absurd (false≢true (sym q ∙ r'))
heads_decide c d e a b y z te fg fl o (second p q r) (first p' q' r') other same below excludes =
    (λ i. picked (other p i) (c && (q i || (p i && fg))) (d && (r i || (p' i && fl))))
    ∙ second_decides c d
    ∙ sym (λ i. decided c d (then_by (if p i then Equal else (if q i then Greater else Less)) o))

module _ (f : Symbol) (ss : List Term) (g : Symbol) (ts : List Term) where
  same_terms : term_eq (App f ss) (App g ts) ≡ true → same_head f (length ss) g (length ts) ≡ true
  same_terms e =
      let p : (symbol_eq f g ≡ true) × (terms_eq ss ts ≡ true) = and_parts _ _ (sym (term_eq-App-App f ss g ts) ∙ e) in
      (λ i. eq-eqb _ _ (ap length (terms_eq-same ss ts p.1)) i && p.0 i)

  other_terms : same_head f (length ss) g (length ts) ≡ false → term_eq (App f ss) (App g ts) ≡ false
  other_terms h = by_test (term_eq (App f ss) (App g ts)) refl
    where
      by_test : (a : Bool) → term_eq (App f ss) (App g ts) ≡ a → a ≡ false
      by_test true e = absurd (false≢true (sym h ∙ same_terms e))
      by_test false e = refl

  other_weight : (term_symbols (App f ss) ≡ term_symbols (App g ts) → ⊥) → term_eq (App f ss) (App g ts) ≡ false
  other_weight ne = by_test (term_eq (App f ss) (App g ts)) refl
    where
      by_test : (a : Bool) → term_eq (App f ss) (App g ts) ≡ a → a ≡ false
      by_test true e = absurd (ne (ap term_symbols (term_eq-true (App f ss) (App g ts) e)))
      by_test false e = refl

  abbrev forth : Bool
  forth = is_greater_head f (length ss) g (length ts) || by_arguments f ss g ts

  abbrev back : Bool
  back = is_greater_head g (length ts) f (length ss) || by_arguments g ts f ss

  abbrev lower : Order
  lower = then_by (compare_heads f (length ss) g (length ts)) (compare_lists ss ts)

  same_symbol : same_head f (length ss) g (length ts) ≡ true → term_eq (App f ss) (App g ts) ≡ terms_eq ss ts
  same_symbol h = term_eq-App-App f ss g ts ∙ ap (λ b. b && terms_eq ss ts) (and_parts _ _ h).1

  -- the terms have the same weight
  equal_weights : (c d : Bool) → picked (term_eq (App f ss) (App g ts)) (c && forth) (d && back) ≡ decided c d lower
  equal_weights c d =
      heads_decide c d _ _ _ _ _ (terms_eq ss ts) (first_greater ss ts) (first_greater ts ss) (compare_lists ss ts)
      (head_cases f (length ss) g (length ts)) (head_cases g (length ts) f (length ss))
      other_terms same_symbol
      (λ h. lists ss ts (eqb-true (length ss) (length ts) (and_parts _ _ h).0))
      (lists_asymmetric ss ts)

  -- an application against an application
  pub compare_apps : compare (App f ss) (App g ts) ≡ judged (meets_variable_condition (App f ss) (App g ts)) (meets_variable_condition (App g ts) (App f ss)) (term_symbols (App f ss)) (term_symbols (App g ts)) lower
  compare_apps =
      (λ i. picked (term_eq (App f ss) (App g ts)) (is_greater-App-App f ss g ts i) (is_greater-App-App g ts f ss i))
      ∙ by_test (nat_lt (term_symbols (App g ts)) (term_symbols (App f ss))) (nat_lt (term_symbols (App f ss)) (term_symbols (App g ts))) refl refl
    where
      by_test : (a b : Bool) → nat_lt (term_symbols (App g ts)) (term_symbols (App f ss)) ≡ a → nat_lt (term_symbols (App f ss)) (term_symbols (App g ts)) ≡ b → picked (term_eq (App f ss) (App g ts)) (by_weight (App f ss) (App g ts) forth) (by_weight (App g ts) (App f ss) back) ≡ (if a then (if meets_variable_condition (App f ss) (App g ts) then Greater else Incomparable) else (if b then (if meets_variable_condition (App g ts) (App f ss) then Less else Incomparable) else decided (meets_variable_condition (App f ss) (App g ts)) (meets_variable_condition (App g ts) (App f ss)) lower))
      by_test true b p q =
          let lt : term_symbols (App g ts) < term_symbols (App f ss) = ltb-true _ _ p in
          λ i. picked (other_weight (λ e. omega arith) i) (heavier (App f ss) (App g ts) forth lt i) (lighter (App g ts) (App f ss) back lt i)
      by_test false true p q =
          let lt : term_symbols (App f ss) < term_symbols (App g ts) = ltb-true _ _ q in
          λ i. picked (other_weight (λ e. omega arith) i) (lighter (App f ss) (App g ts) forth lt i) (heavier (App g ts) (App f ss) back lt i)
      by_test false false p q =
          let same : term_symbols (App f ss) ≡ term_symbols (App g ts) = omega (arith, ltb-false _ _ p, ltb-false _ _ q) in
          (λ i. picked (term_eq (App f ss) (App g ts)) (balanced (App f ss) (App g ts) forth same i) (balanced (App g ts) (App f ss) back (sym same) i))
          ∙ equal_weights (meets_variable_condition (App f ss) (App g ts)) (meets_variable_condition (App g ts) (App f ss))

-- ---- variables

pub compare_variables : (v w : ℕ) → compare (Var v) (Var w) ≡ (if v == w then Equal else Incomparable)
compare_variables v w = λ i. picked (term_eq-Var-Var v w i) (is_greater-Var v (Var w) i) (is_greater-Var w (Var v) i)

-- a variable against an application, and the other way round
module _ (v : ℕ) (f : Symbol) (ts : List Term) where
  abbrev occurs : Bool
  occurs = list_any (λ w. v == w) (flat_map term_variables ts)

  by_variable : by_weight (App f ts) (Var v) false ≡ occurs
  by_variable = by_test occurs refl
    where
      by_test : (b : Bool) → list_any (λ w. v == w) (flat_map term_variables ts) ≡ b → by_weight (App f ts) (Var v) false ≡ b
      by_test true h =
          let here : 0 < times v (flat_map term_variables ts) = has_times v (flat_map term_variables ts) h in
          let more : term_symbols (Var v) < term_symbols (App f ts) = omega (arith, term_symbols-Var v, term_symbols-App f ts, few v ts) in
          heavier (App f ts) (Var v) false more
          ∙ contains_all (term_variables (App f ts)) (term_variables (Var v)) (λ w. as_often w (v == w) refl here)
        where
          as_often : (w : ℕ) (c : Bool) → (v == w) ≡ c → 0 < times v (flat_map term_variables ts) → times w (term_variables (Var v)) ≤ times w (term_variables (App f ts))
          as_often w true e here =
              let same : v ≡ w = eqb-true v w e in
              subst (λ (x : ℕ). times x (term_variables (Var v)) ≤ times x (term_variables (App f ts))) same (omega (arith, times-same v, ap (times v) (term_variables-App f ts)))
          as_often w false e here = omega (arith, times-other w v (λ s. false≢true (sym e ∙ eq-eqb v w (sym s))))
      by_test false h = ap (λ b. b && (nat_lt (term_symbols (Var v)) (term_symbols (App f ts)) || ((term_symbols (App f ts) == term_symbols (Var v)) && false))) (uncovered (meets_variable_condition (App f ts) (Var v)) refl)
        where
          uncovered : (b : Bool) → meets_variable_condition (App f ts) (Var v) ≡ b → b ≡ false
          uncovered false e = refl
          uncovered true e = absurd (omega (arith, contains_at (term_variables (App f ts)) (term_variables (Var v)) e v, times-same v, ap (times v) (term_variables-App f ts), none_times v (flat_map term_variables ts) h))

  pub compare_variable_with : compare (Var v) (App f ts) ≡ (if occurs then Less else Incomparable)
  compare_variable_with = (λ i. picked (term_eq-Var-App v f ts i) (is_greater-Var v (App f ts) i) ((is_greater-App-Var f ts v ∙ by_variable) i))

  pub compare_with_variable : compare (App f ts) (Var v) ≡ (if occurs then Greater else Incomparable)
  compare_with_variable = (λ i. picked (term_eq-App-Var f ts v i) ((is_greater-App-Var f ts v ∙ by_variable) i) (is_greater-Var v (App f ts) i)) ∙ settled_without occurs
    where
      settled_without : (b : Bool) → picked false b false ≡ (if b then Greater else Incomparable)
      settled_without true = refl
      settled_without false = refl

-- ---- the same by the lists of arguments

judged_more : (c d : Bool) (m n : ℕ) (o : Order) → judged c d (m + 1) (n + 1) o ≡ judged c d m n o
judged_more c d m n o = λ i. if less n m i then (if c then Greater else Incomparable) else (if less m n i then (if d then Less else Incomparable) else decided c d o)
  where
    less : (x y : ℕ) → nat_lt (x + 1) (y + 1) ≡ nat_lt x y
    less x y = by_test (nat_lt x y) refl
      where
        by_test : (b : Bool) → nat_lt x y ≡ b → nat_lt (x + 1) (y + 1) ≡ b
        by_test true e = lt-ltb (x + 1) (y + 1) (omega (arith, ltb-true x y e))
        by_test false e = le-ltb (x + 1) (y + 1) (omega (arith, ltb-false x y e))

pub compare_by_lists : (f : Symbol) (ss : List Term) (g : Symbol) (ts : List Term) → compare (App f ss) (App g ts) ≡ judged (contains_each (flat_map term_variables ss) (flat_map term_variables ts)) (contains_each (flat_map term_variables ts) (flat_map term_variables ss)) (sum (map term_symbols ss)) (sum (map term_symbols ts)) (then_by (compare_heads f (length ss) g (length ts)) (compare_lists ss ts))
compare_by_lists f ss g ts =
    compare_apps f ss g ts
    ∙ (λ i. judged (contains_each (term_variables-App f ss i) (term_variables-App g ts i)) (contains_each (term_variables-App g ts i) (term_variables-App f ss i)) (term_symbols-App f ss i) (term_symbols-App g ts i) (lower f ss g ts))
    ∙ judged_more (contains_each (flat_map term_variables ss) (flat_map term_variables ts)) (contains_each (flat_map term_variables ts) (flat_map term_variables ss)) (sum (map term_symbols ss)) (sum (map term_symbols ts)) (lower f ss g ts)

-- only what is left to decide can make terms equal
pub judged_equal : (c d : Bool) (m n : ℕ) (o : Order) → judged c d m n o ≡ Equal → o ≡ Equal
judged_equal c d m n o e = by_test (nat_lt n m) (nat_lt m n) c d o e
  where
    by_test : (x y c d : Bool) (o : Order) → (if x then (if c then Greater else Incomparable) else (if y then (if d then Less else Incomparable) else decided c d o)) ≡ Equal → o ≡ Equal
    by_test true y true d o e = absurd (cc)
    by_test true y false d o e = absurd (cc)
    by_test false true c true o e = absurd (cc)
    by_test false true c false o e = absurd (cc)
    by_test false false true d Greater e = absurd (cc)
    by_test false false false d Greater e = absurd (cc)
    by_test false false c true Less e = absurd (cc)
    by_test false false c false Less e = absurd (cc)
    by_test false false c d Equal e = refl
    by_test false false c d Incomparable e = absurd (cc)

pub other_variables : (v w : ℕ) → (v ≡ w → ⊥) → Incomparable ≡ compare (Var v) (Var w)
other_variables v w differ = sym (compare_variables v w ∙ by_test (v == w) refl)
  where
    by_test : (b : Bool) → (v == w) ≡ b → (if b then Equal else Incomparable) ≡ Incomparable
    by_test true e = absurd (differ (eqb-true v w e))
    by_test false e = refl

-- what the code finds at an application
module _ (f : Symbol) (ss : List Term) (g : Symbol) (ts : List Term) (c d : Bool) (heads below found : Order) (judgement : found ≡ judged c d (sum (map term_symbols ss)) (sum (map term_symbols ts)) below) where
  pub is_compared : c ≡ contains_each (flat_map term_variables ss) (flat_map term_variables ts) → d ≡ contains_each (flat_map term_variables ts) (flat_map term_variables ss) → heads ≡ compare_heads f (length ss) g (length ts) → below ≡ then_by heads (compare_lists ss ts) → found ≡ compare (App f ss) (App g ts)
  is_compared p q h e =
      judgement
      ∙ (λ i. judged (p i) (q i) (sum (map term_symbols ss)) (sum (map term_symbols ts)) ((e ∙ ap (λ o. then_by o (compare_lists ss ts)) h) i))
      ∙ sym (compare_by_lists f ss g ts)

  pub is_equal_below : found ≡ Equal → below ≡ Equal
  is_equal_below e = judged_equal c d (sum (map term_symbols ss)) (sum (map term_symbols ts)) below (sym judgement ∙ e)

-- what the code finds at a variable
module _ (v : ℕ) (f : Symbol) (ts l : List Term) (s t : Term) (found : Order) (lent : l ≡ ts) where
  pub variable_compared : s ≡ Var v → t ≡ App f ts → found ≡ (if list_any (λ w. v == w) (flat_map term_variables l) then Less else Incomparable) → found ≡ compare s t
  variable_compared e h k =
      k ∙ ap (λ l. if list_any (λ w. v == w) (flat_map term_variables l) then Less else Incomparable) lent
      ∙ sym (compare_variable_with v f ts)
      ∙ (λ i. compare (sym e i) (sym h i))

  pub compared_with_variable : s ≡ App f ts → t ≡ Var v → found ≡ (if list_any (λ w. v == w) (flat_map term_variables l) then Greater else Incomparable) → found ≡ compare s t
  compared_with_variable e h k =
      k ∙ ap (λ l. if list_any (λ w. v == w) (flat_map term_variables l) then Greater else Incomparable) lent
      ∙ sym (compare_with_variable v f ts)
      ∙ (λ i. compare (sym e i) (sym h i))

pub variables_compared : (v w : ℕ) (s t : Term) → s ≡ Var v → t ≡ Var w → (v ≡ w → ⊥) → Incomparable ≡ compare s t
variables_compared v w s t e h differ = other_variables v w differ ∙ (λ i. compare (sym e i) (sym h i))

pub first_decides_lists : (ss ts : List Term) (s t : Term) (rest more : List Term) (o : Order) → ss ≡ s ∷ rest → ts ≡ t ∷ more → o ≡ compare s t → (o ≡ Equal → ⊥) → o ≡ compare_lists ss ts
first_decides_lists ss ts s t rest more o e h k differ =
    stays o differ
    ∙ ap (λ p. then_by p (compare_lists rest more)) k
    ∙ (λ i. compare_lists (sym e i) (sym h i))
  where
    stays : (p : Order) → (p ≡ Equal → ⊥) → p ≡ then_by p (compare_lists rest more)
    stays Greater d = refl
    stays Less d = refl
    stays Equal d = absurd (d refl)
    stays Incomparable d = refl

-- ---- greater, and nothing else

picked_greater : (e g l : Bool) → picked e g l ≡ Greater → g ≡ true
picked_greater true g l h = absurd (cc)
picked_greater false true l h = refl
picked_greater false false true h = absurd (cc)
picked_greater false false false h = absurd (cc)

pub greater_where : (s t : Term) → compare s t ≡ Greater → is_greater s t ≡ true
greater_where s t h = picked_greater (term_eq s t) (is_greater s t) (is_greater t s) h

pub not_greater_where : (s t : Term) → (compare s t ≡ Greater → ⊥) → is_greater s t ≡ false
not_greater_where s t h = by_test (term_eq s t) (is_greater s t) refl refl
  where
    by_test : (a b : Bool) → term_eq s t ≡ a → is_greater s t ≡ b → b ≡ false
    by_test a false p q = refl
    by_test false true p q = absurd (h (λ i. picked (p i) (q i) (is_greater t s)))
    by_test true true p q =
        let e = term_eq-true s t p in
        let itself : is_greater s s ≡ true = ap (is_greater s) e ∙ q in
        absurd (false≢true (sym (asymmetric s s itself) ∙ itself))

-- what the code finds of a member
module _ (s t : Term) (o : Order) (found : o ≡ compare s t) where
  pub greater_and : (x r : Bool) → o ≡ Greater → r ≡ x → r ≡ (x && is_greater s t)
  greater_and x r h e = e ∙ sym (ap (λ b. x && b) (greater_where s t (sym found ∙ h)) ∙ and_true x)
    where
      and_true : (b : Bool) → (b && true) ≡ b
      and_true true = refl
      and_true false = refl

  pub not_greater_and : (x : Bool) → (o ≡ Greater → ⊥) → false ≡ (x && is_greater s t)
  not_greater_and x h = sym (ap (λ b. x && b) (not_greater_where s t (λ e. h (found ∙ e))) ∙ and-false x)
