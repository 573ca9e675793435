-- Which variables are bound, and in which direction an equation falls.
use Rattle.std.proofs.Common.{◌≡◌, ◌↔◌, ℕ, ◌+◌, ◌<◌, ◌≤◌, Bool, true, false, ◌&&◌, ◌||◌, ◌==◌, if◌then◌else◌, List, [], ◌∷◌, length, Option, Some, None, unwrap_or, inl, inr, refl, sym, ap, subst, ◌∙◌, arith}
use Rattle.std.specs.Prelude.{is_some, nat_le}
use Rattle.std.specs.List.{list_all, list_any, flat_map}
use Rattle.std.proofs.Math.Bool.{and-true}
use Rattle.std.proofs.lemmas.Bool.{eqb-true, leb-true, and_parts, and_from, or_cases, or_left, or_right, false≢true}
use Rattle.std.proofs.lemmas.List.Folds.{list_all-append}
use Rattle.std.proofs.lemmas.List.Sums.{sum_by-cons}
use Rattle.spl_terms.specs.declared.term.Symbol.{Symbol}
use Rattle.spl_terms.specs.declared.term.Term.{Term, Var, App}
use Rattle.spl_terms.specs.Terms.{term_eq, term_symbols, term_variables, replace}
use Rattle.spl_terms.specs.TermLaws.{term_induction, term_variables-Var, term_variables-App, term_eq-true, replace-itself}
use Rattle.spl_terms.specs.VariableLaws.{itself}
use Rattle.spl_truth.specs.Orders.{times, meets_variable_condition, by_weight, is_greater_head, is_greater}
use Rattle.spl_truth.specs.OrderLaws.{is_greater-Var, is_greater-App-Var, is_greater-App-App, by_arguments, lighter, asymmetric}
use Rattle.spl_truth.specs.OccurrenceLaws.{agreed}
use Rattle.spl_truth.specs.Unifiers.{occurs}
use Rattle.kbo.specs.declared.order.Order.{Order}
use Rattle.kbo.specs.declared.order.Order.TheVariants.{Greater, Less, Equal, Incomparable}
use Rattle.kbo.specs.Comparisons.{compare}
use Rattle.kbo.specs.Stability.{IsStable}
use Rattle.unify.specs.Bindings.{bound_to, filled}
use Rattle.unify.specs.Matches.{Agrees, IsFound, FoundOrNot}
use Rattle.reductions.specs.Rewriting.{all_bound, Covers, NeverFalls}

-- ---- bound variables

pub bound-Var : (made : List (ℕ × Term)) (v : ℕ) → all_bound made (Var v) ≡ is_some (bound_to made v)
bound-Var made v = ap (list_all (λ w. is_some (bound_to made w))) (term_variables-Var v) ∙ and-true _

all-variables : (made : List (ℕ × Term)) (ts : List Term) → list_all (λ w. is_some (bound_to made w)) (flat_map term_variables ts) ≡ list_all (all_bound made) ts
all-variables made [] = refl
all-variables made (t ∷ ts) = list_all-append (λ w. is_some (bound_to made w)) (term_variables t) (flat_map term_variables ts) ∙ ap (λ b. all_bound made t && b) (all-variables made ts)

pub bound-App : (made : List (ℕ × Term)) (f : Symbol) (ts : List Term) → all_bound made (App f ts) ≡ list_all (all_bound made) ts
bound-App made f ts = ap (list_all (λ w. is_some (bound_to made w))) (term_variables-App f ts) ∙ all-variables made ts

pub ruleset bound_laws = (bound-Var, bound-App)

-- ---- a term that is matched with itself binds its variables

module _ (t : Term) (made : List (ℕ × Term)) (f : IsFound (λ g. replace g t ≡ t) (λ v. occurs v t) [] made) where
  -- the bindings, and something else for this variable
  abbrev other : ℕ → ℕ → Term
  other v w = if w == v then Var (v + 1) else filled made w

  other_agrees : (v : ℕ) → bound_to made v ≡ None → Agrees (other v) made
  other_agrees v none w x e = by_test (w == v) refl
    where
      by_test : (b : Bool) → (w == v) ≡ b → (if b then Var (v + 1) else filled made w) ≡ x
      by_test true is = (let same : w ≡ v = eqb-true w v is in let bad : bound_to made v ≡ Some x = subst (λ y. bound_to made y ≡ Some x) same e in absurd (cc))
      by_test false is = ap (λ o. unwrap_or o (Var w)) e

  bound_where : (v : ℕ) → occurs v t ≡ true → is_some (bound_to made v) ≡ true
  bound_where v o = by_option (bound_to made v) refl
    where
      by_option : (x : Option Term) → bound_to made v ≡ x → is_some x ≡ true
      by_option (Some x) e = refl
      by_option None e =
          let stays : other v v ≡ Var v = agreed (other v) Var t (f.done (other v) (other_agrees v e) ∙ sym (replace-itself t)) v o in
          let moves : other v v ≡ Var (v + 1) = ap (λ b. if b then Var (v + 1) else filled made v) (itself v) in
          let bad : Var (v + 1) ≡ Var v = sym moves ∙ stays in
          let same : v + 1 ≡ v = cc in
          absurd (omega (arith, same))

  pub bound_occurs : (v : ℕ) → is_some (bound_to made v) ≡ occurs v t
  bound_occurs v = by_test (occurs v t) refl
    where
      by_test : (b : Bool) → occurs v t ≡ b → is_some (bound_to made v) ≡ b
      by_test true e = bound_where v e
      by_test false e = ap is_some (f.others v e)

found_itself : (t : Term) (made : List (ℕ × Term)) (ok : Bool) → FoundOrNot (λ g. replace g t ≡ t) (λ v. occurs v t) [] made ok → IsFound (λ g. replace g t ≡ t) (λ v. occurs v t) [] made
found_itself t made true h = h
found_itself t made false h = absurd (h Var (λ v x e. absurd (cc)) (replace-itself t))

all_pass : (p : ℕ → Bool) (vs : List ℕ) → list_all p vs ≡ true → (v : ℕ) → list_any (λ w. v == w) vs ≡ true → p v ≡ true
all_pass p [] e v o = absurd (false≢true o)
all_pass p (w ∷ vs) e v o = elim (or_cases (v == w) _ o) [
  | inl here ↦ ap p (eqb-true v w here) ∙ (and_parts _ _ e).0
  | inr there ↦ all_pass p vs (and_parts _ _ e).1 v there
]

each_passes : (p : ℕ → Bool) (vs : List ℕ) → ((v : ℕ) → list_any (λ w. v == w) vs ≡ true → p v ≡ true) → list_all p vs ≡ true
each_passes p [] h = refl
each_passes p (w ∷ vs) h = and_from _ _ (h w (or_left _ _ (itself w))) (each_passes p vs (λ v o. h v (or_right (v == w) _ o)))

pub covers_exact : (t u : Term) (start end : ℕ × List (ℕ × Term)) (vars : ℕ) (ok yes' : Bool) → start ≡ (vars, []) → FoundOrNot (λ g. replace g t ≡ t) (λ v. occurs v t) start.1 end.1 ok → yes' ≡ all_bound end.1 u → (yes' ≡ true) ↔ Covers t u
covers_exact t u start end vars ok yes' begins h is =
    let f = found_itself t end.1 ok (subst (λ (b : ℕ × List (ℕ × Term)). FoundOrNot (λ g. replace g t ≡ t) (λ v. occurs v t) b.1 end.1 ok) begins h) in (
      (λ e v o. sym (bound_occurs t end.1 f v) ∙ all_pass (λ w. is_some (bound_to end.1 w)) (term_variables u) (sym is ∙ e) v o),
      (λ covers. is ∙ each_passes (λ w. is_some (bound_to end.1 w)) (term_variables u) (λ v o. bound_occurs t end.1 f v ∙ covers v o)),
    )

-- ---- what a comparison says

abbrev chosen : Bool → Bool → Bool → Order
chosen a b c = if a then Equal else (if b then Greater else (if c then Less else Incomparable))

if_greater : (a b c : Bool) → chosen a b c ≡ Greater → b ≡ true
if_greater true b c e = absurd (cc)
if_greater false true c e = refl
if_greater false false true e = absurd (cc)
if_greater false false false e = absurd (cc)

if_less : (a b c : Bool) → chosen a b c ≡ Less → c ≡ true
if_less true b c e = absurd (cc)
if_less false true c e = absurd (cc)
if_less false false true e = refl
if_less false false false e = absurd (cc)

if_equal : (a b c : Bool) → chosen a b c ≡ Equal → a ≡ true
if_equal true b c e = refl
if_equal false true c e = absurd (cc)
if_equal false false true e = absurd (cc)
if_equal false false false e = absurd (cc)

if_open : (a b c : Bool) → chosen a b c ≡ Incomparable → b ≡ false
if_open true b c e = absurd (cc)
if_open false true c e = absurd (cc)
if_open false false c e = refl

irreflexive : (s : Term) → is_greater s s ≡ false
irreflexive s = by_test (is_greater s s) refl
  where
    by_test : (b : Bool) → is_greater s s ≡ b → is_greater s s ≡ false
    by_test true e = asymmetric s s e
    by_test false e = e

module _ (s t : Term) (o : Order) (is : o ≡ compare s t) where
  pub when_greater : o ≡ Greater → is_greater s t ≡ true
  when_greater e = if_greater (term_eq s t) (is_greater s t) (is_greater t s) (sym is ∙ e)

  pub when_less : o ≡ Less → is_greater s t ≡ false
  when_less e = asymmetric t s (if_less (term_eq s t) (is_greater s t) (is_greater t s) (sym is ∙ e))

  pub when_equal : o ≡ Equal → is_greater s t ≡ false
  when_equal e = (let same = term_eq-true s t (if_equal (term_eq s t) (is_greater s t) (is_greater t s) (sym is ∙ e)) in ap (is_greater s) (sym same) ∙ irreflexive s)

  pub when_open : o ≡ Incomparable → is_greater s t ≡ false
  when_open e = if_open (term_eq s t) (is_greater s t) (is_greater t s) (sym is ∙ e)

  pub less_never : IsStable → o ≡ Less → NeverFalls s t
  less_never stable e g = asymmetric (replace g t) (replace g s) (stable g t s (if_less (term_eq s t) (is_greater s t) (is_greater t s) (sym is ∙ e)))

  pub equal_never : o ≡ Equal → NeverFalls s t
  equal_never e g = (let same = term_eq-true s t (if_equal (term_eq s t) (is_greater s t) (is_greater t s) (sym is ∙ e)) in ap (λ x. is_greater (replace g s) (replace g x)) (sym same) ∙ irreflexive (replace g s))

-- ---- what is lighter isn't greater

pub lighter_never : (s t : Term) → term_symbols s < term_symbols t → is_greater s t ≡ false
lighter_never =
    term_induction (λ s. (t : Term) → term_symbols s < term_symbols t → is_greater s t ≡ false)
    (λ v t less. is_greater-Var v t)
    (λ f ss _. term_induction (λ t. term_symbols (App f ss) < term_symbols t → is_greater (App f ss) t ≡ false)
    (λ w less. is_greater-App-Var f ss w ∙ lighter (App f ss) (Var w) false less)
    (λ g ts _ less. is_greater-App-App f ss g ts ∙ lighter (App f ss) (App g ts) (is_greater_head f (length ss) g (length ts) || by_arguments f ss g ts) less))

-- ---- what is greater has all variables

counts : (v : ℕ) (vs : List ℕ) → list_any (λ w. v == w) vs ≡ true → 0 < times v vs
counts v [] o = absurd (false≢true o)
counts v (w ∷ vs) o = elim (or_cases (v == w) _ o) [
  | inl here ↦ omega (arith, sum_by-cons (λ y. if v == y then 1 else 0) w vs, ap (λ (b : Bool). let one : ℕ = 1 in if b then one else 0) here)
  | inr there ↦ omega (arith, sum_by-cons (λ y. if v == y then 1 else 0) w vs, counts v vs there)
]

counted : (v : ℕ) (vs : List ℕ) → 0 < times v vs → list_any (λ w. v == w) vs ≡ true
counted v [] h = absurd (omega (arith, h))
counted v (w ∷ vs) h = by_test (v == w) refl (counted v vs)
  where
    by_test : (b : Bool) → (v == w) ≡ b → (0 < times v vs → list_any (λ w. v == w) vs ≡ true) → (b || list_any (λ w. v == w) vs) ≡ true
    by_test true e rest = refl
    by_test false e rest = rest (omega (arith, h, sum_by-cons (λ y. if v == y then 1 else 0) w vs, ap (λ (b : Bool). let one : ℕ = 1 in if b then one else 0) e))

condition_covers : (s t : Term) → meets_variable_condition s t ≡ true → Covers s t
condition_covers s t e v o =
    let le : times v (term_variables t) ≤ times v (term_variables s) = leb-true _ _ (all_pass (λ w. nat_le (times w (term_variables t)) (times w (term_variables s))) (term_variables t) e v o) in
    counted v (term_variables s) (omega (arith, le, counts v (term_variables t) o))

weighed : (s t : Term) (o : Bool) → by_weight s t o ≡ true → Covers s t
weighed s t o e = condition_covers s t (and_parts _ _ e).0

pub greater_covers : (s t : Term) → is_greater s t ≡ true → Covers s t
greater_covers =
    term_induction (λ s. (t : Term) → is_greater s t ≡ true → Covers s t)
    (λ v t e. absurd (false≢true (sym (is_greater-Var v t) ∙ e)))
    (λ f ss _. term_induction (λ t. is_greater (App f ss) t ≡ true → Covers (App f ss) t)
    (λ w e. weighed (App f ss) (Var w) false (sym (is_greater-App-Var f ss w) ∙ e))
    (λ g ts _ e. weighed (App f ss) (App g ts) (is_greater_head f (length ss) g (length ts) || by_arguments f ss g ts) (sym (is_greater-App-App f ss g ts) ∙ e)))
