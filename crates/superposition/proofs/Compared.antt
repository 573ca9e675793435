-- The order on terms as its four outcomes, and what each of them says of all instances.
use Rattle.std.proofs.Common.{◌≡◌, inl, inr, Bool, true, false, ◌||◌, if◌then◌else◌, refl, sym, ap, ◌∙◌, subst}
use Rattle.std.specs.Prelude.{not}
use Rattle.std.proofs.lemmas.Bool.{false≢true, or_cases, or_left, or_right}
use Rattle.spl_terms.specs.declared.term.Term.{Term}
use Rattle.spl_terms.specs.Terms.{term_eq, replace}
use Rattle.spl_terms.specs.TermLaws.{term_eq-true, term_eq-refl}
use Rattle.spl_truth.specs.Orders.{is_greater, is_below}
use Rattle.spl_truth.specs.OrderLaws.{asymmetric}
use Rattle.kbo.specs.declared.order.Order.{Order}
use Rattle.kbo.specs.declared.order.Order.TheVariants.{Greater, Less, Equal, Incomparable}
use Rattle.kbo.specs.Comparisons.{compare}
use Rattle.kbo.specs.Stability.{IsStable}
use Rattle.superposition.specs.declared.ordering.Standing.TheVariants.{Upper, Lower}
use Rattle.superposition.specs.Standings.{IsStanding}

-- the outcome of a term that isn't below the other one
abbrev pub is_upper : Order → Bool
is_upper Greater = true
is_upper Less = false
is_upper Equal = false
is_upper Incomparable = true

pub upper_is : (s t : Term) (o : Order) → o ≡ compare s t → is_upper o ≡ not (is_below s t)
upper_is s t o e = ap is_upper e ∙ by_tests (term_eq s t) (is_greater s t) (is_greater t s) (asymmetric s t)
  where
    by_tests : (same above below : Bool) → (above ≡ true → below ≡ false) → is_upper (if same then Equal else (if above then Greater else (if below then Less else Incomparable))) ≡ not (below || same)
    by_tests true above true h = refl
    by_tests true above false h = refl
    by_tests false true true h = absurd (false≢true (sym (h refl)))
    by_tests false true false h = refl
    by_tests false false true h = refl
    by_tests false false false h = refl

-- ---- what the outcomes say

abbrev outcome : Bool → Bool → Bool → Order
outcome same above below = if same then Equal else (if above then Greater else (if below then Less else Incomparable))

greater_is : (a b c : Bool) → outcome a b c ≡ Greater → b ≡ true
greater_is true b c e = absurd (cc)
greater_is false true c e = refl
greater_is false false true e = absurd (cc)
greater_is false false false e = absurd (cc)

less_is : (a b c : Bool) → outcome a b c ≡ Less → c ≡ true
less_is true b c e = absurd (cc)
less_is false true c e = absurd (cc)
less_is false false true e = refl
less_is false false false e = absurd (cc)

equal_is : (a b c : Bool) → outcome a b c ≡ Equal → a ≡ true
equal_is true b c e = refl
equal_is false true c e = absurd (cc)
equal_is false false true e = absurd (cc)
equal_is false false false e = absurd (cc)

-- ---- what is known of all instances

above : (s t : Term) → is_greater s t ≡ true → is_below s t ≡ false
above s t e = ap (λ b. b || term_eq s t) (asymmetric s t e) ∙ by_test (term_eq s t) refl
  where
    by_test : (b : Bool) → term_eq s t ≡ b → term_eq s t ≡ false
    by_test false q = q
    by_test true q =
        let same : is_greater s s ≡ true = subst (λ x. is_greater s x ≡ true) (sym (term_eq-true s t q)) e in
        absurd (false≢true (sym (asymmetric s s same) ∙ same))

upper_stays : IsStable → (s t : Term) → is_greater s t ≡ true → IsStanding Upper s t
upper_stays stable s t e h = above (replace h s) (replace h t) (stable h s t e)

lower_stays : IsStable → (s t : Term) → is_below s t ≡ true → IsStanding Lower s t
lower_stays stable s t e h = elim (or_cases (is_greater t s) (term_eq s t) e) [
  | inl greater ↦ or_left (is_greater (replace h t) (replace h s)) (term_eq (replace h s) (replace h t)) (stable h t s greater)
  | inr same ↦ or_right (is_greater (replace h t) (replace h s)) (term_eq (replace h s) (replace h t)) (ap (λ x. term_eq (replace h s) (replace h x)) (sym (term_eq-true s t same)) ∙ term_eq-refl (replace h s))
]

module _ (stable : IsStable) (s t : Term) (o : Order) (is : o ≡ compare s t) where
  pub greater_forth : o ≡ Greater → IsStanding Upper s t
  greater_forth e = upper_stays stable s t (greater_is (term_eq s t) (is_greater s t) (is_greater t s) (sym is ∙ e))

  pub greater_back : o ≡ Greater → IsStanding Lower t s
  greater_back e = lower_stays stable t s (or_left (is_greater s t) (term_eq t s) (greater_is (term_eq s t) (is_greater s t) (is_greater t s) (sym is ∙ e)))

  pub less_forth : o ≡ Less → IsStanding Lower s t
  less_forth e = lower_stays stable s t (or_left (is_greater t s) (term_eq s t) (less_is (term_eq s t) (is_greater s t) (is_greater t s) (sym is ∙ e)))

  pub less_back : o ≡ Less → IsStanding Upper t s
  less_back e = upper_stays stable t s (less_is (term_eq s t) (is_greater s t) (is_greater t s) (sym is ∙ e))

  same_terms : o ≡ Equal → s ≡ t
  same_terms e = term_eq-true s t (equal_is (term_eq s t) (is_greater s t) (is_greater t s) (sym is ∙ e))

  pub equal_forth : o ≡ Equal → IsStanding Lower s t
  equal_forth e = lower_stays stable s t (or_right (is_greater t s) (term_eq s t) (ap (term_eq s) (sym (same_terms e)) ∙ term_eq-refl s))

  pub equal_back : o ≡ Equal → IsStanding Lower t s
  equal_back e = lower_stays stable t s (or_right (is_greater s t) (term_eq t s) (ap (term_eq t) (same_terms e) ∙ term_eq-refl t))
