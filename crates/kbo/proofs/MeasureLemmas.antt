-- Measures of predicate atoms, which have one member.
use Rattle.std.proofs.Common.{◌≡◌, Bool, true, false, ◌&&◌, ◌||◌, nat_lt, if◌then◌else◌, List, [], ◌∷◌, refl, sym, ap, ◌∙◌}
use Rattle.spl_terms.specs.declared.term.Symbol.{Symbol}
use Rattle.spl_terms.specs.declared.term.Term.{Term, App}
use Rattle.spl_terms.specs.declared.atom.Atom.{Atom}
use Rattle.spl_terms.specs.declared.atom.Atom.TheVariants.{Holds}
use Rattle.spl_terms.specs.declared.clause.Part.{Part}
use Rattle.spl_terms.specs.declared.clause.Part.TheVariants.{Constraint, Antecedent, Succedent}
use Rattle.spl_terms.specs.Terms.{term_eq}
use Rattle.spl_terms.specs.TermLaws.{term_eq-refl}
use Rattle.spl_truth.specs.Orders.{is_greater}
use Rattle.spl_truth.specs.Multisets.{is_greater_multiset}
use Rattle.spl_truth.specs.Places.{measure}
use Rattle.spl_truth.specs.OrderLaws.{term_eq-sym}
use Rattle.kbo.specs.declared.order.Order.{Order}
use Rattle.kbo.specs.declared.order.Order.TheVariants as order
use Rattle.kbo.specs.Comparisons.{compare}
use Rattle.kbo.specs.Measures.{copies, prevails}

module _ (a b : Term) where
  -- by the number of copies where the members are the same, else by the members
  abbrev by_members : Bool → Bool → Bool
  by_members e more = if e then more else is_greater a b

  one_one : (e : Bool) → term_eq a b ≡ e → term_eq b a ≡ e → is_greater_multiset (a ∷ []) (b ∷ []) ≡ by_members e false
  one_one true p q = simp (p, q, term_eq-refl)
  one_one false p q = simp (p, q, term_eq-refl) (by_test (is_greater a b))
    where
      by_test : (g : Bool) → ((g || false) && true) ≡ g
      by_test true = refl
      by_test false = refl

  two_one : (e : Bool) → term_eq a b ≡ e → term_eq b a ≡ e → is_greater_multiset (a ∷ a ∷ []) (b ∷ []) ≡ by_members e true
  two_one true p q = simp (p, q, term_eq-refl)
  two_one false p q = simp (p, q, term_eq-refl) (by_test (is_greater a b))
    where
      by_test : (g : Bool) → ((g || (g || false)) && true) ≡ g
      by_test true = refl
      by_test false = refl

  one_two : (e : Bool) → term_eq a b ≡ e → term_eq b a ≡ e → is_greater_multiset (a ∷ []) (b ∷ b ∷ []) ≡ by_members e false
  one_two true p q = simp (p, q, term_eq-refl)
  one_two false p q = simp (p, q, term_eq-refl) (by_test (is_greater a b))
    where
      by_test : (g : Bool) → ((g || false) && ((g || false) && true)) ≡ g
      by_test true = refl
      by_test false = refl

  two_two : (e : Bool) → term_eq a b ≡ e → term_eq b a ≡ e → is_greater_multiset (a ∷ a ∷ []) (b ∷ b ∷ []) ≡ by_members e false
  two_two true p q = simp (p, q, term_eq-refl)
  two_two false p q = simp (p, q, term_eq-refl) (by_test (is_greater a b))
    where
      by_test : (g : Bool) → ((g || (g || false)) && ((g || (g || false)) && true)) ≡ g
      by_test true = refl
      by_test false = refl

-- two predicate atoms
pub predicate_measures : (part other : Part) (p q : Symbol) (ss ts : List Term) → is_greater_multiset (measure part (Holds p ss)) (measure other (Holds q ts)) ≡ (if term_eq (App p ss) (App q ts) then nat_lt (copies other) (copies part) else is_greater (App p ss) (App q ts))
predicate_measures Succedent Succedent p q ss ts = one_one (App p ss) (App q ts) _ refl (term_eq-sym (App q ts) (App p ss))
predicate_measures Succedent Antecedent p q ss ts = one_two (App p ss) (App q ts) _ refl (term_eq-sym (App q ts) (App p ss))
predicate_measures Succedent Constraint p q ss ts = one_two (App p ss) (App q ts) _ refl (term_eq-sym (App q ts) (App p ss))
predicate_measures Antecedent Succedent p q ss ts = two_one (App p ss) (App q ts) _ refl (term_eq-sym (App q ts) (App p ss))
predicate_measures Antecedent Antecedent p q ss ts = two_two (App p ss) (App q ts) _ refl (term_eq-sym (App q ts) (App p ss))
predicate_measures Antecedent Constraint p q ss ts = two_two (App p ss) (App q ts) _ refl (term_eq-sym (App q ts) (App p ss))
predicate_measures Constraint Succedent p q ss ts = two_one (App p ss) (App q ts) _ refl (term_eq-sym (App q ts) (App p ss))
predicate_measures Constraint Antecedent p q ss ts = two_two (App p ss) (App q ts) _ refl (term_eq-sym (App q ts) (App p ss))
predicate_measures Constraint Constraint p q ss ts = two_two (App p ss) (App q ts) _ refl (term_eq-sym (App q ts) (App p ss))

by_order : (e g l m : Bool) → prevails (if e then order.Equal else (if g then order.Greater else (if l then order.Less else order.Incomparable))) m ≡ (if e then m else g)
by_order true g l m = refl
by_order false true l m = refl
by_order false false true m = refl
by_order false false false m = refl

-- what the code finds of two predicate atoms
pub predicates_prevail : (part other : Part) (a b : Atom) (p q : Symbol) (ss ts us ws : List Term) → a ≡ Holds p ss → b ≡ Holds q ts → us ≡ ss → ws ≡ ts → (o : Order) (r : Bool) → o ≡ compare (App p us) (App q ws) → r ≡ prevails o (nat_lt (copies other) (copies part)) → r ≡ is_greater_multiset (measure part a) (measure other b)
predicates_prevail part other a b p q ss ts us ws e h k j o r found result =
    result
    ∙ ap (λ x. prevails x (nat_lt (copies other) (copies part))) (found ∙ (λ i. compare (App p (k i)) (App q (j i))))
    ∙ by_order (term_eq (App p ss) (App q ts)) (is_greater (App p ss) (App q ts)) (is_greater (App q ts) (App p ss)) (nat_lt (copies other) (copies part))
    ∙ sym (predicate_measures part other p q ss ts)
    ∙ (λ i. is_greater_multiset (measure part (sym e i)) (measure other (sym h i)))
