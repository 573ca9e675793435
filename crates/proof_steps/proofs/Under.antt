-- Equality resolution and equality factoring of a clause under a substitution, by the clause itself.
use Rattle.std.proofs.Common.{◌≡◌, ℕ, Bool, true, false, ◌==◌, if◌then◌else◌, List, [], ◌∷◌, ◌++◌, map, Option, Some, None, option_map, option_and_then, refl, sym, ap, ◌∙◌}
use Rattle.std.specs.Prelude.{slice_get}
use Rattle.std.proofs.lemmas.List.{map-append}
use Rattle.std.proofs.lemmas.Option.{slice_get-map}
use Rattle.spl_terms.specs.declared.term.Term.{Term}
use Rattle.spl_terms.specs.declared.atom.Atom.{Atom}
use Rattle.spl_terms.specs.declared.atom.Atom.TheVariants.{Holds, Equal}
use Rattle.spl_terms.specs.declared.clause.Part.TheVariants.{Antecedent, Succedent}
use Rattle.spl_terms.specs.declared.clause.Clause.{Clause}
use Rattle.spl_terms.specs.Terms.{term_eq, replace}
use Rattle.spl_terms.specs.Clauses.{replace_in_atom, in_order}
use Rattle.spl_truth.specs.Truth.{entry, apply}
use Rattle.spl_truth.specs.TruthLaws.{map-remove}
use Rattle.spl_truth.specs.Redundancy.{has_equal_sides}
use Rattle.proof_steps.specs.Steps.{when, without, sides_of, reflexed, factored_sides, equality_factored}
use Rattle.proof_steps.proofs.Rules.{sides_there}

-- what comes of an item that was changed
then_changed : {A B C : Type 0} (f : A → B) (k : B → Option C) (o : Option A) → option_and_then k (option_map f o) ≡ option_and_then (λ a. k (f a)) o
then_changed f k None = refl
then_changed f k (Some a) = refl

module _ (s : List Term) where
  abbrev at_entry : Atom → Atom
  at_entry = replace_in_atom (entry s)

  antecedent-apply : (j : ℕ) (p : Clause) → without Antecedent j (apply s p) ≡ apply s (without Antecedent j p)
  antecedent-apply j p = λ i. record { constraint = map at_entry p.constraint; antecedent = sym (map-remove (entry s) p.antecedent j) i; succedent = map at_entry p.succedent }

  pub succedent-apply : (j : ℕ) (p : Clause) → without Succedent j (apply s p) ≡ apply s (without Succedent j p)
  succedent-apply j p = λ i. record { constraint = map at_entry p.constraint; antecedent = map at_entry p.antecedent; succedent = sym (map-remove (entry s) p.succedent j) i }

  -- ---- equality resolution

  pub reflexed-under : (j : ℕ) (p : Clause) → reflexed j (apply s p) ≡ option_and_then (λ a. when (has_equal_sides (at_entry a)) (in_order (apply s (without Antecedent j p)))) (slice_get p.antecedent j)
  reflexed-under j p =
      ap (option_and_then (λ a. when (has_equal_sides a) (in_order (without Antecedent j (apply s p))))) (slice_get-map at_entry p.antecedent j)
      ∙ then_changed at_entry (λ a. when (has_equal_sides a) (in_order (without Antecedent j (apply s p)))) (slice_get p.antecedent j)
      ∙ ap (λ d. option_and_then (λ a. when (has_equal_sides (at_entry a)) (in_order d)) (slice_get p.antecedent j)) (antecedent-apply j p)

  pub reflexed-there : (j : ℕ) (p : Clause) (a : Atom) (b : Bool) → slice_get p.antecedent j ≡ Some a → b ≡ has_equal_sides (at_entry a) → reflexed j (apply s p) ≡ when b (in_order (apply s (without Antecedent j p)))
  reflexed-there j p a b there same =
      reflexed-under j p
      ∙ ap (option_and_then (λ x. when (has_equal_sides (at_entry x)) (in_order (apply s (without Antecedent j p))))) there
      ∙ ap (λ t. when t (in_order (apply s (without Antecedent j p)))) (sym same)

  -- ---- equality factoring

  abbrev pub both_sides : Term × Term → Term × Term
  both_sides b = (replace (entry s) b.0, replace (entry s) b.1)

  sides-replace : (right : Bool) (a : Atom) → sides_of right (at_entry a) ≡ option_map both_sides (sides_of right a)
  sides-replace right (Holds p ts) = refl
  sides-replace false (Equal t u) = refl
  sides-replace true (Equal t u) = refl

  sides-each : (right : Bool) (o : Option Atom) → option_and_then (sides_of right) (option_map at_entry o) ≡ option_map both_sides (option_and_then (sides_of right) o)
  sides-each right None = refl
  sides-each right (Some a) = sides-replace right a

  pub sides-under : (right : Bool) (i : ℕ) (p : Clause) → sides_there right i (apply s p) ≡ option_map both_sides (sides_there right i p)
  sides-under right i p = ap (option_and_then (sides_of right)) (slice_get-map at_entry p.succedent i) ∙ sides-each right (slice_get p.succedent i)

  abbrev pub without_first : ℕ → Clause → Term → Term → Clause
  without_first i p v w = let c = without Succedent i p in record c { antecedent = c.antecedent ++ Equal v w ∷ [] }

  first-apply : (i : ℕ) (p : Clause) (v w : Term) → (let c = without Succedent i (apply s p) in record c { antecedent = c.antecedent ++ Equal (replace (entry s) v) (replace (entry s) w) ∷ [] }) ≡ apply s (without_first i p v w)
  first-apply i p v w = λ k. record { constraint = map at_entry p.constraint; antecedent = sym (map-append at_entry p.antecedent (Equal v w ∷ [])) k; succedent = sym (map-remove (entry s) p.succedent i) k }

  abbrev both_there : ℕ → Clause → Term × Term → Term × Term → Option Clause
  both_there i p first second = when (term_eq (replace (entry s) first.0) (replace (entry s) second.0)) (in_order (apply s (without_first i p first.1 second.1)))

  sides-factored : (i : ℕ) (p : Clause) (first second : Term × Term) → factored_sides i (apply s p) (both_sides first) (both_sides second) ≡ both_there i p first second
  sides-factored i p first second = ap (λ d. when (term_eq (replace (entry s) first.0) (replace (entry s) second.0)) (in_order d)) (first-apply i p first.1 second.1)

  second-factored : (i : ℕ) (p : Clause) (first : Term × Term) (o : Option (Term × Term)) → option_and_then (factored_sides i (apply s p) (both_sides first)) (option_map both_sides o) ≡ option_and_then (both_there i p first) o
  second-factored i p first None = refl
  second-factored i p first (Some second) = sides-factored i p first second

  first-factored : (i : ℕ) (p : Clause) (o r : Option (Term × Term)) → option_and_then (λ first. option_and_then (factored_sides i (apply s p) first) (option_map both_sides r)) (option_map both_sides o) ≡ option_and_then (λ first. option_and_then (both_there i p first) r) o
  first-factored i p None r = refl
  first-factored i p (Some first) r = second-factored i p first r

  pub factored-under : (i : ℕ) (i_right : Bool) (j : ℕ) (j_right : Bool) (p : Clause) → equality_factored i i_right j j_right (apply s p) ≡ (if i == j then None else option_and_then (λ first. option_and_then (both_there i p first) (sides_there j_right j p)) (sides_there i_right i p))
  factored-under i i_right j j_right p =
      ap (λ o. if i == j then None else o)
      ((λ k. option_and_then (λ first. option_and_then (factored_sides i (apply s p) first) (sides-under j_right j p k)) (sides-under i_right i p k))
      ∙ first-factored i p (sides_there i_right i p) (sides_there j_right j p))

  pub factored-there : (i : ℕ) (i_right : Bool) (j : ℕ) (j_right : Bool) (p : Clause) (u v x w : Term) (b : Bool) → (i == j) ≡ false → sides_there i_right i p ≡ Some (u, v) → sides_there j_right j p ≡ Some (x, w) → b ≡ term_eq (replace (entry s) u) (replace (entry s) x) → equality_factored i i_right j j_right (apply s p) ≡ when b (in_order (apply s (without_first i p v w)))
  factored-there i i_right j j_right p u v x w b differ first second same =
      factored-under i i_right j j_right p
      ∙ ap (λ t. if t then None else option_and_then (λ one. option_and_then (both_there i p one) (sides_there j_right j p)) (sides_there i_right i p)) differ
      ∙ (λ k. option_and_then (λ one. option_and_then (both_there i p one) (second k)) (first k))
      ∙ ap (λ t. when t (in_order (apply s (without_first i p v w)))) (sym same)

pub ruleset reflexed_under = (reflexed-under)

pub ruleset factored_under = (factored-under)
