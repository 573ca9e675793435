-- What equality resolution and equality factoring conclude by a unifier, since no unifier is lost.
use Rattle.std.proofs.Common.{◌≡◌, ℕ, ◌<◌, length, Bool, true, false, if◌then◌else◌, List, [], ◌∷◌, map, Option, Some, None, option_map, option_and_then, refl, sym, ap, ◌∙◌}
use Rattle.std.specs.Prelude.{option_to_list, slice_get}
use Rattle.std.proofs.lemmas.List.{map-append}
use Rattle.std.proofs.lemmas.Option.{slice_get-map, slice_get_within}
use Rattle.std.proofs.lemmas.Bool.{ne_eqb}
use Rattle.spl_terms.specs.declared.term.Term.{Term}
use Rattle.spl_terms.specs.declared.atom.Atom.{Atom}
use Rattle.spl_terms.specs.declared.atom.Atom.TheVariants.{Holds, Equal}
use Rattle.spl_terms.specs.declared.clause.Part.TheVariants.{Antecedent}
use Rattle.spl_terms.specs.declared.clause.Clause.{Clause}
use Rattle.spl_terms.specs.Terms.{term_eq, replace}
use Rattle.spl_terms.specs.Clauses.{in_order, replace_in_atom}
use Rattle.spl_terms.specs.InOrder.{IsInOrder, variables}
use Rattle.spl_truth.specs.Truth.{entry, apply}
use Rattle.spl_truth.specs.TruthLaws.{map-remove}
use Rattle.spl_truth.specs.Redundancy.{has_equal_sides}
use Rattle.spl_truth.specs.Orders.{is_not_below}
use Rattle.spl_truth.specs.Unifiers.{unifier}
use Rattle.proof_steps.specs.declared.step.Rule.TheVariants.{Reflex, EqFactor}
use Rattle.proof_steps.specs.Steps.{when, without, has_entries, states, sides_of, reflection, factored_sides, equality_factoring}
use Rattle.calculus.specs.Found.{ReflectionsAreFound, EqualityFactoringsAreFound}
use Rattle.calculus.specs.declared.kept.Kept.{Kept}
use Rattle.calculus.specs.Inferences.{clause_of, by_entries, by_unifier, sides_unifier, factoring_unifier}
use Rattle.superposition.specs.declared.equations.Equation.{Equation}
use Rattle.superposition.specs.Readings.{IsReadIn, reading_of}
use Rattle.superposition.specs.Sizes.{reflected_by, compared}
use Rattle.superposition.proofs.Stating.{stated_line, there_of, sides_replaced}
use Rattle.superposition.proofs.Resolving.{apply-without}

-- ---- equality resolution

-- a clause by a test of what stands there is concluded where there is one line
one_by : {A B X : Type 0} (f : A → B) (g : Clause → A) (c : Clause) (fit : Bool) (test : X → Bool) (o : Option X) (l : B) → option_to_list (option_map f (option_map g (if fit then option_and_then (λ x. when (test x) c) o else None))) ≡ l ∷ [] → (if fit then option_and_then (λ x. when (test x) c) o else None) ≡ Some c
one_by f g c false test o l h = absurd (cc)
one_by f g c true test None l h = absurd (cc)
one_by f g c true test (Some x) l h = by_test (test x) h
  where
    by_test : (b : Bool) → option_to_list (option_map f (option_map g (when b c))) ≡ l ∷ [] → when b c ≡ Some c
    by_test true h = refl
    by_test false h = absurd (cc)

pub reflection_is : ReflectionsAreFound → (p : Kept) (j : ℕ) (a : Atom) (vars : ℕ) (u : List Term) → IsInOrder (clause_of p) → vars ≡ variables (clause_of p) → slice_get (clause_of p).antecedent j ≡ Some a → sides_unifier vars a ≡ Some u →
    option_map in_order (Some (reflected_by (clause_of p) j u)) ≡ reflection j u (clause_of p)
reflection_is law p j (Holds f ts) vars u ordered n there unified = absurd (cc)
reflection_is law p j (Equal s t) vars u ordered n there unified =
    let line = law p j s t u ordered there (ap (λ k. unifier k s t) (sym n) ∙ unified) in
    let x : Clause = apply u (clause_of p) in
    let found : reflection j u (clause_of p) ≡ Some (in_order (without Antecedent j x)) =
    one_by (stated_line (Reflex j (by_entries u)) (p.number ∷ [])) (λ c. states c p.statement.deps) (in_order (without Antecedent j x)) (has_entries u (clause_of p)) has_equal_sides (slice_get x.antecedent j) line.0 line.1 in
    ap (λ c. Some (in_order c)) (apply-without Antecedent j u (clause_of p)) ∙ sym found

-- ---- equality factoring

one_of : {A B : Type 0} (f : A → B) (g : Clause → A) (c : Clause) (fit same : Bool) (l : B) → option_to_list (option_map f (option_map g (if fit then when same c else None))) ≡ l ∷ [] → (if fit then when same c else None) ≡ Some c
one_of f g c false same l h = absurd (cc)
one_of f g c true false l h = absurd (cc)
one_of f g c true true l h = refl

apply-compared : (u : List Term) (p : Clause) (i : ℕ) (s t : Term) → apply u (compared p i s t) ≡ compared (apply u p) i (replace (entry u) s) (replace (entry u) t)
apply-compared u p i s t = λ k. record {
  constraint = map (replace_in_atom (entry u)) p.constraint;
  antecedent = map-append (replace_in_atom (entry u)) p.antecedent (Equal s t ∷ []) k;
  succedent = map-remove (entry u) p.succedent i k;
}

pub read_within : (c : Clause) (e : Equation) → IsReadIn c e → e.place < length c.succedent
read_within c e h = let there = there_of (sides_of e.right) (slice_get c.succedent e.place) (e.left_side.now, e.right_side.now) h in slice_get_within c.succedent e.place there.0 there.1

module _ (p : Kept) (e d : Equation) (apart : e.place ≡ d.place → ⊥) (u : List Term) where
  abbrev x : Clause
  x = apply u (clause_of p)

  abbrev h : ℕ → Term
  h = entry u

  sides_there : (b : Equation) → IsReadIn (clause_of p) b → option_and_then (sides_of b.right) (slice_get x.succedent b.place) ≡ Some (replace h b.left_side.now, replace h b.right_side.now)
  sides_there b stands =
      let there = there_of (sides_of b.right) (slice_get (clause_of p).succedent b.place) (b.left_side.now, b.right_side.now) stands in
      ap (option_and_then (sides_of b.right)) (slice_get-map (replace_in_atom h) (clause_of p).succedent b.place ∙ ap (option_map (replace_in_atom h)) there.1)
      ∙ sides_replaced h b.right there.0
      ∙ ap (option_map (λ both. (replace h both.0, replace h both.1))) there.2

  abbrev made : Clause
  made = in_order (compared x e.place (replace h e.right_side.now) (replace h d.right_side.now))

  form : IsReadIn (clause_of p) e → IsReadIn (clause_of p) d → equality_factoring e.place e.right d.place d.right u (clause_of p) ≡ (if has_entries u (clause_of p) then when (term_eq (replace h e.left_side.now) (replace h d.left_side.now)) made else None)
  form one two =
      ap (λ b. if has_entries u (clause_of p) then (if b then None else option_and_then (λ first. option_and_then (factored_sides e.place x first) (option_and_then (sides_of d.right) (slice_get x.succedent d.place))) (option_and_then (sides_of e.right) (slice_get x.succedent e.place))) else None) (ne_eqb e.place d.place apart)
      ∙ (λ k. if has_entries u (clause_of p) then option_and_then (λ first. option_and_then (factored_sides e.place x first) (sides_there d two k)) (sides_there e one k) else None)

  -- the unifier that keeps the order is that of the left sides
  unifier_there : (vars : ℕ) → factoring_unifier vars (reading_of e) (reading_of d) ≡ Some u → unifier vars e.left_side.now d.left_side.now ≡ Some u
  unifier_there vars unified = kept_same (unifier vars e.left_side.now d.left_side.now) unified
    where
      by_test : (b : Bool) (w : List Term) → when b w ≡ Some u → Some w ≡ Some u
      by_test true w q = q
      by_test false w q = absurd (cc)

      kept_same : (o : Option (List Term)) → option_and_then (λ w. when (is_not_below w e.left_side.now e.right_side.now) w) o ≡ Some u → o ≡ Some u
      kept_same None q = q
      kept_same (Some w) q = by_test (is_not_below w e.left_side.now e.right_side.now) w q

  pub equality_factoring_is : EqualityFactoringsAreFound → IsInOrder (clause_of p) → (vars : ℕ) → vars ≡ variables (clause_of p) → IsReadIn (clause_of p) e → IsReadIn (clause_of p) d → factoring_unifier vars (reading_of e) (reading_of d) ≡ Some u →
      option_map in_order (Some (apply u (compared (clause_of p) e.place e.right_side.now d.right_side.now))) ≡ equality_factoring e.place e.right d.place d.right u (clause_of p)
  equality_factoring_is law ordered vars n one two unified =
      let known : factoring_unifier (variables (clause_of p)) (reading_of e) (reading_of d) ≡ Some u = ap (λ k. factoring_unifier k (reading_of e) (reading_of d)) (sym n) ∙ unified in
      let first = there_of (sides_of e.right) (slice_get (clause_of p).succedent e.place) (e.left_side.now, e.right_side.now) one in
      let second = there_of (sides_of d.right) (slice_get (clause_of p).succedent d.place) (d.left_side.now, d.right_side.now) two in
      let line = law p (reading_of e) (reading_of d) first.0 second.0 u ordered first.1 second.1 apart first.2 second.2 (unifier_there (variables (clause_of p)) known) known in
      let rule = EqFactor e.place e.right d.place d.right (by_entries u) in
      let stated = stated_line rule (p.number ∷ []) in
      let by_line = sym (ap (λ o. option_to_list (option_map stated (option_map (λ c. states c p.statement.deps) o))) (form one two)) ∙ sym (ap (by_unifier p (EqFactor e.place e.right d.place d.right)) known) ∙ line.1 in
      let found = form one two ∙ one_of stated (λ c. states c p.statement.deps) made (has_entries u (clause_of p)) (term_eq (replace h e.left_side.now) (replace h d.left_side.now)) line.0 by_line in
      ap (λ c. Some (in_order c)) (apply-compared u (clause_of p) e.place e.right_side.now d.right_side.now) ∙ sym found
