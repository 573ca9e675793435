-- Where a clause's own equations have a unifier, there is an inference; and with both sides of a split closed nothing is left.
use Rattle.std.proofs.Common.{◌≡◌, ℕ, ◌<◌, true, ◌==◌, if◌then◌else◌, [], ◌∷◌, ◌++◌, Some, None, MatchOption, option_map, option_and_then, sym, ap, ◌∙◌, subst, eq-eqb}
use Rattle.std.specs.Prelude.{option_to_list, slice_get}
use Rattle.std.proofs.lemmas.List.Folds.{list_any-append}
use Rattle.std.proofs.lemmas.Option.{slice_get-map}
use Rattle.std.proofs.lemmas.List.Elements.{All-from_recursion}
use Rattle.spl_terms.specs.declared.term.Term.{Term}
use Rattle.spl_terms.specs.declared.atom.Atom.TheVariants.{Equal}
use Rattle.spl_terms.specs.declared.clause.Part.TheVariants.{Antecedent, Succedent}
use Rattle.spl_terms.specs.declared.clause.Clause.{Clause}
use Rattle.spl_terms.specs.Terms.{replace, term_variables, term_eq}
use Rattle.spl_terms.specs.Clauses.{replace_in_atom, in_order}
use Rattle.spl_terms.specs.TermLaws.{term_eq-refl}
use Rattle.spl_truth.specs.Truth.{entry, apply}
use Rattle.spl_truth.specs.Redundancy.{has_equal_sides}
use Rattle.spl_truth.specs.Unifiers.{HasVariablesBelow, HasNoUnifier, IsMostGeneral, ForTermsBelow, IsUnifierOrNone}
use Rattle.std.proofs.lemmas.Bool.{or_left, or_right}
use Rattle.proof_steps.specs.declared.step.Rule.TheVariants.{Reflex, EqFactor}
use Rattle.proof_steps.specs.Steps.{when, states, has_entries, without, reflexed, reflection, sides_of, equality_factored, factored_sides}
use Rattle.spl_terms.specs.InOrder.{variables}
use Rattle.calculus.specs.Inferences.{clause_of, by_entries, by_unifier}
use Rattle.spl_terms.specs.VariableLaws.{has}
use Rattle.calculus.specs.LiftingLaws.{atom_below, all_below, length-unifier}
use Rattle.std.proofs.lemmas.Bool.{ne_eqb}
use Rattle.calculus.proofs.Superposing.{sides-replace, sides-inner}
use Rattle.calculus.specs.Found.{ReflectionsAreFound, EqualityFactoringsAreFound}

-- ---- reflection

pub reflection_there : ForTermsBelow IsUnifierOrNone → ReflectionsAreFound
reflection_there most_general p j s t u o e unified =
    let c : Clause = clause_of p in
    let vars : ℕ = variables c in
    let left : (v : ℕ) → has v (term_variables s) ≡ true → v < vars = λ v h. atom_below c o Antecedent j (Equal s t) e v (list_any-append (λ x. v == x) (term_variables s) (term_variables t ++ []) ∙ or_left _ _ h) in
    let right : (v : ℕ) → has v (term_variables t) ≡ true → v < vars = λ v h. atom_below c o Antecedent j (Equal s t) e v (list_any-append (λ x. v == x) (term_variables s) (term_variables t ++ []) ∙ or_right _ _ (list_any-append (λ x. v == x) (term_variables t) [] ∙ or_left _ _ h)) in
    let x : HasVariablesBelow vars s = All-from_recursion (λ v. v < vars) _ (all_below vars (term_variables s) left) in
    let y : HasVariablesBelow vars t = All-from_recursion (λ v. v < vars) _ (all_below vars (term_variables t) right) in
    let general : IsMostGeneral s t (entry u) = subst (λ o. MatchOption o (HasNoUnifier s t) (λ entries. IsMostGeneral s t (entry entries))) unified (most_general vars s t x y) in
    let fit : has_entries u c ≡ true = eq-eqb _ _ (length-unifier vars s t u unified) in
    let there : slice_get (apply u c).antecedent j ≡ Some (Equal (replace (entry u) s) (replace (entry u) t)) = slice_get-map (replace_in_atom (entry u)) c.antecedent j ∙ ap (option_map (replace_in_atom (entry u))) e in
    let same : term_eq (replace (entry u) s) (replace (entry u) t) ≡ true = ap (term_eq (replace (entry u) s)) (sym general.unifies) ∙ term_eq-refl (replace (entry u) s) in
    let made : reflection j u c ≡ Some (in_order (without Antecedent j (apply u c))) =
    (λ k. if fit k then reflexed j (apply u c) else None)
    ∙ ap (option_and_then (λ a. when (has_equal_sides a) (in_order (without Antecedent j (apply u c))))) there
    ∙ ap (λ b. when b (in_order (without Antecedent j (apply u c)))) same in
    (_, ap (λ o. option_to_list (option_map (λ c. record { step = record { rule = Reflex j (by_entries u); parents = p.number ∷ [] }; stated = c }) (option_map (λ c. states c p.statement.deps) o))) made)

-- ---- equality factoring

pub equality_factoring_there : ForTermsBelow IsUnifierOrNone → EqualityFactoringsAreFound
equality_factoring_there most_general p e d a b u o first second apart sides other unified high =
    let c : Clause = clause_of p in
    let vars : ℕ = variables c in
    let h : ℕ → Term = entry u in
    let left : (v : ℕ) → has v (term_variables e.left_side) ≡ true → v < vars = λ v k. atom_below c o Succedent e.place a first v (sides-inner e.right a e.left_side e.right_side sides v k) in
    let right : (v : ℕ) → has v (term_variables d.left_side) ≡ true → v < vars = λ v k. atom_below c o Succedent d.place b second v (sides-inner d.right b d.left_side d.right_side other v k) in
    let x : HasVariablesBelow vars e.left_side = All-from_recursion (λ v. v < vars) _ (all_below vars (term_variables e.left_side) left) in
    let y : HasVariablesBelow vars d.left_side = All-from_recursion (λ v. v < vars) _ (all_below vars (term_variables d.left_side) right) in
    let general : IsMostGeneral e.left_side d.left_side h = subst (λ r. MatchOption r (HasNoUnifier e.left_side d.left_side) (λ entries. IsMostGeneral e.left_side d.left_side (entry entries))) unified (most_general vars e.left_side d.left_side x y) in
    let fit : has_entries u c ≡ true = eq-eqb _ _ (length-unifier vars e.left_side d.left_side u unified) in
    let there : slice_get (apply u c).succedent e.place ≡ Some (replace_in_atom h a) = slice_get-map (replace_in_atom h) c.succedent e.place ∙ ap (option_map (replace_in_atom h)) first in
    let after : slice_get (apply u c).succedent d.place ≡ Some (replace_in_atom h b) = slice_get-map (replace_in_atom h) c.succedent d.place ∙ ap (option_map (replace_in_atom h)) second in
    let same : term_eq (replace h e.left_side) (replace h d.left_side) ≡ true = ap (term_eq (replace h e.left_side)) (sym general.unifies) ∙ term_eq-refl (replace h e.left_side) in
    let made = (λ k. if fit k then equality_factored e.place e.right d.place d.right (apply u c) else None)
    ∙ (λ k. if ne_eqb e.place d.place apart k then None else option_and_then (λ z. option_and_then (factored_sides e.place (apply u c) z) (option_and_then (sides_of d.right) (slice_get (apply u c).succedent d.place))) (option_and_then (sides_of e.right) (slice_get (apply u c).succedent e.place)))
    ∙ (λ k. option_and_then (λ z. option_and_then (factored_sides e.place (apply u c) z) (option_and_then (sides_of d.right) (after k))) (option_and_then (sides_of e.right) (there k)))
    ∙ (λ k. option_and_then (λ z. option_and_then (factored_sides e.place (apply u c) z) (sides-replace h d.right b d.left_side d.right_side other k)) (sides-replace h e.right a e.left_side e.right_side sides k))
    ∙ ap (λ t. when t (in_order (let w = without Succedent e.place (apply u c) in record w { antecedent = w.antecedent ++ Equal (replace h e.right_side) (replace h d.right_side) ∷ [] }))) same in
    (_, ap (by_unifier p (EqFactor e.place e.right d.place d.right)) high ∙ ap (λ o. option_to_list (option_map (λ c. record { step = record { rule = EqFactor e.place e.right d.place d.right (by_entries u); parents = p.number ∷ [] }; stated = c }) (option_map (λ c. states c p.statement.deps) o))) made)
