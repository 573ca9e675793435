-- Laws with their proofs, not definitions that a reader must believe: each inference states what its step concludes, whatever the order
-- of its premises, and a clause has no sort step with its copy.
use Rattle.std.proofs.Common.{◌≡◌, inl, inr, ℕ, Bool, true, false, ◌==◌, List, [], ◌∷◌, ◌++◌, Option, Some, None, option_map, refl, sym, ap, ◌∙◌, subst}
use Rattle.std.specs.Prelude.{option_to_list, filter, Contains, if◌then◌else◌}
use Rattle.std.proofs.lemmas.Bool.{ne_eqb}
use Rattle.std.proofs.lemmas.List.Elements.{Contains-append_left, Contains-append_right, Contains-append_cases}
use Rattle.std.specs.List.{AllByRecursion, flat_map, enumerate_from}
use Rattle.spl_terms.specs.declared.term.Term.{Term}
use Rattle.spl_terms.specs.declared.clause.Spot.{Spot}
use Rattle.spl_terms.specs.declared.clause.Part.{Part}
use Rattle.spl_terms.specs.declared.clause.Part.TheVariants.{Constraint, Antecedent, Succedent}
use Rattle.spl_terms.specs.declared.clause.Clause.{Clause}
use Rattle.spl_truth.specs.Places.{first_unsolved, eligible_by}
use Rattle.proof_steps.specs.declared.step.Statement.{Statement}
use Rattle.proof_steps.specs.declared.step.Rule.{Rule}
use Rattle.proof_steps.specs.declared.step.Rule.TheVariants.{Resolve, Factor, Paramodulate, Reflex, EqFactor}
use Rattle.proof_steps.specs.declared.step.Line.{Line}
use Rattle.proof_steps.specs.Steps.{of_one, of_two, from_one, from_two, numbered, resolution, factored, paramodulation, reflection, equality_factoring, conclude}
use Rattle.calculus.specs.declared.kept.Kept.{Kept}
use Rattle.calculus.specs.Inferences.{clause_of, eligible_in, renamed_apart, variables_of_both, by_entries, first_part, second_part, by_unifier, by_unifier_of_both, atom_unifier, resolve, resolutions, readings, equations_of, spots_of, superpose, superpositions, from_to, pair_inferences, sort_steps, other_atoms, factorings, reflections, factor_equation, equality_factorings, own_inferences, inferences, IsInference}

-- ---- each inference is what its step concludes

-- the line states what its step concludes
abbrev pub StatesConclusion : List Clause → List Statement → Line → Type 0
StatesConclusion input earlier l = conclude input earlier l.step ≡ Some l.stated

module _ {X : Type 0} (P : X → Type 0) where
  all_append : (xs ys : List X) → AllByRecursion P xs → AllByRecursion P ys → AllByRecursion P (xs ++ ys)
  all_append [] ys h k = k
  all_append (x ∷ xs) ys h k = (h.0, all_append xs ys h.1 k)

all_flat_map : {X : Type 0} (P : Line → Type 0) (f : X → List Line) → ((x : X) → AllByRecursion P (f x)) → (xs : List X) → AllByRecursion P (flat_map f xs)
all_flat_map P f h [] = tt
all_flat_map P f h (x ∷ xs) = all_append P (f x) (flat_map f xs) (h x) (all_flat_map P f h xs)

module _ (input : List Clause) (earlier : List Statement) where
  abbrev AreStated : List Line → Type 0
  AreStated = AllByRecursion (StatesConclusion input earlier)

  stated_if : (rule : Rule) (parents : List ℕ) (o : Option Statement) → conclude input earlier (record { rule = rule; parents = parents }) ≡ o → AreStated (option_to_list (option_map (λ s. record { step = record { rule = rule; parents = parents }; stated = s }) o))
  stated_if rule parents None e = tt
  stated_if rule parents (Some s) e = (e, tt)

  -- of two premises
  module _ (p q : Kept) (has_p : numbered earlier p.number ≡ Some p.statement) (has_q : numbered earlier q.number ≡ Some q.statement) where
    resolve_stated : (i : ℕ) (part : Part) (j : ℕ) (u : Option (List Term)) → AreStated (by_unifier_of_both p q (λ s t. Resolve i part j s t) u)
    resolve_stated i part j None = tt
    resolve_stated i part j (Some u) = stated_if (Resolve i part j (first_part p u) (second_part p u)) (p.number ∷ q.number ∷ []) _ (λ k. of_two (from_two (resolution i part j (first_part p u).terms (second_part p u).terms)) (has_p k) (has_q k))

    superpose_stated : (i : ℕ) (right : Bool) (spot : Spot) (u : Option (List Term)) → AreStated (by_unifier_of_both p q (λ s t. Paramodulate i right spot s t) u)
    superpose_stated i right spot None = tt
    superpose_stated i right spot (Some u) = stated_if (Paramodulate i right spot (first_part p u) (second_part p u)) (p.number ∷ q.number ∷ []) _ (λ k. of_two (from_two (paramodulation i right spot (first_part p u).terms (second_part p u).terms)) (has_p k) (has_q k))

    resolutions_stated : (part : Part) → AreStated (resolutions part p q)
    resolutions_stated part = all_flat_map (StatesConclusion input earlier) _ (λ a. all_flat_map (StatesConclusion input earlier) (resolve part p q a) (λ b. resolve_stated a.0 part b.0 (atom_unifier (variables_of_both p q) a.1 (renamed_apart p b.1))) (eligible_in q part)) (eligible_in p Succedent)

    superpositions_stated : AreStated (superpositions p q)
    superpositions_stated = all_flat_map (StatesConclusion input earlier) _ (λ e. all_flat_map (StatesConclusion input earlier) (superpose p q e) (λ spot. superpose_stated e.place e.right spot _) (spots_of q)) (equations_of p)

    from_to_stated : AreStated (from_to p q)
    from_to_stated = all_append (StatesConclusion input earlier) (resolutions Antecedent p q) (superpositions p q) (resolutions_stated Antecedent) superpositions_stated

  -- of one premise
  module _ (p : Kept) (has_p : numbered earlier p.number ≡ Some p.statement) where
    factor_stated : (u : Option (List Term)) → AreStated (by_unifier p Factor u)
    factor_stated None = tt
    factor_stated (Some u) = stated_if (Factor (by_entries u)) (p.number ∷ []) _ (λ k. of_one (from_one (factored u)) (has_p k))

    reflex_stated : (j : ℕ) (u : Option (List Term)) → AreStated (by_unifier p (Reflex j) u)
    reflex_stated j None = tt
    reflex_stated j (Some u) = stated_if (Reflex j (by_entries u)) (p.number ∷ []) _ (λ k. of_one (from_one (reflection j u)) (has_p k))

    equality_factor_stated : (i : ℕ) (i_right : Bool) (j : ℕ) (j_right : Bool) (u : Option (List Term)) → AreStated (by_unifier p (EqFactor i i_right j j_right) u)
    equality_factor_stated i i_right j j_right None = tt
    equality_factor_stated i i_right j j_right (Some u) = stated_if (EqFactor i i_right j j_right (by_entries u)) (p.number ∷ []) _ (λ k. of_one (from_one (equality_factoring i i_right j j_right u)) (has_p k))

    own_stated : AreStated (own_inferences p)
    own_stated =
        let P = StatesConclusion input earlier in
        let fac : AreStated (factorings p) = all_flat_map P _ (λ a. all_flat_map P _ (λ b. factor_stated _) (other_atoms a.0 p)) (eligible_in p Succedent) in
        let ref : AreStated (reflections p) = all_flat_map P _ (λ a. reflex_stated a.0 _) (eligible_in p Antecedent) in
        let eqf : AreStated (equality_factorings p) = all_flat_map P _ (λ e. all_flat_map P (factor_equation p e) (λ d. equality_factor_stated e.place e.right d.place d.right _) (flat_map readings (other_atoms e.place p))) (equations_of p) in
        all_append P (from_to p p ++ factorings p ++ reflections p) (equality_factorings p) (all_append P (from_to p p ++ factorings p) (reflections p) (all_append P (from_to p p) (factorings p) (from_to_stated p p has_p has_p) fac) ref) eqf

  -- each inference states what its step concludes, wherever the premises have their numbers
  pub inferences_stated : (given other : Kept) → numbered earlier given.number ≡ Some given.statement → numbered earlier other.number ≡ Some other.statement → AllByRecursion (StatesConclusion input earlier) (inferences given other)
  inferences_stated given other h k = by_test (given.number == other.number)
    where
      both : AreStated (pair_inferences given other ++ sort_steps given other)
      both =
          let P = StatesConclusion input earlier in
          all_append P (pair_inferences given other) (sort_steps given other)
          (all_append P (from_to given other) (from_to other given) (from_to_stated given other h k) (from_to_stated other given k h))
          (all_append P (resolutions Constraint given other) (resolutions Constraint other given) (resolutions_stated given other h k Constraint) (resolutions_stated other given k h Constraint))

      by_test : (t : Bool) → AreStated (if t then own_inferences given else pair_inferences given other ++ sort_steps given other)
      by_test true = own_stated given h
      by_test false = both

-- ---- a clause has no sort step with its copy

none_pass : {X : Type 0} (xs : List X) → filter (λ x. false) xs ≡ []
none_pass [] = refl
none_pass (x ∷ xs) = none_pass xs

no_lines : {X : Type 0} (xs : List X) → flat_map {A = Line} (λ x. []) xs ≡ []
no_lines [] = refl
no_lines (x ∷ xs) = no_lines xs

pub no_own_sort_step : (p : Kept) → resolutions Constraint p p ≡ []
no_own_sort_step p = by_cases (first_unsolved (clause_of p)) p.selected
  where
    by_cases : (o sel : Option ℕ) → flat_map (λ a. flat_map (resolve Constraint p p a) (filter (λ y. eligible_by (clause_of p) o sel Constraint y.0) (enumerate_from 0 (clause_of p).constraint))) (filter (λ y. eligible_by (clause_of p) o sel Succedent y.0) (enumerate_from 0 (clause_of p).succedent)) ≡ []
    by_cases (Some k) sel = ap (flat_map (λ a. flat_map (resolve Constraint p p a) (filter (λ y. eligible_by (clause_of p) (Some k) sel Constraint y.0) (enumerate_from 0 (clause_of p).constraint)))) (none_pass (enumerate_from 0 (clause_of p).succedent))
    by_cases None (Some k) = (λ i. flat_map (λ a. flat_map (resolve Constraint p p a) (none_pass (enumerate_from 0 (clause_of p).constraint) i)) (filter (λ y. eligible_by (clause_of p) None (Some k) Succedent y.0) (enumerate_from 0 (clause_of p).succedent))) ∙ no_lines (filter (λ y. eligible_by (clause_of p) None (Some k) Succedent y.0) (enumerate_from 0 (clause_of p).succedent))
    by_cases None None = (λ i. flat_map (λ a. flat_map (resolve Constraint p p a) (none_pass (enumerate_from 0 (clause_of p).constraint) i)) (filter (λ y. eligible_by (clause_of p) None None Succedent y.0) (enumerate_from 0 (clause_of p).succedent))) ∙ no_lines (filter (λ y. eligible_by (clause_of p) None None Succedent y.0) (enumerate_from 0 (clause_of p).succedent))

-- ---- two premises in either order

-- the line is an inference of the two, whichever of them is given
pub inference-other : (given other : Kept) (l : Line) → (given.number ≡ other.number → ⊥) → IsInference given other l → IsInference other given l
inference-other given other l apart h =
    let none : (given.number == other.number) ≡ false = ne_eqb given.number other.number apart in
    let turned : (other.number == given.number) ≡ false = ne_eqb other.number given.number (λ e. apart (sym e)) in
    let h' : Contains (pair_inferences given other ++ sort_steps given other) l = subst (λ t. Contains (if t then own_inferences given else pair_inferences given other ++ sort_steps given other) l) none h in
    subst (λ t. Contains (if t then own_inferences other else pair_inferences other given ++ sort_steps other given) l) (sym turned) (elim (Contains-append_cases (pair_inferences given other) (sort_steps given other) l h') [
      | inl p ↦ Contains-append_left (pair_inferences other given) (sort_steps other given) l (exchanged (from_to given other) (from_to other given) l p)
      | inr s ↦ Contains-append_right (pair_inferences other given) (sort_steps other given) l (exchanged (resolutions Constraint given other) (resolutions Constraint other given) l s)
    ])
  where
    exchanged : (xs ys : List Line) (l : Line) → Contains (xs ++ ys) l → Contains (ys ++ xs) l
    exchanged xs ys l h = elim (Contains-append_cases xs ys l h) [
      | inl x ↦ Contains-append_right ys xs l x
      | inr y ↦ Contains-append_left ys xs l y
    ]
