-- Facts about the inferences of one clause alone.
use Rattle.std.proofs.Common.{◌≡◌, ℕ, ◌<◌, Bool, true, false, ◌==◌, if◌then◌else◌, List, [], ◌∷◌, ◌++◌, length, map, Option, Some, None, option_map, option_and_then, refl, sym, ap, ◌∙◌, subst, eq-eqb}
use Rattle.std.specs.Prelude.{filter, not, option_to_list}
use Rattle.std.specs.Borrow.{Bor}
use Rattle.std.specs.List.{AllByRecursion, flat_map, enumerate_from}
use Rattle.std.proofs.lemmas.Bool.{ne_eqb}
use Rattle.std.proofs.lemmas.List.Elements.{All-from_recursion, recursion_from_All}
use Rattle.std.proofs.lemmas.List.Folds.{flat_map-map}
use Rattle.spl_terms.specs.declared.term.Term.{Term}
use Rattle.spl_terms.specs.declared.atom.Atom.{Atom}
use Rattle.spl_terms.specs.declared.atom.Atom.TheVariants.{Holds, Equal}
use Rattle.spl_terms.specs.declared.clause.Part.{Part}
use Rattle.spl_terms.specs.declared.clause.Part.TheVariants.{Antecedent, Succedent}
use Rattle.spl_terms.specs.declared.clause.Clause.{Clause}
use Rattle.spl_terms.specs.Terms.{term_variables}
use Rattle.spl_terms.specs.Clauses.{in_order, part_of}
use Rattle.spl_terms.specs.InOrder.{IsInOrder, variables}
use Rattle.spl_truth.specs.declared.replace.Subst.{Subst}
use Rattle.spl_truth.specs.Truth.{apply}
use Rattle.spl_truth.specs.Unifiers.{HasVariablesBelow, unifier}
use Rattle.spl_truth.specs.Orders.{is_not_below}
use Rattle.proof_steps.specs.declared.step.Rule.TheVariants.{Factor, Reflex, EqFactor}
use Rattle.proof_steps.specs.declared.step.Line.{Line}
use Rattle.proof_steps.specs.Steps.{when, has_entries, factored, reflection, equality_factoring}
use Rattle.calculus.specs.declared.kept.Kept.{Kept}
use Rattle.calculus.specs.Inferences.{Reading, clause_of, eligible_in, by_unifier, atom_unifier, sides_unifier, factoring_unifier, readings, equations_of, other_atoms, factor_equation, factorings, reflections, equality_factorings}
use Rattle.calculus.specs.LiftingLaws.{atom_below, length-unifier}
use Rattle.superposition.specs.declared.equations.Equation.{Equation}
use Rattle.superposition.specs.Words.{plain, IsAtomBelow, AreAtomsBelow, AreLentBelow, line_of}
use Rattle.superposition.specs.Readings.{reading_of, AreLeftSidesBelow, factor_with, factor_apart}
use Rattle.superposition.proofs.Stating.{own_line}
use Rattle.superposition.proofs.Unified.{length-atom_unifier}
use Rattle.superposition.proofs.Resolving.{atom_fits, lent}
use Rattle.superposition.proofs.Lists.{each_kept, each_numbered}

-- ---- lines

unifier_fits : (p : Kept) (vars : ℕ) (u : List Term) → vars ≡ variables (clause_of p) → length u ≡ vars → has_entries u (clause_of p) ≡ true
unifier_fits p vars u n long = eq-eqb _ _ (long ∙ n)

pub factored_line : (p : Kept) (i j : ℕ) (a b : Atom) (vars : ℕ) (s : Subst) (made : Clause) → (i ≡ j → ⊥) → vars ≡ variables (clause_of p) → atom_unifier vars a b ≡ Some s.terms → made ≡ apply s.terms (clause_of p) →
    option_to_list (option_map (line_of p (Factor s)) (Some made)) ≡ factor_with p (i, a) (j, b)
factored_line p i j a b vars s made apart n unified is =
    let fit : has_entries s.terms (clause_of p) ≡ true = unifier_fits p vars s.terms n (length-atom_unifier vars a b s.terms unified) in
    let e : option_map in_order (Some made) ≡ factored s.terms (clause_of p) = ap (λ c. Some (in_order c)) is ∙ sym (ap (λ t. if t then Some (in_order (apply s.terms (clause_of p))) else None) fit) in
    let known : atom_unifier (variables (clause_of p)) a b ≡ Some s.terms = ap (λ k. atom_unifier k a b) (sym n) ∙ unified in
    ap option_to_list (own_line p (Factor s) (Some made) _ e)
    ∙ sym (ap (by_unifier p Factor) known)
    ∙ sym (ap (λ t. if not t then by_unifier p Factor (atom_unifier (variables (clause_of p)) a b) else []) (ne_eqb j i (λ e. apart (sym e))))

pub none_either_way : (b : Bool) (xs : List Line) → xs ≡ [] → [] ≡ (if b then xs else [])
none_either_way true xs e = sym e
none_either_way false xs e = refl

pub reflected_line : (p : Kept) (j : ℕ) (a : Atom) (vars : ℕ) (s : Subst) (made : Option Clause) → vars ≡ variables (clause_of p) → sides_unifier vars a ≡ Some s.terms → option_map in_order made ≡ reflection j s.terms (clause_of p) →
    option_to_list (option_map (line_of p (Reflex j s)) made) ≡ by_unifier p (Reflex j) (sides_unifier (variables (clause_of p)) a)
reflected_line p j a vars s made n unified e =
    ap option_to_list (own_line p (Reflex j s) made _ e) ∙ sym (ap (by_unifier p (Reflex j)) (ap (λ k. sides_unifier k a) (sym n) ∙ unified))

pub length-sides_unifier : (vars : ℕ) (a : Atom) (u : List Term) → sides_unifier vars a ≡ Some u → length u ≡ vars
length-sides_unifier vars (Holds f ts) u e = absurd (cc)
length-sides_unifier vars (Equal s t) u e = length-unifier vars s t u e

pub reflection_fits : (p : Kept) (a : Atom) (vars : ℕ) (u : List Term) → vars ≡ variables (clause_of p) → sides_unifier vars a ≡ Some u → has_entries u (clause_of p) ≡ true
reflection_fits p a vars u n unified = unifier_fits p vars u n (length-sides_unifier vars a u unified)

-- what is kept by a test was there before
pub kept_length : (vars : ℕ) (f : List Term → Bool) (o : Option (List Term)) (u : List Term) → ((w : List Term) → o ≡ Some w → length w ≡ vars) → option_and_then (λ w. when (f w) w) o ≡ Some u → length u ≡ vars
kept_length vars f None u h e = absurd (cc)
kept_length vars f (Some w) u h e = by_test (f w) e
  where
    by_test : (b : Bool) → when b w ≡ Some u → length u ≡ vars
    by_test true q = let same : w ≡ u = cc in subst (λ x. length x ≡ vars) same (h w refl)
    by_test false q = absurd (cc)

module _ (p : Kept) (e d : Reading) (vars : ℕ) (n : vars ≡ variables (clause_of p)) where
  known : (o : Option (List Term)) → factoring_unifier vars e d ≡ o → factoring_unifier (variables (clause_of p)) e d ≡ o
  known o unified = ap (λ k. factoring_unifier k e d) (sym n) ∙ unified

  pub equation_fits : (u : List Term) → factoring_unifier vars e d ≡ Some u → has_entries u (clause_of p) ≡ true
  equation_fits u unified = unifier_fits p vars u n (kept_length vars (λ u. is_not_below u e.left_side e.right_side) (unifier vars e.left_side d.left_side) u (λ w. length-unifier vars e.left_side d.left_side w) unified)

  pub equation_line : (s : Subst) (made : Option Clause) → (e.place ≡ d.place → ⊥) → factoring_unifier vars e d ≡ Some s.terms → option_map in_order made ≡ equality_factoring e.place e.right d.place d.right s.terms (clause_of p) →
      option_to_list (option_map (line_of p (EqFactor e.place e.right d.place d.right s)) made) ≡ factor_apart p e d
  equation_line s made apart unified is =
      ap option_to_list (own_line p (EqFactor e.place e.right d.place d.right s) made _ is)
      ∙ sym (ap (by_unifier p (EqFactor e.place e.right d.place d.right)) (known (Some s.terms) unified))
      ∙ sym (ap (λ t. if not t then factor_equation p e d else []) (ne_eqb d.place e.place (λ e. apart (sym e))))

-- ---- variables

part_below : (p : Kept) → IsInOrder (clause_of p) → (part : Part) → AreAtomsBelow (variables (clause_of p)) (enumerate_from 0 (part_of (clause_of p) part))
part_below p o part = each_numbered (IsAtomBelow (variables (clause_of p))) 0 (part_of (clause_of p) part) (λ k a e. atom_fits (variables (clause_of p)) a (λ v h. atom_below (clause_of p) o part k a e v h))

eligible_below : (p : Kept) → IsInOrder (clause_of p) → (part : Part) → AreAtomsBelow (variables (clause_of p)) (eligible_in p part)
eligible_below p o part = each_kept (λ x. IsAtomBelow (variables (clause_of p)) x.1) _ (enumerate_from 0 (part_of (clause_of p) part)) (part_below p o part)

-- atoms that are lent, of those whose variables are below a number
lent_below : (vars n : ℕ) (xs : List (ℕ × Atom)) (places lends : List (ℕ × Bor Atom)) → AreAtomsBelow n xs → vars ≡ n → plain places ≡ xs → lends ≡ places → AreLentBelow vars lends
lent_below vars n xs places lends h m is same = lent vars lends (subst (λ k. AreAtomsBelow k (plain lends)) (sym m) (subst (AreAtomsBelow n) (sym (ap plain same ∙ is)) h))

pub own_places_below : (p : Kept) (part : Part) (vars : ℕ) (places lends : List (ℕ × Bor Atom)) → IsInOrder (clause_of p) → vars ≡ variables (clause_of p) → plain places ≡ eligible_in p part → lends ≡ places → AreLentBelow vars lends
own_places_below p part vars places lends o n is same = lent_below vars (variables (clause_of p)) (eligible_in p part) places lends (eligible_below p o part) n is same

pub own_atoms_below : (p : Kept) (part : Part) (vars : ℕ) (places lends : List (ℕ × Bor Atom)) → IsInOrder (clause_of p) → vars ≡ variables (clause_of p) → plain places ≡ enumerate_from 0 (part_of (clause_of p) part) → lends ≡ places → AreLentBelow vars lends
own_atoms_below p part vars places lends o n is same = lent_below vars (variables (clause_of p)) (enumerate_from 0 (part_of (clause_of p) part)) places lends (part_below p o part) n is same

first_each : {X : Type 0} (P : X → Type 0) (xs ys : List X) → AllByRecursion P (xs ++ ys) → AllByRecursion P xs
first_each P [] ys h = tt
first_each P (x ∷ xs) ys h = (h.0, first_each P xs ys h.1)

second_each : {X : Type 0} (P : X → Type 0) (xs ys : List X) → AllByRecursion P (xs ++ ys) → AllByRecursion P ys
second_each P [] ys h = h
second_each P (x ∷ xs) ys h = second_each P xs ys h.1

sides_below : (vars : ℕ) (s t : Term) → IsAtomBelow vars (Equal s t) → HasVariablesBelow vars s × HasVariablesBelow vars t
sides_below vars s t h =
    let P : ℕ → Type 0 = λ v. v < vars in
    let all : AllByRecursion P (term_variables s ++ (term_variables t ++ [])) = recursion_from_All P _ h in
    (All-from_recursion P (term_variables s) (first_each P (term_variables s) (term_variables t ++ []) all), All-from_recursion P (term_variables t) (first_each P (term_variables t) [] (second_each P (term_variables s) (term_variables t ++ []) all)))

pub left_below : (vars : ℕ) (a : Atom) (s t : Term) → a ≡ Equal s t → IsAtomBelow vars a → HasVariablesBelow vars s
left_below vars a s t is h = (sides_below vars s t (subst (IsAtomBelow vars) is h)).0

pub right_below : (vars : ℕ) (a : Atom) (s t : Term) → a ≡ Equal s t → IsAtomBelow vars a → HasVariablesBelow vars t
right_below vars a s t is h = (sides_below vars s t (subst (IsAtomBelow vars) is h)).1

readings_below : (vars : ℕ) (xs : List (ℕ × Atom)) → AreAtomsBelow vars xs → AllByRecursion (λ e. HasVariablesBelow vars e.left_side) (flat_map readings xs)
readings_below vars [] h = tt
readings_below vars ((i, Holds f ts) ∷ xs) h = readings_below vars xs h.1
readings_below vars ((i, Equal s t) ∷ xs) h = let both = sides_below vars s t h.0 in (both.0, (both.1, readings_below vars xs h.1))

lent_sides : (vars : ℕ) (equations : List Equation) → AllByRecursion (λ e. HasVariablesBelow vars e.left_side) (map reading_of equations) → AreLeftSidesBelow vars equations
lent_sides vars [] h = tt
lent_sides vars (e ∷ equations) h = (h.0, lent_sides vars equations h.1)

pub equations_below : (vars n : ℕ) (xs : List (ℕ × Atom)) (made held : List Equation) → AreAtomsBelow n xs → vars ≡ n → map reading_of made ≡ flat_map readings xs → held ≡ made → AreLeftSidesBelow vars held
equations_below vars n xs made held h m is same = lent_sides vars held (subst (λ k. AllByRecursion (λ e. HasVariablesBelow k e.left_side) (map reading_of held)) (sym m) (subst (AllByRecursion (λ e. HasVariablesBelow n e.left_side)) (sym (ap (map reading_of) same ∙ is)) (readings_below n xs h)))

-- what was read of atoms that are lent
pub read_are : (xs : List (ℕ × Atom)) (places lends : List (ℕ × Bor Atom)) (made : List Equation) → plain places ≡ xs → lends ≡ places → map reading_of made ≡ flat_map readings (plain lends) → map reading_of made ≡ flat_map readings xs
read_are xs places lends made is same read = read ∙ ap (flat_map readings) (ap plain same ∙ is)

pub own_equations_below : (p : Kept) (vars : ℕ) (made held : List Equation) → IsInOrder (clause_of p) → vars ≡ variables (clause_of p) → map reading_of made ≡ equations_of p → held ≡ made → AreLeftSidesBelow vars held
own_equations_below p vars made held o n is same = equations_below vars (variables (clause_of p)) (eligible_in p Succedent) made held (eligible_below p o Succedent) n is same

pub all_equations_below : (p : Kept) (vars : ℕ) (made held : List Equation) → IsInOrder (clause_of p) → vars ≡ variables (clause_of p) → map reading_of made ≡ flat_map readings (enumerate_from 0 (clause_of p).succedent) → held ≡ made → AreLeftSidesBelow vars held
all_equations_below p vars made held o n is same = equations_below vars (variables (clause_of p)) (enumerate_from 0 (clause_of p).succedent) made held (part_below p o Succedent) n is same

-- ---- the whole lists

-- what is left out beforehand or on the way
flat_map-filter : {X : Type 0} (f : X → List Line) (t : X → Bool) (xs : List X) → flat_map (λ x. if t x then f x else []) xs ≡ flat_map f (filter t xs)
flat_map-filter f t [] = refl
flat_map-filter f t (x ∷ xs) = ap (λ l. (if t x then f x else []) ++ l) (flat_map-filter f t xs) ∙ by_test (t x)
  where
    by_test : (b : Bool) → (if b then f x else []) ++ flat_map f (filter t xs) ≡ flat_map f (if b then x ∷ filter t xs else filter t xs)
    by_test true = refl
    by_test false = refl

pub factorings_are : (p : Kept) (places lends atoms held : List (ℕ × Bor Atom)) → plain places ≡ eligible_in p Succedent → lends ≡ places → plain atoms ≡ enumerate_from 0 (clause_of p).succedent → held ≡ atoms →
    flat_map (λ x. flat_map (λ y. factor_with p (x.0, x.1.now) (y.0, y.1.now)) held) lends ≡ factorings p
factorings_are p places lends atoms held is same all there =
    sym (flat_map-map (λ x. flat_map (λ y. factor_with p x (y.0, y.1.now)) held) (λ x. (x.0, x.1.now)) lends)
    ∙ (λ k. flat_map (λ x. flat_map (λ y. factor_with p x (y.0, y.1.now)) held) ((ap plain same ∙ is) k))
    ∙ (λ k. flat_map (λ x. others x k) (eligible_in p Succedent))
  where
    others : (x : ℕ × Atom) → flat_map (λ y. factor_with p x (y.0, y.1.now)) held ≡ flat_map (λ y. by_unifier p Factor (atom_unifier (variables (clause_of p)) x.1 y.1)) (other_atoms x.0 p)
    others x =
        sym (flat_map-map (factor_with p x) (λ y. (y.0, y.1.now)) held)
        ∙ ap (flat_map (factor_with p x)) (ap plain there ∙ all)
        ∙ flat_map-filter (λ y. by_unifier p Factor (atom_unifier (variables (clause_of p)) x.1 y.1)) (λ y. not (y.0 == x.0)) (enumerate_from 0 (clause_of p).succedent)

pub reflections_are : (p : Kept) (places lends : List (ℕ × Bor Atom)) → plain places ≡ eligible_in p Antecedent → lends ≡ places → flat_map (λ x. by_unifier p (Reflex x.0) (sides_unifier (variables (clause_of p)) x.1.now)) lends ≡ reflections p
reflections_are p places lends is same =
    sym (flat_map-map (λ x. by_unifier p (Reflex x.0) (sides_unifier (variables (clause_of p)) x.1)) (λ x. (x.0, x.1.now)) lends)
    ∙ ap (flat_map (λ x. by_unifier p (Reflex x.0) (sides_unifier (variables (clause_of p)) x.1))) (ap plain same ∙ is)

abbrev forth : ℕ → Term → Term → Reading
forth j s t = record { place = j; right = false; left_side = s; right_side = t }

abbrev back : ℕ → Term → Term → Reading
back j s t = record { place = j; right = true; left_side = t; right_side = s }

abbrev apart_from : ℕ → List Reading → List Reading
apart_from i = filter (λ d. not (d.place == i))

-- the readings of the other atoms are the other readings
other_readings : (i : ℕ) (xs : List (ℕ × Atom)) → apart_from i (flat_map readings xs) ≡ flat_map readings (filter (λ x. not (x.0 == i)) xs)
other_readings i [] = refl
other_readings i ((j, Holds f ts) ∷ xs) = other_readings i xs ∙ by_test (not (j == i))
  where
    by_test : (b : Bool) → flat_map readings (filter (λ x. not (x.0 == i)) xs) ≡ flat_map readings (if b then (j, Holds f ts) ∷ filter (λ x. not (x.0 == i)) xs else filter (λ x. not (x.0 == i)) xs)
    by_test true = refl
    by_test false = refl
other_readings i ((j, Equal s t) ∷ xs) = by_test (not (j == i)) ∙ ap (λ l. flat_map readings (if not (j == i) then (j, Equal s t) ∷ [] else []) ++ l) (other_readings i xs) ∙ joins (not (j == i))
  where
    by_test : (b : Bool) → (if b then forth j s t ∷ (if b then back j s t ∷ apart_from i (flat_map readings xs) else apart_from i (flat_map readings xs)) else (if b then back j s t ∷ apart_from i (flat_map readings xs) else apart_from i (flat_map readings xs))) ≡ flat_map readings (if b then (j, Equal s t) ∷ [] else []) ++ apart_from i (flat_map readings xs)
    by_test true = refl
    by_test false = refl

    joins : (b : Bool) → flat_map readings (if b then (j, Equal s t) ∷ [] else []) ++ flat_map readings (filter (λ x. not (x.0 == i)) xs) ≡ flat_map readings (if b then (j, Equal s t) ∷ filter (λ x. not (x.0 == i)) xs else filter (λ x. not (x.0 == i)) xs)
    joins true = refl
    joins false = refl

pub equality_factorings_are : (p : Kept) (made held others lends : List Equation) → map reading_of made ≡ equations_of p → held ≡ made → map reading_of others ≡ flat_map readings (enumerate_from 0 (clause_of p).succedent) → lends ≡ others →
    flat_map (λ e. flat_map (λ d. factor_apart p (reading_of e) (reading_of d)) lends) held ≡ equality_factorings p
equality_factorings_are p made held others lends is same all there =
    sym (flat_map-map (λ e. flat_map (λ d. factor_apart p e (reading_of d)) lends) reading_of held)
    ∙ (λ k. flat_map (λ e. flat_map (λ d. factor_apart p e (reading_of d)) lends) ((ap (map reading_of) same ∙ is) k))
    ∙ (λ k. flat_map (λ e. with_others e k) (equations_of p))
  where
    with_others : (e : Reading) → flat_map (λ d. factor_apart p e (reading_of d)) lends ≡ flat_map (factor_equation p e) (flat_map readings (other_atoms e.place p))
    with_others e =
        sym (flat_map-map (factor_apart p e) reading_of lends)
        ∙ ap (flat_map (factor_apart p e)) (ap (map reading_of) there ∙ all)
        ∙ flat_map-filter (factor_equation p e) (λ d. not (d.place == e.place)) (flat_map readings (enumerate_from 0 (clause_of p).succedent))
        ∙ ap (flat_map (factor_equation p e)) (other_readings e.place (enumerate_from 0 (clause_of p).succedent))

none_held : (made : List Equation) → length made ≡ 0 → made ≡ []
none_held [] e = refl
none_held (e ∷ made) n = absurd (cc)

pub no_equality_factorings : (p : Kept) (made held : List Equation) → map reading_of made ≡ equations_of p → held ≡ made → length held ≡ 0 → [] ≡ equality_factorings p
no_equality_factorings p made held is same none = ap (flat_map (λ e. flat_map (factor_equation p e) (flat_map readings (other_atoms e.place p)))) (sym (ap (map reading_of) (none_held held none)) ∙ ap (map reading_of) same ∙ is)
