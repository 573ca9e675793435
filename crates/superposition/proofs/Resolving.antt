-- Facts about resolution.
use Rattle.std.proofs.Common.{◌≡◌, ℕ, ◌+◌, ◌<◌, arith, true, ◌&&◌, if◌then◌else◌, List, [], ◌∷◌, take, drop, Option, Some, None, option_map, sym, ap, ◌∙◌, subst, map, Bool, false, refl}
use Rattle.std.specs.Prelude.{option_to_list, slice_get}
use Rattle.std.specs.Borrow.{Bor}
use Rattle.std.specs.List.{AllByRecursion, flat_map, enumerate_from}
use Rattle.std.proofs.lemmas.List.Elements.{All-from_recursion}
use Rattle.std.proofs.lemmas.List.Folds.{flat_map-map}
use Rattle.spl_terms.specs.declared.term.Term.{Term}
use Rattle.spl_terms.specs.declared.atom.Atom.{Atom}
use Rattle.spl_terms.specs.declared.clause.Part.{Part}
use Rattle.spl_terms.specs.declared.clause.Part.TheVariants.{Constraint, Antecedent, Succedent}
use Rattle.spl_terms.specs.declared.clause.Clause.{Clause}
use Rattle.spl_terms.specs.Clauses.{in_order, part_of, atom_variables, replace_in_atom}
use Rattle.spl_truth.specs.Truth.{entry, apply}
use Rattle.spl_truth.specs.TruthLaws.{map-remove}
use Rattle.spl_terms.specs.InOrder.{variables}
use Rattle.spl_terms.specs.VariableLaws.{has}
use Rattle.spl_truth.specs.declared.replace.Subst.{Subst}
use Rattle.dep_sets.specs.Assumptions.{united}
use Rattle.proof_steps.specs.declared.step.Rule.TheVariants.{Resolve}
use Rattle.proof_steps.specs.declared.step.Line.{Line}
use Rattle.proof_steps.specs.Spots.{atom_at}
use Rattle.proof_steps.specs.declared.step.Statement.{Statement}
use Rattle.proof_steps.specs.Steps.{is_negative, both_same, without, joined, may_resolve, resolvent, resolution, has_entries, states}
use Rattle.calculus.specs.Found.{ResolventsAreFound}
use Rattle.calculus.specs.declared.kept.Kept.{Kept}
use Rattle.calculus.specs.Inferences.{clause_of, variables_of_both, first_part, second_part, by_entries, by_unifier_of_both, atom_unifier, eligible_in, renamed_apart, resolve, resolutions}
use Rattle.calculus.specs.LiftingLaws.{atom_below, all_below, renamed_apart_below}
use Rattle.superposition.specs.declared.pairs.Pair.{Pair}
use Rattle.superposition.specs.Words.{plain, IsAtomBelow, AreInPlace, AreLentBelow, line_of_both}
use Rattle.superposition.specs.Pairs.{IsPair}
use Rattle.superposition.proofs.Stating.{stated_line, both_line}
use Rattle.superposition.proofs.Lists.{each_kept, each_placed}

-- ---- instances without an atom

pub apply-without : (part : Part) (j : ℕ) (s : List Term) (c : Clause) → apply s (without part j c) ≡ without part j (apply s c)
apply-without Constraint j s c = λ k. record { constraint = map-remove (entry s) c.constraint j k; antecedent = map (replace_in_atom (entry s)) c.antecedent; succedent = map (replace_in_atom (entry s)) c.succedent }
apply-without Antecedent j s c = λ k. record { constraint = map (replace_in_atom (entry s)) c.constraint; antecedent = map-remove (entry s) c.antecedent j k; succedent = map (replace_in_atom (entry s)) c.succedent }
apply-without Succedent j s c = λ k. record { constraint = map (replace_in_atom (entry s)) c.constraint; antecedent = map (replace_in_atom (entry s)) c.antecedent; succedent = map-remove (entry s) c.succedent j k }

-- ---- lines

module _ (pair : Pair) (known : IsPair pair) (part : Part) (i j : ℕ) (a b : Atom) where
  abbrev p : Kept
  p = pair.p.now

  abbrev q : Kept
  q = pair.q.now

  abbrev lines : Option (List Term) → List Line
  lines = by_unifier_of_both p q (λ s t. Resolve i part j s t)

  whole : (o : Option (List Term)) → atom_unifier pair.both a (renamed_apart p b) ≡ o → resolve part p q (i, a) (j, b) ≡ lines o
  whole o unified = ap lines (ap (λ k. atom_unifier k a (renamed_apart p b)) (sym known.both) ∙ unified)

  pub no_line : atom_unifier pair.both a (renamed_apart p b) ≡ None → [] ≡ resolve part p q (i, a) (j, b)
  no_line none = sym (whole None none)

  pub resolved_line : (u : List Term) (s t : Subst) (made : Option Clause) → atom_unifier pair.both a (renamed_apart p b) ≡ Some u → s.terms ≡ take pair.first u → t.terms ≡ drop pair.first u → option_map in_order made ≡ resolution i part j s.terms t.terms (clause_of p) (clause_of q) →
      option_to_list (option_map (line_of_both p q (Resolve i part j s t)) made) ≡ resolve part p q (i, a) (j, b)
  resolved_line u s t made unified is other e =
      let left : s ≡ first_part p u = ap by_entries (is ∙ ap (λ k. take k u) known.first) in
      let right : t ≡ second_part p u = ap by_entries (other ∙ ap (λ k. drop k u) known.first) in
      let deps = united p.statement.deps q.statement.deps in
      ap option_to_list (both_line p q (Resolve i part j s t) made _ e)
      ∙ (λ k. option_to_list (option_map (stated_line (Resolve i part j (left k) (right k)) (p.number ∷ q.number ∷ [])) (option_map (λ c. states c deps) (resolution i part j (left k).terms (right k).terms (clause_of p) (clause_of q)))))
      ∙ sym (whole (Some u) unified)

  -- no atom of the succedent is resolved with a second one
  none_of : {A B : Type 0} (f : A → B) (g : Clause → A) (c : Clause) (fit : Bool) → option_to_list (option_map f (option_map g (if fit then (if false then Some c else None) else None))) ≡ []
  none_of f g c true = refl
  none_of f g c false = refl

  pub not_negative : is_negative part ≡ false → [] ≡ resolve part p q (i, a) (j, b)
  not_negative succedent = sym (by_unifier (atom_unifier (variables_of_both p q) a (renamed_apart p b)))
    where
      by_unifier : (o : Option (List Term)) → lines o ≡ []
      by_unifier None = refl
      by_unifier (Some u) =
          let s : List Term = (first_part p u).terms in
          let t : List Term = (second_part p u).terms in
          let x : Clause = apply s (clause_of p) in
          let y : Clause = apply t (clause_of q) in
          let stated : Statement → Line = stated_line (Resolve i part j (first_part p u) (second_part p u)) (p.number ∷ q.number ∷ []) in
          let deps = united p.statement.deps q.statement.deps in
          ap (λ n. option_to_list (option_map stated (option_map (λ c. states c deps) (if has_entries s (clause_of p) && has_entries t (clause_of q) then (if n && both_same (slice_get x.succedent i) (slice_get (part_of y part) j) then Some (in_order (resolvent i part j x y)) else None) else None)))) succedent
          ∙ none_of stated (λ c. states c deps) (in_order (resolvent i part j x y)) (has_entries s (clause_of p) && has_entries t (clause_of q))

  -- what a unifier of two literals concludes
  one_of : {A B : Type 0} (f : A → B) (g : Clause → A) (c : Clause) (fit may : Bool) (l : B) → option_to_list (option_map f (option_map g (if fit then (if may then Some c else None) else None))) ≡ l ∷ [] → (if fit then (if may then Some c else None) else None) ≡ Some c
  one_of f g c true true l e = refl
  one_of f g c true false l e = absurd (cc)
  one_of f g c false may l e = absurd (cc)

  pub resolution_is : ResolventsAreFound → is_negative part ≡ true → atom_at Succedent i (clause_of p) ≡ Some a → atom_at part j (clause_of q) ≡ Some b → (u : List Term) (s t : Subst) (made : Clause) → atom_unifier pair.both a (renamed_apart p b) ≡ Some u → s.terms ≡ take pair.first u → t.terms ≡ drop pair.first u → made ≡ joined (apply s.terms (without Succedent i (clause_of p))) (apply t.terms (without part j (clause_of q))) →
      option_map in_order (Some made) ≡ resolution i part j s.terms t.terms (clause_of p) (clause_of q)
  resolution_is law negative here there u s t made unified is other built =
      let left : s ≡ first_part p u = ap by_entries (is ∙ ap (λ k. take k u) known.first) in
      let right : t ≡ second_part p u = ap by_entries (other ∙ ap (λ k. drop k u) known.first) in
      let x : Clause = apply (first_part p u).terms (clause_of p) in
      let y : Clause = apply (second_part p u).terms (clause_of q) in
      let line = law p q known.p_in_order known.q_in_order part negative i j a b u here there (ap (λ k. atom_unifier k a (renamed_apart p b)) (sym known.both) ∙ unified) in
      let found = sym (whole (Some u) unified) ∙ line.1 in
      let all : resolution i part j (first_part p u).terms (second_part p u).terms (clause_of p) (clause_of q) ≡ Some (in_order (resolvent i part j x y)) =
      one_of (stated_line (Resolve i part j (first_part p u) (second_part p u)) (p.number ∷ q.number ∷ [])) (λ c. states c (united p.statement.deps q.statement.deps)) (in_order (resolvent i part j x y)) (has_entries (first_part p u).terms (clause_of p) && has_entries (second_part p u).terms (clause_of q)) (may_resolve i part j x y) line.0 found in
      let same : made ≡ resolvent i part j x y = built
      ∙ (λ k. joined (apply (left k).terms (without Succedent i (clause_of p))) (apply (right k).terms (without part j (clause_of q))))
      ∙ (λ k. joined (apply-without Succedent i (first_part p u).terms (clause_of p) k) (apply-without part j (second_part p u).terms (clause_of q) k)) in
      ap (λ c. Some (in_order c)) same ∙ sym all ∙ (λ k. resolution i part j (sym left k).terms (sym right k).terms (clause_of p) (clause_of q))

-- ---- variables of the atoms

pub atom_fits : (vars : ℕ) (a : Atom) → ((v : ℕ) → has v (atom_variables a) ≡ true → v < vars) → IsAtomBelow vars a
atom_fits vars a h = All-from_recursion (λ v. v < vars) (atom_variables a) (all_below vars (atom_variables a) h)

pub first_below : (pair : Pair) → IsPair pair → (i : ℕ) (a : Atom) → atom_at Succedent i (clause_of pair.p.now) ≡ Some a → IsAtomBelow pair.both a
first_below pair known i a there = atom_fits pair.both a (λ v h. (let low : v < variables (clause_of pair.p.now) = atom_below (clause_of pair.p.now) known.p_in_order Succedent i a there v h in omega (arith, low, known.both)))

pub second_below : (pair : Pair) → IsPair pair → (part : Part) (j : ℕ) (b : Atom) → atom_at part j (clause_of pair.q.now) ≡ Some b → IsAtomBelow pair.both (renamed_apart pair.p.now b)
second_below pair known part j b there = atom_fits pair.both (renamed_apart pair.p.now b) (λ v h. (let low : v < variables_of_both pair.p.now pair.q.now = renamed_apart_below pair.p.now pair.q.now known.q_in_order part j b there v h in omega (arith, low, known.both)))

pub lent : (vars : ℕ) (places : List (ℕ × Bor Atom)) → AllByRecursion (λ x. IsAtomBelow vars x.1) (plain places) → AreLentBelow vars places
lent vars [] h = tt
lent vars (x ∷ places) h = (h.0, lent vars places h.1)

-- ---- atoms at their places

pub all_there : (q : Kept) (part : Part) → AllByRecursion (λ y. atom_at part y.0 (clause_of q) ≡ Some y.1) (enumerate_from 0 (part_of (clause_of q) part))
all_there q part = each_placed (λ y. atom_at part y.0 (clause_of q) ≡ Some y.1) 0 (part_of (clause_of q) part) (λ k a e. (let z : k ≡ 0 + k = omega arith in subst (λ m. atom_at part m (clause_of q) ≡ Some a) z e))

pub eligible_there : (q : Kept) (part : Part) → AllByRecursion (λ y. atom_at part y.0 (clause_of q) ≡ Some y.1) (eligible_in q part)
eligible_there q part = each_kept (λ y. atom_at part y.0 (clause_of q) ≡ Some y.1) _ (enumerate_from 0 (part_of (clause_of q) part)) (all_there q part)

lent_in_place : (c : Clause) (part : Part) (places : List (ℕ × Bor Atom)) → AllByRecursion (λ y. atom_at part y.0 c ≡ Some y.1) (plain places) → AreInPlace c part places
lent_in_place c part [] h = tt
lent_in_place c part (x ∷ places) h = (h.0, lent_in_place c part places h.1)

pub in_place : (q q' : Kept) (part : Part) (places lends : List (ℕ × Bor Atom)) → q' ≡ q → plain places ≡ eligible_in q part → lends ≡ places → AreInPlace (clause_of q') part lends
in_place q q' part places lends this is same =
    subst (λ k. AreInPlace (clause_of k) part lends) (sym this)
    (lent_in_place (clause_of q) part lends (subst (AllByRecursion (λ y. atom_at part y.0 (clause_of q) ≡ Some y.1)) (sym (ap plain same ∙ is)) (eligible_there q part)))

-- ---- the whole list

pub resolutions_are : (part : Part) (p q p' q' : Kept) (places lent_places others lends : List (ℕ × Bor Atom)) → p' ≡ p → q' ≡ q → plain places ≡ eligible_in p Succedent → lent_places ≡ places → plain others ≡ eligible_in q part → lends ≡ others →
    flat_map (λ x. flat_map (λ y. resolve part p' q' (x.0, x.1.now) (y.0, y.1.now)) lends) lent_places ≡ resolutions part p q
resolutions_are part p q p' q' places lent_places others lends this that is same other there =
    (λ k. flat_map (λ x. flat_map (λ y. resolve part (this k) (that k) (x.0, x.1.now) (y.0, y.1.now)) lends) lent_places)
    ∙ sym (flat_map-map (λ x. flat_map (λ y. resolve part p q x (y.0, y.1.now)) lends) (λ x. (x.0, x.1.now)) lent_places)
    ∙ (λ k. flat_map (λ x. flat_map (λ y. resolve part p q x (y.0, y.1.now)) lends) ((ap plain same ∙ is) k))
    ∙ (λ k. flat_map (λ x. inner x k) (eligible_in p Succedent))
  where
    inner : (x : ℕ × Atom) → flat_map (λ y. resolve part p q x (y.0, y.1.now)) lends ≡ flat_map (resolve part p q x) (eligible_in q part)
    inner x = sym (flat_map-map (resolve part p q x) (λ y. (y.0, y.1.now)) lends) ∙ ap (flat_map (resolve part p q x)) (ap plain there ∙ other)
