-- What the order refuses whatever the unifier, since the sides stand below each other as they are.
use Rattle.std.proofs.Common.{◌≡◌, ℕ, zero, suc, ◌+◌, Bool, true, false, ◌&&◌, ◌==◌, List, [], ◌∷◌, ◌++◌, Option, Some, None, option_and_then, refl, sym, ap, ◌∙◌}
use Rattle.std.specs.Prelude.{not}
use Rattle.std.specs.Borrow.{Bor}
use Rattle.std.specs.List.{flat_map}
use Rattle.std.proofs.Math.Bool.{and-false}
use Rattle.std.proofs.lemmas.Bool.{false≢true}
use Rattle.std.proofs.lemmas.List.Folds.{flat_map-map}
use Rattle.spl_terms.specs.declared.term.Term.{Term, Var}
use Rattle.spl_terms.specs.declared.atom.Atom.{Atom}
use Rattle.spl_terms.specs.declared.atom.Atom.TheVariants.{Holds, Equal}
use Rattle.spl_terms.specs.declared.clause.Part.{Part}
use Rattle.spl_terms.specs.declared.clause.Part.TheVariants.{Antecedent, Succedent}
use Rattle.spl_terms.specs.Terms.{replace}
use Rattle.spl_terms.specs.InOrder.{variables}
use Rattle.spl_truth.specs.InstanceLaws.{replace-replace}
use Rattle.spl_truth.specs.Truth.{entry}
use Rattle.spl_truth.specs.Unifiers.{unifier}
use Rattle.spl_truth.specs.Orders.{is_below, is_not_below}
use Rattle.proof_steps.specs.declared.step.Rule.TheVariants.{Paramodulate, EqFactor}
use Rattle.proof_steps.specs.declared.step.Line.{Line}
use Rattle.proof_steps.specs.Spots.{atom_at, term_under}
use Rattle.proof_steps.specs.Steps.{when}
use Rattle.calculus.specs.declared.kept.Kept.{Kept}
use Rattle.calculus.specs.Inferences.{Reading, clause_of, variables_of_both, renamed_apart, by_unifier, by_unifier_of_both, rewriting_unifier, paths_in, paths_of, is_upper_side, superpose, factor_equation}
use Rattle.superposition.specs.declared.equations.Equation.{Equation}
use Rattle.superposition.specs.declared.rewriting.Rewriting.{Rewriting}
use Rattle.superposition.specs.declared.ordering.Standing.TheVariants.{Upper, Lower}
use Rattle.superposition.specs.Pairs.{raised}
use Rattle.superposition.specs.Readings.{reading_of, factor_apart}
use Rattle.superposition.specs.Standings.{IsStanding}
use Rattle.superposition.specs.Walks.{raised_atom, superpose_lent, superpose_in_parts, rewrite, rewrite_argument}
use Rattle.superposition.proofs.Alone.{none_either_way}

-- whatever the unifier, the first term is below the second one
abbrev IsAlwaysBelow : Term → Term → Type 0
IsAlwaysBelow l r = (u : List Term) → is_not_below u l r ≡ false

pub lower_always : (l r : Term) → IsStanding Lower l r → IsAlwaysBelow l r
lower_always l r low u = ap not (low (entry u))

-- instances of raised terms are instances of the terms
raised_instance : (h : ℕ → Term) (lift : ℕ) (t : Term) → replace h (raised lift t) ≡ replace (λ v. replace h (Var (lift + v))) t
raised_instance h lift t = replace-replace h (λ v. Var (lift + v)) t

pub lower_raised : (lift : ℕ) (l r : Term) → IsStanding Lower l r → (u : List Term) → is_not_below u (raised lift l) (raised lift r) ≡ false
lower_raised lift l r low u = ap not ((λ k. is_below (raised_instance (entry u) lift l k) (raised_instance (entry u) lift r k)) ∙ low (λ v. replace (entry u) (Var (lift + v))))

pub upper_raised : (lift : ℕ) (l r : Term) → IsStanding Upper l r → (u : List Term) → is_not_below u (raised lift l) (raised lift r) ≡ true
upper_raised lift l r high u = ap not ((λ k. is_below (raised_instance (entry u) lift l k) (raised_instance (entry u) lift r k)) ∙ high (λ v. replace (entry u) (Var (lift + v))))

none_kept : (f : List Term → Bool) → ((u : List Term) → f u ≡ false) → (o : Option (List Term)) → option_and_then (λ u. when (f u) u) o ≡ None
none_kept f h None = refl
none_kept f h (Some u) = ap (λ t. when t u) (h u)

all_empty : {X : Type 0} (f : X → List Line) (xs : List X) → ((x : X) → f x ≡ []) → flat_map f xs ≡ []
all_empty f [] h = refl
all_empty f (x ∷ xs) h = λ i. h x i ++ all_empty f xs h i

-- ---- superposition

none_there : (p q : Kept) (e : Reading) (part : Part) (place : ℕ) (path : List ℕ) (o : Option Atom) → ((b : Atom) (u : List Term) → o ≡ Some b → (is_not_below u e.left_side e.right_side && is_upper_side u (renamed_apart p b) path) ≡ false) → option_and_then (λ b. rewriting_unifier (variables_of_both p q) e (renamed_apart p b) path) o ≡ None
none_there p q e part place path None h = refl
none_there p q e part place path (Some b) h = none_kept (λ u. is_not_below u e.left_side e.right_side && is_upper_side u (renamed_apart p b) path) (λ u. h b u refl) (option_and_then (unifier (variables_of_both p q) e.left_side) (term_under path (renamed_apart p b)))

refused : (p q : Kept) (e : Reading) (part : Part) (place : ℕ) (path : List ℕ) → ((b : Atom) (u : List Term) → atom_at part place (clause_of q) ≡ Some b → (is_not_below u e.left_side e.right_side && is_upper_side u (renamed_apart p b) path) ≡ false) → superpose p q e (record { part = part; place = place; path = path }) ≡ []
refused p q e part place path h =
    ap (by_unifier_of_both p q (λ s t. Paramodulate e.place e.right (record { part = part; place = place; path = path }) s t))
    (none_there p q e part place path (atom_at part place (clause_of q)) h)

pub equation_skipped : (p q : Kept) (antecedent succedent : List (ℕ × Bor Atom)) (e : Reading) → IsStanding Lower e.left_side e.right_side → [] ≡ superpose_in_parts p q antecedent succedent e
equation_skipped p q antecedent succedent e low = sym (λ i. in_part Antecedent antecedent i ++ in_part Succedent succedent i)
  where
    in_part : (part : Part) (atoms : List (ℕ × Bor Atom)) → flat_map (superpose_lent p q e part) atoms ≡ []
    in_part part atoms = all_empty (superpose_lent p q e part) atoms (λ y. all_empty (λ path. superpose p q e (record { part = part; place = y.0; path = path })) (paths_of y.1.now) (λ path. refused p q e part y.0 path (λ b u there. ap (λ x. x && is_upper_side u (renamed_apart p b) path) (lower_always e.left_side e.right_side low u))))

module _ (r : Rewriting) (side : ℕ) (term : Term) (there : atom_at r.part r.place (clause_of r.pair.q.now) ≡ Some r.atom.now) (lower : (u : List Term) (path : List ℕ) → is_upper_side u (raised_atom r) (side ∷ path) ≡ false) where
  same_atom : (b : Atom) → atom_at r.part r.place (clause_of r.pair.q.now) ≡ Some b → r.atom.now ≡ b
  same_atom b e = let both : Some r.atom.now ≡ Some b = sym there ∙ e in cc

  -- a side that is below the other one
  pub side_skipped : [] ≡ rewrite_argument r [] (side, term)
  side_skipped = sym (
      flat_map-map (rewrite r) (λ rest. side ∷ rest) (paths_in term)
      ∙ all_empty (λ rest. rewrite r (side ∷ rest)) (paths_in term) (λ rest. refused r.pair.p.now r.pair.q.now (reading_of r.equation) r.part r.place (side ∷ rest)
      (λ b u e. ap (λ x. is_not_below u r.equation.left_side.now r.equation.right_side.now && x) (ap (λ a. is_upper_side u (renamed_apart r.pair.p.now a) (side ∷ rest)) (sym (same_atom b e)) ∙ lower u rest) ∙ and-false _)))

-- ---- which side is upper

-- a longer path lies in the same side
pub upper_deeper : (a : Atom) (path : List ℕ) (k : ℕ) → ((u : List Term) → is_upper_side u a path ≡ true) → (u : List Term) → is_upper_side u a (path ++ k ∷ []) ≡ true
upper_deeper (Holds f ts) path k h u = refl
upper_deeper (Equal s t) [] k h u = absurd (false≢true (h []))
upper_deeper (Equal s t) (zero ∷ path) k h u = h u
upper_deeper (Equal s t) (suc j ∷ path) k h u = h u

-- ---- equality factoring

pub factoring_skipped : (p : Kept) (e : Reading) (others : List Equation) → IsStanding Lower e.left_side e.right_side → [] ≡ flat_map (λ d. factor_apart p e (reading_of d)) others
factoring_skipped p e others low = sym (all_empty (λ d. factor_apart p e (reading_of d)) others (λ d. sym (none_either_way (not (d.place == e.place)) (factor_equation p e (reading_of d))
    (ap (by_unifier p (EqFactor e.place e.right d.place d.right)) (none_kept (λ u. is_not_below u e.left_side e.right_side) (lower_always e.left_side e.right_side low) (unifier (variables (clause_of p)) e.left_side d.left_side.now))))))
