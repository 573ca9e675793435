-- Paramodulation of two clauses under substitutions, by the clauses themselves.
use Rattle.std.proofs.Common.{◌≡◌, ℕ, zero, suc, ◌<◌, Bool, List, [], ◌∷◌, ◌++◌, length, fold, Option, Some, option_map, option_and_then, sum_by, refl, sym, ap, ◌∙◌, subst}
use Rattle.std.specs.Prelude.{slice_get}
use Rattle.std.proofs.lemmas.Option.{slice_get-map}
use Rattle.spl_terms.specs.declared.term.Term.{Term}
use Rattle.spl_terms.specs.declared.atom.Atom.{Atom}
use Rattle.spl_terms.specs.declared.clause.Part.{Part}
use Rattle.spl_terms.specs.declared.clause.Part.TheVariants.{Constraint, Antecedent, Succedent}
use Rattle.spl_terms.specs.declared.clause.Spot.{Spot}
use Rattle.spl_terms.specs.declared.clause.Clause.{Clause}
use Rattle.spl_terms.specs.Terms.{term_eq, replace}
use Rattle.spl_terms.specs.Clauses.{atom_symbols, clause_symbols, added, distinct, part_of, replace_in_atom, in_order}
use Rattle.spl_truth.specs.Truth.{entry, apply}
use Rattle.proof_steps.specs.Spots.{changed_at, with_part, term_under, with_term_under, with_term_at, atom_at}
use Rattle.proof_steps.specs.Steps.{when, without, joined, rewritten, paramodulated}
use Rattle.proof_steps.proofs.Rules.{sides_there}
use Rattle.proof_steps.proofs.Distinct.{large_constraint, large_antecedent, large_succedent}
use Rattle.proof_steps.proofs.Pieces.{large-atom, large_both}
use Rattle.proof_steps.proofs.JoinedParts.{at_entries, part_of-apply}
use Rattle.proof_steps.proofs.Under.{both_sides, sides-under, succedent-apply}

-- ---- what is concluded

module _ (i : ℕ) (right : Bool) (spot : Spot) (s t : List Term) (p q : Clause) where
  abbrev pub concluded : Term → Clause
  concluded r = joined (without Succedent i (apply s p)) (with_term_at spot (replace (entry s) r) (apply t q))

  abbrev whole : Option Clause
  whole = paramodulated i right spot (apply s p) (apply t q)

  from_sides : (o : Option (Term × Term)) → sides_there right i p ≡ o → whole ≡ option_and_then (rewritten i spot (apply s p) (apply t q)) (option_map (both_sides s) o)
  from_sides o e = ap (option_and_then (rewritten i spot (apply s p) (apply t q))) (sides-under s right i p ∙ ap (option_map (both_sides s)) e)

  there : atom_at spot.part spot.place (apply t q) ≡ option_map (replace_in_atom (entry t)) (slice_get (part_of q spot.part) spot.place)
  there = ap (λ xs. slice_get xs spot.place) (part_of-apply t q spot.part) ∙ slice_get-map (replace_in_atom (entry t)) (part_of q spot.part) spot.place

  module _ (l r : Term) (sides : sides_there right i p ≡ Some (l, r)) where
    abbrev chosen : Term → Option Clause
    chosen u = when (term_eq u (replace (entry s) l)) (in_order (concluded r))

    at_atom : (o : Option Atom) → slice_get (part_of q spot.part) spot.place ≡ o → whole ≡ option_and_then chosen (option_and_then (term_under spot.path) (option_map (replace_in_atom (entry t)) o))
    at_atom o e = from_sides (Some (l, r)) sides ∙ ap (λ a. option_and_then chosen (option_and_then (term_under spot.path) a)) (there ∙ ap (option_map (replace_in_atom (entry t))) e)

    module _ (a : Atom) (atom : slice_get (part_of q spot.part) spot.place ≡ Some a) where
      pub by_test : (u : Term) (b : Bool) → term_under spot.path (replace_in_atom (entry t) a) ≡ Some u → b ≡ term_eq u (replace (entry s) l) → whole ≡ when b (in_order (concluded r))
      by_test u b e same = at_atom (Some a) atom ∙ ap (option_and_then chosen) e ∙ ap (λ x. when x (in_order (concluded r))) (sym same)

-- ---- an atom that is changed

changed-here : (f : Atom → Atom) (xs : List Atom) (k : ℕ) (x : Atom) → slice_get xs k ≡ Some x → changed_at k (λ a. f x) xs ≡ changed_at k f xs
changed-here f [] k x e = refl
changed-here f (y ∷ xs) zero x e = let h : y ≡ x = cc in ap (λ z. f z ∷ xs) (sym h)
changed-here f (y ∷ xs) (suc k) x e = ap (λ l. y ∷ l) (changed-here f xs k x e)

with_part-here : (f : Atom → Atom) (part : Part) (c : Clause) (k : ℕ) (x : Atom) → slice_get (part_of c part) k ≡ Some x → with_part (changed_at k (λ a. f x)) part c ≡ with_part (changed_at k f) part c
with_part-here f Constraint c k x e = ap (λ l. record c { constraint = l }) (changed-here f c.constraint k x e)
with_part-here f Antecedent c k x e = ap (λ l. record c { antecedent = l }) (changed-here f c.antecedent k x e)
with_part-here f Succedent c k x e = ap (λ l. record c { succedent = l }) (changed-here f c.succedent k x e)

-- ---- the parts of the second clause

with_part-same : (f : List Atom → List Atom) (part : Part) (c : Clause) → part_of (with_part f part c) part ≡ f (part_of c part)
with_part-same f Constraint c = refl
with_part-same f Antecedent c = refl
with_part-same f Succedent c = refl

module _ (t : List Term) (q : Clause) (spot : Spot) (y : Atom) where
  abbrev pub with_changed : Clause
  with_changed = with_part (changed_at spot.place (λ a. y)) spot.part (apply t q)

  pub in_spot : part_of with_changed spot.part ≡ changed_at spot.place (λ a. y) (at_entries t (part_of q spot.part))
  in_spot = with_part-same (changed_at spot.place (λ a. y)) spot.part (apply t q) ∙ ap (changed_at spot.place (λ a. y)) (part_of-apply t q spot.part)

-- ---- the conclusion

module _ (i : ℕ) (spot : Spot) (s t : List Term) (p q : Clause) (r : Term) (a : Atom) where
  abbrev new_atom : Atom
  new_atom = with_term_under spot.path (replace (entry s) r) (replace_in_atom (entry t) a)

  abbrev conclusion : Clause
  conclusion = joined (without Succedent i (apply s p)) (with_term_at spot (replace (entry s) r) (apply t q))

  abbrev by_atom : Clause → Clause
  by_atom rest = joined (apply s rest) (with_part (changed_at spot.place (λ b. new_atom)) spot.part (apply t q))

  there_too : slice_get (part_of q spot.part) spot.place ≡ Some a → slice_get (part_of (apply t q) spot.part) spot.place ≡ Some (replace_in_atom (entry t) a)
  there_too e = ap (λ xs. slice_get xs spot.place) (part_of-apply t q spot.part) ∙ slice_get-map (replace_in_atom (entry t)) (part_of q spot.part) spot.place ∙ ap (option_map (replace_in_atom (entry t))) e

  pub conclusion_is : slice_get (part_of q spot.part) spot.place ≡ Some a → by_atom (without Succedent i p) ≡ conclusion
  conclusion_is e =
      let own = sym (succedent-apply s i p) in
      let other = with_part-here (with_term_under spot.path (replace (entry s) r)) spot.part (apply t q) spot.place (replace_in_atom (entry t) a) (there_too e) in
      λ k. joined (own k) (other k)

  large_part : (d : Clause) (part : Part) → 4096 < sum_by atom_symbols (distinct (part_of d part)) → 4096 < clause_symbols (in_order d)
  large_part d Constraint h = large_constraint d h
  large_part d Antecedent h = large_antecedent d h
  large_part d Succedent h = large_succedent d h

  part_of-joined : (x y : Clause) (part : Part) → part_of (joined x y) part ≡ part_of x part ++ part_of y part
  part_of-joined x y Constraint = refl
  part_of-joined x y Antecedent = refl
  part_of-joined x y Succedent = refl

  -- where the changed atom is too large, the conclusion is
  pub large_changed : slice_get (part_of q spot.part) spot.place ≡ Some a → spot.place < length (part_of q spot.part) → 4096 < atom_symbols new_atom → 4096 < clause_symbols (in_order conclusion)
  large_changed e below h =
      let d : Clause = by_atom (without Succedent i p) in
      let own : List Atom = part_of (apply s (without Succedent i p)) spot.part in
      let listed : part_of d spot.part ≡ own ++ changed_at spot.place (λ b. new_atom) (at_entries t (part_of q spot.part)) =
      part_of-joined (apply s (without Succedent i p)) (with_changed t q spot new_atom) spot.part ∙ ap (λ l. own ++ l) (in_spot t q spot new_atom) in
      let kept = large-atom (replace_in_atom (entry t)) (part_of q spot.part) (fold added [] own) spot.place new_atom below h in
      let large = large_both own (changed_at spot.place (λ b. new_atom) (at_entries t (part_of q spot.part))) kept in
      subst (λ (c : Clause). 4096 < clause_symbols (in_order c)) (conclusion_is e)
      (large_part d spot.part (subst (λ l. 4096 < sum_by atom_symbols (distinct l)) (sym listed) large))
