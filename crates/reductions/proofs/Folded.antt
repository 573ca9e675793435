-- A clause can be condensed exactly where it is mapped into itself without one of its atoms.
use Rattle.std.proofs.Common.{◌≡◌, inl, inr, ℕ, ◌+◌, ◌<◌, ◌≤◌, nat_lt, Bool, true, false, List, ◌++◌, length, map, Some, refl, sym, ap, subst, ◌∙◌, arith, length-append}
use Rattle.std.specs.Prelude.{slice_get, option_map}
use Rattle.std.proofs.lemmas.Option.{slice_get-map, slice_get_within}
use Rattle.std.specs.List.{remove}
use Rattle.std.proofs.lemmas.Bool.{or_cases, or_right, false≢true, ltb-true, ltb-false}
use Rattle.std.proofs.lemmas.List.{length-map}
use Rattle.std.proofs.lemmas.List.Edits.{length-remove}
use Rattle.spl_terms.specs.declared.term.Term.{Term, Var}
use Rattle.spl_terms.specs.declared.atom.Atom.{Atom}
use Rattle.spl_terms.specs.declared.clause.Part.{Part}
use Rattle.spl_terms.specs.declared.clause.Part.TheVariants.{Constraint, Antecedent, Succedent}
use Rattle.spl_terms.specs.declared.clause.Clause.{Clause}
use Rattle.spl_terms.specs.Terms.{replace}
use Rattle.spl_terms.specs.Clauses.{atoms_of, at_lists, distinct, in_order, is_same, number_in, part_of, renumbered, replace_in_atom}
use Rattle.spl_terms.specs.InOrder.{are_different, IsInOrder}
use Rattle.spl_terms.specs.InOrderLaws.{distinct-different}
use Rattle.spl_terms.specs.ListLaws.{get-there}
use Rattle.spl_terms.specs.SameLaws.{same_self, same_turned}
use Rattle.spl_truth.specs.Truth.{entry, apply}
use Rattle.spl_truth.specs.TruthLaws.{any-remove}
use Rattle.spl_truth.specs.InstanceLaws.{atom-replace-replace}
use Rattle.spl_truth.specs.MappingLaws.{maps-apart}
use Rattle.spl_truth.specs.Redundancy.{Subsumes}
use Rattle.proof_steps.specs.Steps.{without}
use Rattle.reductions.specs.Folding.{Folds, FoldsSomewhere}
use Rattle.reductions.specs.Lines.{IsCondensed}
use Rattle.reductions.proofs.Apart.{distinct_part, replaced_part, standing_subsumes}
use Rattle.reductions.proofs.Members.{among, among_at, among_as, among_each, among_distinct, among_replace, as_many_at_most, instance_there, missing}

-- ---- parts

pub length-atoms : (c : Clause) → length (atoms_of c) ≡ length c.constraint + length c.antecedent + length c.succedent
length-atoms c = length-append (c.constraint ++ c.antecedent) c.succedent ∙ ap (λ n. n + length c.succedent) (length-append c.constraint c.antecedent)

pub length-renumbered : (c : Clause) → length (atoms_of (renumbered c)) ≡ length (atoms_of c)
length-renumbered c =
    let h : ℕ → Term = λ v. Var (number_in c v) in
    length-atoms (renumbered c)
    ∙ (λ i. length-map c.constraint (replace_in_atom h) i + length-map c.antecedent (replace_in_atom h) i + length-map c.succedent (replace_in_atom h) i)
    ∙ sym (length-atoms c)

-- ---- without an atom

module _ (e : Clause) (part : Part) (place : ℕ) (there : place < length (part_of e part)) where
  pub fewer_left : length (atoms_of (without part place e)) + 1 ≡ length (atoms_of e)
  fewer_left = by_part part there
    where
      by_part : (part : Part) → place < length (part_of e part) → length (atoms_of (without part place e)) + 1 ≡ length (atoms_of e)
      by_part Constraint low = omega (arith, length-atoms (without Constraint place e), length-atoms e, length-remove e.constraint place low)
      by_part Antecedent low = omega (arith, length-atoms (without Antecedent place e), length-atoms e, length-remove e.antecedent place low)
      by_part Succedent low = omega (arith, length-atoms (without Succedent place e), length-atoms e, length-remove e.succedent place low)

  -- what is left was there
  pub left_among : (q : Part) (a : Atom) → among a (part_of (without part place e) q) ≡ true → among a (part_of e q) ≡ true
  left_among = by_part part there
    where
      in_list : (xs : List Atom) → place < length xs → (a : Atom) → among a (remove xs place) ≡ true → among a xs ≡ true
      in_list xs low a h = (let x = get-there xs place low in any-remove (is_same a) xs place x.0 x.1 ∙ or_right (is_same a x.0) _ h)

      by_part : (part : Part) → place < length (part_of e part) → (q : Part) (a : Atom) → among a (part_of (without part place e) q) ≡ true → among a (part_of e q) ≡ true
      by_part Constraint low Constraint a h = in_list e.constraint low a h
      by_part Constraint low Antecedent a h = h
      by_part Constraint low Succedent a h = h
      by_part Antecedent low Constraint a h = h
      by_part Antecedent low Antecedent a h = in_list e.antecedent low a h
      by_part Antecedent low Succedent a h = h
      by_part Succedent low Constraint a h = h
      by_part Succedent low Antecedent a h = h
      by_part Succedent low Succedent a h = in_list e.succedent low a h

  -- what was there is left, unless it is the same as the one that is taken out
  pub among_left : (x : Atom) → slice_get (part_of e part) place ≡ Some x → (q : Part) (a : Atom) → ((q ≡ part) → is_same a x ≡ true → ⊥) → among a (part_of e q) ≡ true → among a (part_of (without part place e) q) ≡ true
  among_left = by_part part
    where
      in_list : (xs : List Atom) (x : Atom) → slice_get xs place ≡ Some x → (a : Atom) → (is_same a x ≡ true → ⊥) → among a xs ≡ true → among a (remove xs place) ≡ true
      in_list xs x is a other h = elim (or_cases _ _ (sym (any-remove (is_same a) xs place x is) ∙ h)) [
        | inl here ↦ absurd (other here)
        | inr there ↦ there
      ]

      by_part : (part : Part) (x : Atom) → slice_get (part_of e part) place ≡ Some x → (q : Part) (a : Atom) → ((q ≡ part) → is_same a x ≡ true → ⊥) → among a (part_of e q) ≡ true → among a (part_of (without part place e) q) ≡ true
      by_part Constraint x is Constraint a other h = in_list e.constraint x is a (other refl) h
      by_part Constraint x is Antecedent a other h = h
      by_part Constraint x is Succedent a other h = h
      by_part Antecedent x is Constraint a other h = h
      by_part Antecedent x is Antecedent a other h = in_list e.antecedent x is a (other refl) h
      by_part Antecedent x is Succedent a other h = h
      by_part Succedent x is Constraint a other h = h
      by_part Succedent x is Antecedent a other h = h
      by_part Succedent x is Succedent a other h = in_list e.succedent x is a (other refl) h

-- ---- where a clause is mapped so, the instance condenses it

module _ (e : Clause) (o : IsInOrder e) (s : List Term) (part : Part) (place : ℕ) (f : Folds (entry s) part place e) where
  abbrev kept : Clause
  kept = at_lists distinct (apply s e)

  abbrev left : Clause
  left = without part place e

  kept_part : (p : Part) → part_of kept p ≡ distinct (map (replace_in_atom (entry s)) (part_of e p))
  kept_part p = distinct_part (apply s e) p ∙ ap distinct (replaced_part (entry s) e p)

  kept_among : (p : Part) (a : Atom) → among a (part_of kept p) ≡ true → among a (part_of left p) ≡ true
  kept_among p a h =
      among_each a (map (replace_in_atom (entry s)) (part_of e p)) (part_of left p)
      (λ k b is. let x = instance_there (replace_in_atom (entry s)) (part_of e p) k b is in subst (λ c. among c (part_of left p) ≡ true) x.2 (f.maps p k x.0 x.1))
      (sym (among_distinct a (map (replace_in_atom (entry s)) (part_of e p))) ∙ ap (among a) (sym (kept_part p)) ∙ h)

  kept_few : (p : Part) → length (part_of kept p) ≤ length (part_of left p)
  kept_few p = as_many_at_most (part_of kept p) (part_of left p) (ap are_different (kept_part p) ∙ distinct-different (map (replace_in_atom (entry s)) (part_of e p))) (kept_among p)

  pub folded_fewer : length (atoms_of (in_order (apply s e))) < length (atoms_of e)
  folded_fewer = omega (arith, length-renumbered kept, length-atoms kept, length-atoms left, kept_few Constraint, kept_few Antecedent, kept_few Succedent, fewer_left e part place f.there)

  pub folded_subsumes : Subsumes (in_order (apply s e)) e
  folded_subsumes = standing_subsumes (apply s e) e (λ p k b is. (
      let x = instance_there (replace_in_atom (entry s)) (part_of e p) k b (ap (λ l. slice_get l k) (sym (replaced_part (entry s) e p)) ∙ is) in
      left_among e part place f.there p b (subst (λ c. among c (part_of left p) ≡ true) x.2 (f.maps p k x.0 x.1))))

-- ---- where it can be condensed, it is mapped so

module _ (e : Clause) (o : IsInOrder e) (s : List Term) (fewer : length (atoms_of (in_order (apply s e))) < length (atoms_of e)) (sub : Subsumes (in_order (apply s e)) e) where
  abbrev condensed : Clause
  condensed = at_lists distinct (apply s e)

  abbrev names : ℕ → Term
  names v = Var (number_in condensed v)

  abbrev whole : ℕ → Term
  whole v = replace sub.by (replace names (entry s v))

  abbrev images : Part → List Atom
  images p = map (replace_in_atom sub.by) (part_of (renumbered condensed) p)

  whole_atom : (a : Atom) → replace_in_atom sub.by (replace_in_atom names (replace_in_atom (entry s) a)) ≡ replace_in_atom whole a
  whole_atom a = ap (replace_in_atom sub.by) (atom-replace-replace names (entry s) a) ∙ atom-replace-replace sub.by (λ v. replace names (entry s v)) a

  image_among : (p : Part) (k : ℕ) (a : Atom) → slice_get (part_of e p) k ≡ Some a → among (replace_in_atom whole a) (images p) ≡ true
  image_among p k a is =
      let x = replace_in_atom (entry s) a in
      let there : slice_get (map (replace_in_atom (entry s)) (part_of e p)) k ≡ Some x = slice_get-map (replace_in_atom (entry s)) (part_of e p) k ∙ ap (option_map (replace_in_atom (entry s))) is in
      let first : among x (part_of condensed p) ≡ true = ap (among x) (distinct_part (apply s e) p ∙ ap distinct (replaced_part (entry s) e p)) ∙ among_distinct x (map (replace_in_atom (entry s)) (part_of e p)) ∙ among_at x x (map (replace_in_atom (entry s)) (part_of e p)) k there (same_self x) in
      let second : among (replace_in_atom names x) (part_of (renumbered condensed) p) ≡ true = ap (among (replace_in_atom names x)) (replaced_part names condensed p) ∙ among_replace names x (part_of condensed p) first in
      subst (λ y. among y (images p) ≡ true) (whole_atom a) (among_replace sub.by (replace_in_atom names x) (part_of (renumbered condensed) p) second)

  image_in : (p : Part) (a : Atom) → among a (images p) ≡ true → among a (part_of e p) ≡ true
  image_in p a h =
      let maps = ((maps-apart sub.by (part_of (renumbered condensed) p) (part_of e p) (o.different p)).0 (sub.each p)).0 in
      among_each a (images p) (part_of e p) (λ k b is. let x = instance_there (replace_in_atom sub.by) (part_of (renumbered condensed) p) k b is in subst (λ c. among c (part_of e p) ≡ true) x.2 (maps k x.0 x.1)) h

  few_images : (p : Part) → length (images p) ≡ length (part_of (renumbered condensed) p)
  few_images p = length-map (part_of (renumbered condensed) p) (replace_in_atom sub.by)

  at_part : (p : Part) → length (images p) < length (part_of e p) → FoldsSomewhere whole e
  at_part p less =
      let m = missing (part_of e p) (images p) (o.different p) less in
      let low : m.0 < length (part_of e p) = slice_get_within (part_of e p) m.0 m.1 m.2 in (
        p,
        m.0,
        record {
          there = low;
          maps = λ q k a is. among_left e p m.0 low m.1 m.2 q (replace_in_atom whole a)
              (λ same x. false≢true (sym m.3 ∙ among_as m.1 (replace_in_atom whole a) (images p) (same_turned (replace_in_atom whole a) m.1 x) (subst (λ r. among (replace_in_atom whole a) (images r) ≡ true) same (image_among q k a is))))
              (image_in q (replace_in_atom whole a) (image_among q k a is));
        },
      )

  pub condensed_folds : FoldsSomewhere whole e
  condensed_folds = by_tests (nat_lt (length (images Constraint)) (length e.constraint)) (nat_lt (length (images Antecedent)) (length e.antecedent)) refl refl
    where
      by_tests : (a b : Bool) → nat_lt (length (images Constraint)) (length e.constraint) ≡ a → nat_lt (length (images Antecedent)) (length e.antecedent) ≡ b → FoldsSomewhere whole e
      by_tests true b p q = at_part Constraint (ltb-true _ _ p)
      by_tests false true p q = at_part Antecedent (ltb-true _ _ q)
      by_tests false false p q =
          at_part Succedent (omega (arith, ltb-false _ _ p, ltb-false _ _ q, length-atoms (renumbered condensed), length-atoms e, few_images Constraint, few_images Antecedent, few_images Succedent, fewer))

pub nothing_folds : (e : Clause) → IsInOrder e → ((g : ℕ → Term) → FoldsSomewhere g e → ⊥) → IsCondensed e
nothing_folds e o never s _ fewer sub = never (whole e o s fewer sub) (condensed_folds e o s fewer sub)
