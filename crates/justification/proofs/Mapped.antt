-- A clause is true wherever an instance of another one is that maps into it, and so is a tautology; by the axioms of symmetry
-- and reflexivity.
use Rattle.std.proofs.Common.{◌≡◌, ◌⊎◌, inl, inr, ℕ, Bool, true, false, not, ◌||◌, List, [], ◌∷◌, refl, sym, ap, ◌∙◌}
use Rattle.std.specs.List.{list_any}
use Rattle.std.proofs.lemmas.Bool.{false≢true, and_parts, or_cases, or_left, or_right}
use Rattle.spl_terms.specs.declared.term.Term.{Term}
use Rattle.spl_terms.specs.declared.atom.Atom.{Atom}
use Rattle.spl_terms.specs.declared.atom.Atom.TheVariants.{Holds, Equal}
use Rattle.spl_terms.specs.declared.clause.Clause.{Clause}
use Rattle.spl_terms.specs.Terms.{replace, term_eq}
use Rattle.spl_terms.specs.TermLaws.{term_eq-true}
use Rattle.spl_terms.specs.Clauses.{is_same, replace_in_atom, replace_in}
use Rattle.spl_terms.specs.SameLaws.{flipped, flipped-replace, same_cases}
use Rattle.spl_truth.specs.Truth.{truth}
use Rattle.spl_truth.specs.Redundancy.{has_equal_sides, is_tautology}
use Rattle.spl_truth.specs.InstanceLaws.{at_each, AllGround, ground-replace, atom-ground}
use Rattle.justification.specs.Tests.{are_mapped, passes_at_parts}
use Rattle.justification.proofs.Forced.{Forced, forced_always, forced_then, forced_both, equally_turned, equal_itself}

true_or_false : (b : Bool) → (b ≡ true) ⊎ (not b ≡ true)
true_or_false true = inl refl
true_or_false false = inr refl

module _ (clauses : List Clause) (g : ℕ → Term) (all : AllGround g) where
  -- the instances of atoms that are the same are equally true
  pub same_forced : (a b : Atom) → is_same a b ≡ true → Forced clauses (λ t. t (replace_in_atom g a) ≡ t (replace_in_atom g b))
  same_forced a b e = elim (same_cases a b e) [
    | inl h ↦ forced_always clauses (λ t. ap (λ x. t (replace_in_atom g x)) h)
    | inr h ↦ forced_then clauses (equally_turned clauses (replace_in_atom g a) (atom-ground g all a)) (λ t k. k ∙ ap t (flipped-replace g a ∙ ap (replace_in_atom g) h))
  ]

  module _ (p : Bool → Bool) where
    -- where the atom passes, one of those passes among which it is the same as one
    pub one_forced : (x : Atom) (into : List Atom) → list_any (is_same x) into ≡ true → Forced clauses (λ t. p (t (replace_in_atom g x)) ≡ true → list_any (λ y. p (t y)) (at_each g into) ≡ true)
    one_forced x [] e = absurd (false≢true e)
    one_forced x (b ∷ into) e = elim (or_cases _ _ e) [
      | inl here ↦ forced_then clauses (same_forced x b here) (λ t h k. or_left _ _ (ap p (sym h) ∙ k))
      | inr there ↦ forced_then clauses (one_forced x into there) (λ t h k. or_right _ _ (h k))
    ]

    pub each_forced : (by : ℕ → Term) (atoms into : List Atom) → are_mapped by atoms into ≡ true → Forced clauses (λ t. list_any (λ y. p (t y)) (at_each g (at_each by atoms)) ≡ true → list_any (λ y. p (t y)) (at_each g into) ≡ true)
    each_forced by [] into e = forced_always clauses (λ t k. absurd (false≢true k))
    each_forced by (a ∷ atoms) into e =
        let here = and_parts _ _ e in
        forced_then clauses (forced_both clauses (one_forced (replace_in_atom by a) into here.0) (each_forced by atoms into here.1))
        (λ t h k. elim (or_cases _ _ k) [ inl first ↦ h.0 first | inr rest ↦ h.1 rest ])

  three : (a b c a' b' c' : Bool) → (a ≡ true → a' ≡ true) → (b ≡ true → b' ≡ true) → (c ≡ true → c' ≡ true) → ((a || b) || c) ≡ true → ((a' || b') || c') ≡ true
  three a b c a' b' c' f h k e = elim (or_cases _ _ e) [
    | inl ab ↦ elim (or_cases _ _ ab) [ inl x ↦ or_left _ _ (or_left _ _ (f x)) | inr y ↦ or_left _ _ (or_right _ _ (h y)) ]
    | inr z ↦ or_right _ _ (k z)
  ]

  -- what a clause maps into is true wherever its instance is
  pub mapped_forced : (by : ℕ → Term) (d c : Clause) → passes_at_parts (are_mapped by) d c ≡ true → Forced clauses (λ t. truth t (replace_in g (replace_in by d)) ≡ true → truth t (replace_in g c) ≡ true)
  mapped_forced by d c e =
      let parts = and_parts _ _ e in
      let before = and_parts _ _ parts.0 in
      forced_then clauses
      (forced_both clauses (forced_both clauses (each_forced not by d.constraint c.constraint before.0) (each_forced not by d.antecedent c.antecedent before.1)) (each_forced (λ b. b) by d.succedent c.succedent parts.1))
      (λ t h. three _ _ _ _ _ _ h.0.0 h.0.1 h.1)

  -- ---- tautologies

  equal_forced : (a : Atom) → has_equal_sides a ≡ true → Forced clauses (λ t. t (replace_in_atom g a) ≡ true)
  equal_forced (Holds p ts) e = absurd (false≢true e)
  equal_forced (Equal l r) e =
      forced_then clauses (equal_itself clauses (replace g l) (ground-replace g all l))
      (λ t h. ap (λ x. t (Equal (replace g l) (replace g x))) (sym (term_eq-true l r e)) ∙ h)

  module _ (constraint antecedent : List Atom) where
    abbrev Before : (Atom → Bool) → Bool
    Before t = list_any (λ y. not (t y)) (at_each g constraint) || list_any (λ y. not (t y)) (at_each g antecedent)

    abbrev Some : (Atom → Bool) → List Atom → Bool
    Some t succedent = Before t || list_any t (at_each g succedent)

    one_more : (n x s : Bool) → (n || s) ≡ true → (n || (x || s)) ≡ true
    one_more true x s e = refl
    one_more false true s e = refl
    one_more false false s e = e

    succedent_forced : (succedent : List Atom) → list_any (λ a. list_any (is_same a) antecedent || list_any (is_same a) constraint || has_equal_sides a) succedent ≡ true → Forced clauses (λ t. Some t succedent ≡ true)
    succedent_forced [] e = absurd (false≢true e)
    succedent_forced (a ∷ succedent) e = elim (or_cases _ _ e) [
      | inl here ↦ elim (or_cases _ _ here) [
        | inl side ↦ elim (or_cases _ _ side) [
          | inl one ↦ forced_then clauses (one_forced not a antecedent one) (λ t h. elim (true_or_false (t (replace_in_atom g a))) [
            | inl yes' ↦ or_right _ _ (or_left _ _ yes')
            | inr no' ↦ or_left _ _ (or_right _ _ (h no'))
          ])
          | inr one ↦ forced_then clauses (one_forced not a constraint one) (λ t h. elim (true_or_false (t (replace_in_atom g a))) [
            | inl yes' ↦ or_right _ _ (or_left _ _ yes')
            | inr no' ↦ or_left _ _ (or_left _ _ (h no'))
          ])
        ]
        | inr equal ↦ forced_then clauses (equal_forced a equal) (λ t h. or_right _ _ (or_left _ _ h))
      ]
      | inr there ↦ forced_then clauses (succedent_forced succedent there) (λ t h. one_more (Before t) (t (replace_in_atom g a)) (list_any t (at_each g succedent)) h)
    ]

  pub tautology_forced : (c : Clause) → is_tautology c ≡ true → Forced clauses (λ t. truth t (replace_in g c) ≡ true)
  tautology_forced c e = succedent_forced c.constraint c.antecedent c.succedent e
