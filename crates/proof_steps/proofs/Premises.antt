-- What sets of assumptions assume: more where there are more assumptions.
use Rattle.std.proofs.Common.{◌≡◌, ◌⊎◌, inl, inr, ℕ, suc, Bool, true, false, not, ◌&&◌, ◌||◌, List, [], ◌∷◌, ◌++◌, Contains, Some, option_map, option_and_then, refl, sym, ap, subst, ◌∙◌, arith}
use Rattle.std.specs.Option.{option_map_or}
use Rattle.std.proofs.lemmas.List.Elements.{Contains-append_left, Contains-append_right, Contains-append_cases}
use Rattle.spl_terms.specs.declared.clause.Clause.{Clause}
use Rattle.dep_sets.specs.declared.deps.Assumption.{Assumption}
use Rattle.dep_sets.specs.Assumptions.{is_same_assumption, contains_assumption, united, without_assumption}
use Rattle.dep_sets.specs.OrderLaws.{same_self, same-is_same}
use Rattle.dep_sets.specs.SetLaws.{united_contains, without_contains}
use Rattle.proof_steps.specs.declared.step.Statement.{Statement}
use Rattle.proof_steps.specs.declared.step.Line.{Line}
use Rattle.clause_parts.specs.Parts.{Parted, parts_of}
use Rattle.clause_parts.specs.Sides.{split_parts, side_clauses}
use Rattle.clause_parts.specs.SideLaws.{two_parts, split_parts-two}
use Rattle.proof_steps.specs.Steps.{numbered, side_of}
use Rattle.proof_steps.specs.Checked.{stated, assumption_clauses, premises}
use Rattle.std.proofs.lemmas.Bool.{or_right}

-- ---- elements

pub Contains-cons : {A : Type 0} (x : A) (xs : List A) → Contains (x ∷ xs) x
Contains-cons x xs = (0, omega arith, refl)

pub Contains-cons_later : {A : Type 0} (x : A) (xs : List A) (y : A) → Contains xs y → Contains (x ∷ xs) y
Contains-cons_later x xs y (k, h, e) = (suc k, omega (arith, h), e)

pub Contains-nil : {A : Type 0} (y : A) → Contains {X = A} [] y → ⊥
Contains-nil y (k, h, e) = omega (arith, h)

-- ---- sets of assumptions

pub in_one : (a : Assumption) → contains_assumption (a ∷ []) a ≡ true
in_one a = ap (λ b. b || false) (same_self a)

pub in_first : (xs ys : List Assumption) (a : Assumption) → contains_assumption xs a ≡ true → contains_assumption (united xs ys) a ≡ true
in_first xs ys a e = united_contains a xs ys ∙ ap (λ b. b || contains_assumption ys a) e

pub in_second : (xs ys : List Assumption) (a : Assumption) → contains_assumption ys a ≡ true → contains_assumption (united xs ys) a ≡ true
in_second xs ys a e = united_contains a xs ys ∙ or_right (contains_assumption xs a) (contains_assumption ys a) e

-- ---- premises

module _ (lines : List Line) where
  pub premise_of : (deps : List Assumption) (a : Assumption) (c : Clause) → contains_assumption deps a ≡ true → Contains (assumption_clauses lines a) c → Contains (premises lines deps) c
  premise_of [] a c e there = absurd (cc)
  premise_of (b ∷ deps) a c e there = by_test (is_same_assumption a b) refl e (λ h. premise_of deps a c h there)
    where
      by_test : (t : Bool) → is_same_assumption a b ≡ t → (t || contains_assumption deps a) ≡ true → (contains_assumption deps a ≡ true → Contains (premises lines deps) c) → Contains (assumption_clauses lines b ++ premises lines deps) c
      by_test true same h later = Contains-append_left (assumption_clauses lines b) (premises lines deps) c (subst (λ z. Contains (assumption_clauses lines z) c) (same-is_same a b same) there)
      by_test false same h later = Contains-append_right (assumption_clauses lines b) (premises lines deps) c (later h)

  pub premise_from : (deps : List Assumption) (c : Clause) → Contains (premises lines deps) c → (a : Assumption) × (contains_assumption deps a ≡ true) × Contains (assumption_clauses lines a) c
  premise_from [] c there = absurd (Contains-nil c there)
  premise_from (b ∷ deps) c there =
      elim (Contains-append_cases (assumption_clauses lines b) (premises lines deps) c there) [
        | inl h ↦ (b, ap (λ t. t || contains_assumption deps b) (same_self b), h)
        | inr h ↦ (let r = premise_from deps c h in (r.0, or_right (is_same_assumption r.0 b) (contains_assumption deps r.0) r.1, r.2))
      ]

  module _ (input : List Clause) where
    -- what is assumed by more assumptions
    pub more_premises : (deps more : List Assumption) → ((a : Assumption) → contains_assumption deps a ≡ true → contains_assumption more a ≡ true) → (c : Clause) → Contains (input ++ premises lines deps) c → Contains (input ++ premises lines more) c
    more_premises deps more sub c there =
        elim (Contains-append_cases input (premises lines deps) c there) [
          | inl h ↦ Contains-append_left input (premises lines more) c h
          | inr h ↦ (let r = premise_from deps c h in Contains-append_right input (premises lines more) c (premise_of more r.0 c (sub r.0 r.1) r.2))
        ]

    -- what is assumed without one assumption, or by this one
    pub other_premises : (deps more : List Assumption) (a : Assumption) → ((b : Assumption) → contains_assumption (without_assumption a deps) b ≡ true → contains_assumption more b ≡ true) → (c : Clause) → Contains (input ++ premises lines deps) c → Contains (input ++ premises lines more) c ⊎ Contains (assumption_clauses lines a) c
    other_premises deps more a sub c there =
        elim (Contains-append_cases input (premises lines deps) c there) [
          | inl h ↦ inl (Contains-append_left input (premises lines more) c h)
          | inr h ↦ (let r = premise_from deps c h in by_test r.0 r.1 r.2 (is_same_assumption a r.0) refl)
        ]
      where
        by_test : (b : Assumption) → contains_assumption deps b ≡ true → Contains (assumption_clauses lines b) c → (t : Bool) → is_same_assumption a b ≡ t → Contains (input ++ premises lines more) c ⊎ Contains (assumption_clauses lines a) c
        by_test b e h true same = inr (subst (λ z. Contains (assumption_clauses lines z) c) (sym (same-is_same a b same)) h)
        by_test b e h false same =
            let stays : contains_assumption (without_assumption a deps) b ≡ true = without_contains b a deps ∙ (λ i. not (same i) && e i) in
            inl (Contains-append_right input (premises lines more) c (premise_of more b c (sub b stays) h))

  -- ---- the assumptions of a line's split

  pub assumed_of_line : (m side : ℕ) (r : Statement) → numbered (stated lines) m ≡ Some r → assumption_clauses lines (side_of m side) ≡ option_map_or (side_clauses side) (option_map two_parts (parts_of r.clause)) []
  assumed_of_line m side r e =
      ap (λ o. option_map_or (side_clauses side) (option_and_then (λ (s : Statement). split_parts s.clause) o) []) e
      ∙ ap (λ o. option_map_or (side_clauses side) o []) (split_parts-two r.clause)

  pub assumed_of_parts : (m side : ℕ) (r : Statement) (parts : Parted) → numbered (stated lines) m ≡ Some r → parts_of r.clause ≡ Some parts → assumption_clauses lines (side_of m side) ≡ side_clauses side (two_parts parts)
  assumed_of_parts m side r parts e is = assumed_of_line m side r e ∙ ap (λ o. option_map_or (side_clauses side) (option_map two_parts o) []) is
