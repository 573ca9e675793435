-- The negation of an atom of a clause without variables, joined with that clause, is a tautology.
use Rattle.std.proofs.Common.{◌≡◌, inl, inr, ℕ, zero, suc, Bool, true, false, not, ◌||◌, if◌then◌else◌, List, [], ◌∷◌, ◌++◌, map, Contains, refl, sym, ap, subst, ◌∙◌, arith}
use Rattle.std.specs.List.{list_all, list_any}
use Rattle.std.proofs.lemmas.Bool.{and_parts, or_right}
use Rattle.std.proofs.lemmas.List.Elements.{Contains-append_left, Contains-append_right, Contains-append_cases, All-nil}
use Rattle.spl_terms.specs.declared.term.Term.{Term}
use Rattle.spl_terms.specs.declared.atom.Atom.{Atom}
use Rattle.spl_terms.specs.declared.clause.Clause.{Clause}
use Rattle.spl_terms.specs.Clauses.{atom_variables, is_of_sort, replace_in_atom, replace_in, in_order, atom_eq}
use Rattle.spl_truth.specs.Truth.{is_ground_atom, is_ground, IsGroundInstance, IsUsable, truth, FollowsAt}
use Rattle.spl_truth.specs.InstanceLaws.{at_each, atom-replace-replace}
use Rattle.clause_parts.specs.Parts.{as_true, as_false}
use Rattle.proof_steps.specs.Steps.{joined}
use Rattle.clause_parts.specs.Sides.{negations}
use Rattle.proof_steps.proofs.Steps.{ground_atom, no_numbers}
use Rattle.proof_steps.proofs.Resolution.{negative, either_joined}
use Rattle.clause_parts.specs.JointLaws.{agree_atom}

-- ---- elements

pub Contains-map : {A B : Type 0} (f : A → B) (xs : List A) (y : B) → Contains (map f xs) y → (x : A) × Contains xs x × (f x ≡ y)
Contains-map f [] y (k, h, e) = absurd (omega (arith, h))
Contains-map f (x ∷ xs) y (zero, h, e) = (x, (0, omega arith, refl), e)
Contains-map f (x ∷ xs) y (suc k, h, e) =
    let r = Contains-map f xs y (k, omega (arith, h), e) in
    (r.0, (suc r.1.0, omega (arith, r.1.1), r.1.2), r.2)

Contains-mapped : {A B : Type 0} (f : A → B) (xs : List A) (x : A) → Contains xs x → Contains (map f xs) (f x)
Contains-mapped f [] x (k, h, e) = absurd (omega (arith, h))
Contains-mapped f (y ∷ xs) x (zero, h, e) = (0, omega arith, ap f e)
Contains-mapped f (y ∷ xs) x (suc k, h, e) = let r = Contains-mapped f xs x (k, omega (arith, h), e) in (suc r.0, omega (arith, r.1), r.2)

all_contains : (p : Atom → Bool) (xs : List Atom) (x : Atom) → list_all p xs ≡ true → Contains xs x → p x ≡ true
all_contains p [] x all (k, h, e) = absurd (omega (arith, h))
all_contains p (y ∷ xs) x all (zero, h, e) = ap p (sym e) ∙ (and_parts _ _ all).0
all_contains p (y ∷ xs) x all (suc k, h, e) = all_contains p xs x (and_parts (p y) (list_all p xs) all).1 (k, omega (arith, h), e)

any_contains : (p : Atom → Bool) (g : ℕ → Term) (xs : List Atom) (x : Atom) → Contains xs x → p (replace_in_atom g x) ≡ true → list_any p (at_each g xs) ≡ true
any_contains p g [] x (k, h, e) t = absurd (omega (arith, h))
any_contains p g (y ∷ xs) x (zero, h, e) t = ap (λ b. b || list_any p (at_each g xs)) (ap (λ z. p (replace_in_atom g z)) e ∙ t)
any_contains p g (y ∷ xs) x (suc k, h, e) t = or_right (p (replace_in_atom g y)) (list_any p (at_each g xs)) (any_contains p g xs x (k, omega (arith, h), e) t)

-- ---- atoms without variables

no_variables : (vs : List ℕ) → no_numbers vs ≡ true → list_all (λ v. false) vs ≡ true
no_variables [] e = refl
no_variables (v ∷ vs) e = absurd (cc)

-- each replacement leaves them as they are, so any two agree
ground_same : (f h : ℕ → Term) (a : Atom) → is_ground_atom a ≡ true → replace_in_atom f a ≡ replace_in_atom h a
ground_same f h a ground = agree_atom f h (λ v. false) (λ v e. absurd (cc)) a (no_variables (atom_variables a) (sym (ground_atom a) ∙ ground))

ground_twice : (k v g : ℕ → Term) (a : Atom) → is_ground_atom a ≡ true → replace_in_atom k (replace_in_atom v a) ≡ replace_in_atom g a
ground_twice k v g a ground = atom-replace-replace k v a ∙ ground_same _ g a ground

-- ---- truth

alone_first : (t : Bool) → (((t || false) || false) || false) ≡ t
alone_first true = refl
alone_first false = refl

alone_second : (t : Bool) → ((false || (t || false)) || false) ≡ t
alone_second true = refl
alone_second false = refl

alone_last : (t : Bool) → (t || false) ≡ t
alone_last true = refl
alone_last false = refl

truth-as_true : (b : Atom → Bool) (k g : ℕ → Term) (a : Atom) → is_ground_atom a ≡ true → truth b (replace_in k (in_order (as_true a))) ≡ b (replace_in_atom g a)
truth-as_true b k g a ground = alone_last (b (replace_in_atom k (replace_in_atom _ a))) ∙ ap b (ground_twice k _ g a ground)

truth-as_false : (b : Atom → Bool) (k g : ℕ → Term) (a : Atom) → is_ground_atom a ≡ true → truth b (replace_in k (in_order (as_false a))) ≡ not (b (replace_in_atom g a))
truth-as_false b k g a ground = by_test (is_of_sort a)
  where
    by_test : (t : Bool) → truth b (replace_in k (in_order (if t then record { constraint = a ∷ []; antecedent = []; succedent = [] } else record { constraint = []; antecedent = a ∷ []; succedent = [] }))) ≡ not (b (replace_in_atom g a))
    by_test true = alone_first (not (b (replace_in_atom k (replace_in_atom _ a)))) ∙ ap (λ z. not (b z)) (ground_twice k _ g a ground)
    by_test false = alone_second (not (b (replace_in_atom k (replace_in_atom _ a)))) ∙ ap (λ z. not (b z)) (ground_twice k _ g a ground)

or_left : (a b : Bool) → a ≡ true → (a || b) ≡ true
or_left a b e = ap (λ z. z || b) e

-- what is true where t is, or else where t isn't
either_way : (t x d : Bool) → (t ≡ true → x ≡ true) → (t ≡ false → d ≡ true) → (x || d) ≡ true
either_way true x d h k = or_left x d (h refl)
either_way false x d h k = or_right x d (k refl)

module _ (left : Clause) (ground : is_ground left ≡ true) where
  in_front : (a : Atom) → Contains (left.constraint ++ left.antecedent) a → is_ground_atom a ≡ true
  in_front a there = all_contains is_ground_atom (left.constraint ++ left.antecedent ++ left.succedent) a ground (Contains-append_left (left.constraint ++ left.antecedent) left.succedent a there)

  at_end : (a : Atom) → Contains left.succedent a → is_ground_atom a ≡ true
  at_end a there = all_contains is_ground_atom (left.constraint ++ left.antecedent ++ left.succedent) a ground (Contains-append_right (left.constraint ++ left.antecedent) left.succedent a there)

  module _ (b : Atom → Bool) (g k : ℕ → Term) where
    -- where the atom isn't true, the clause is
    true_joined : (a : Atom) → Contains (left.constraint ++ left.antecedent) a → (truth b (replace_in k (in_order (as_true a))) || truth b (replace_in g left)) ≡ true
    true_joined a there =
        either_way (b (replace_in_atom g a)) (truth b (replace_in k (in_order (as_true a)))) (truth b (replace_in g left))
        (λ e. truth-as_true b k g a (in_front a there) ∙ e)
        (λ e.
        let untrue : not (b (replace_in_atom g a)) ≡ true = ap not e in
        or_left (negative b (replace_in g left)) (list_any b (at_each g left.succedent))
        (elim (Contains-append_cases left.constraint left.antecedent a there) [
          | inl h ↦ or_left (list_any (λ x. not (b x)) (at_each g left.constraint)) (list_any (λ x. not (b x)) (at_each g left.antecedent)) (any_contains (λ x. not (b x)) g left.constraint a h untrue)
          | inr h ↦ or_right (list_any (λ x. not (b x)) (at_each g left.constraint)) (list_any (λ x. not (b x)) (at_each g left.antecedent)) (any_contains (λ x. not (b x)) g left.antecedent a h untrue)
        ]))

    -- where the atom is true, the clause is
    false_joined : (a : Atom) → Contains left.succedent a → (truth b (replace_in k (in_order (as_false a))) || truth b (replace_in g left)) ≡ true
    false_joined a there =
        either_way (not (b (replace_in_atom g a))) (truth b (replace_in k (in_order (as_false a)))) (truth b (replace_in g left))
        (λ e. truth-as_false b k g a (at_end a there) ∙ e)
        (λ e. or_right (negative b (replace_in g left)) (list_any b (at_each g left.succedent)) (any_contains b g left.succedent a there (not_false (b (replace_in_atom g a)) e)))
      where
        not_false : (t : Bool) → not t ≡ false → t ≡ true
        not_false true e = refl
        not_false false e = absurd (cc)

    negation_joined : (c : Clause) → Contains (negations left) c → (truth b (replace_in k c) || truth b (replace_in g left)) ≡ true
    negation_joined c there =
        elim (Contains-append_cases (map (λ a. in_order (as_true a)) (left.constraint ++ left.antecedent)) (map (λ a. in_order (as_false a)) left.succedent) c there) [
          | inl h ↦ (let a = Contains-map (λ a. in_order (as_true a)) (left.constraint ++ left.antecedent) c h in subst (λ z. (truth b (replace_in k z) || truth b (replace_in g left)) ≡ true) a.2 (true_joined a.0 a.1))
          | inr h ↦ (let a = Contains-map (λ a. in_order (as_false a)) left.succedent c h in subst (λ z. (truth b (replace_in k z) || truth b (replace_in g left)) ≡ true) a.2 (false_joined a.0 a.1))
        ]

  -- so it follows from nothing
  pub follows-negation : (clauses : List Clause) (c x d : Clause) → Contains (negations left) c → IsGroundInstance c x → IsGroundInstance left d → FollowsAt clauses (joined x d)
  follows-negation clauses c x d there (k, at_x, _) (g, at_d, _) =
      record {
        listed = [];
        usable = All-nil (IsUsable clauses);
        forces = λ assignment e.
            let b : Atom → Bool = λ a. list_any (atom_eq a) assignment in
            either_joined b x d ∙ (λ i. truth b (sym at_x i) || truth b (sym at_d i)) ∙ negation_joined b g k c there;
      }
