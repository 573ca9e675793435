-- The clause of a list of literals is true under each assignment exactly where the list is.
use Rattle.std.proofs.Common.{◌≡◌, inl, inr, ℕ, suc, Bool, true, false, not, ◌&&◌, ◌||◌, ◌==◌, if◌then◌else◌, List, [], ◌∷◌, ◌++◌, map, fold, get_or, ◌+◌, refl, sym, subst, ap, ◌∙◌, arith}
use Rattle.std.specs.List.{list_any, filter, flat_map, AllByRecursion}
use Rattle.std.proofs.lemmas.Bool.{eqb-true, eq-eqb, or_cases, false≢true}
use Rattle.std.proofs.lemmas.List.Concat.{flat_map-append}
use Rattle.spl_terms.specs.declared.term.Term.{Term, Var}
use Rattle.spl_terms.specs.declared.atom.Atom.{Atom}
use Rattle.spl_terms.specs.declared.atom.Atom.TheVariants.{Holds, Equal}
use Rattle.spl_terms.specs.declared.clause.Clause.{Clause}
use Rattle.spl_terms.specs.Terms.{term_variables}
use Rattle.spl_terms.specs.Clauses.{atom_variables, clause_variables, is_of_sort, noted, firsts, place_in, number_in, at_lists, distinct, replace_in_atom, in_order}
use Rattle.spl_terms.specs.TermLaws.{Each, term_induction}
use Rattle.spl_terms.specs.TermLaws.{term_variables-Var, term_variables-App}
use Rattle.formulas.specs.Bindings.{is_member}
use Rattle.normal_form.specs.Clausal.{Literal, stands_right, stands_left, stands_in_constraint, atoms_where, clause_from}
use Rattle.normal_form.specs.Structures.{Structure, IsAssignment, value, holds_in, clause_truth}
use Rattle.normal_form.proofs.Members.{member_left, member_right, member_self}
use Rattle.normal_form.proofs.Values.{value-Var, value-App, replaced_holds}
use Rattle.normal_form.proofs.Forms.{signed_truth}
use Rattle.spl_terms.specs.SameLaws.{flipped, same_cases}
use Rattle.spl_truth.specs.SymmetryLaws.{Blind, distinct-any}
use Rattle.normal_form.proofs.Products.{literal_truth, list_truth}

-- ---- literals in their parts

abbrev pub parted : List Literal → Clause
parted ls = record { constraint = atoms_where stands_in_constraint ls; antecedent = atoms_where stands_left ls; succedent = atoms_where stands_right ls }

any_where : (p : Atom → Bool) (test : Literal → Bool) (l : Literal) (ls : List Literal) → list_any p (atoms_where test (l ∷ ls)) ≡ ((test l && p l.atom) || list_any p (atoms_where test ls))
any_where p test l ls = at_test (test l)
  where
    at_test : (b : Bool) → list_any p (map (λ (k : Literal). k.atom) (if b then l ∷ filter test ls else filter test ls)) ≡ ((b && p l.atom) || list_any p (atoms_where test ls))
    at_test true = refl
    at_test false = refl

-- the sign, whether the atom is of a sort, whether it is true, and whether a literal of each part is
shuffle : (sign sort h c a s : Bool) → (((((not sign && sort) && not h) || c) || (((not sign && not sort) && not h) || a)) || ((sign && h) || s)) ≡ (signed_truth sign h || ((c || a) || s))
shuffle true sort true c a s = last (c || a)
  where
    last : (x : Bool) → (x || true) ≡ true
    last true = refl
    last false = refl
shuffle true sort false c a s = refl
shuffle false true true c a s = refl
shuffle false true false c a s = refl
shuffle false false true c a s = refl
shuffle false false false true a s = refl
shuffle false false false false a s = refl

module _ {size : ℕ} (m : Structure size) where
  abbrev is_false : (ℕ → ℕ) → Atom → Bool
  is_false g a = not (holds_in m g a)

  parted_truth : (g : ℕ → ℕ) (ls : List Literal) → clause_truth m (parted ls) g ≡ list_truth m g ls
  parted_truth g [] = refl
  parted_truth g (l ∷ ls) =
      (let c = any_where (is_false g) stands_in_constraint l ls in
      let a = any_where (is_false g) stands_left l ls in
      let s = any_where (holds_in m g) stands_right l ls in
      λ i. (c i || a i) || s i)
      ∙ shuffle l.sign (is_of_sort l.atom) (holds_in m g l.atom) (list_any (is_false g) (atoms_where stands_in_constraint ls)) (list_any (is_false g) (atoms_where stands_left ls)) (list_any (holds_in m g) (atoms_where stands_right ls))
      ∙ ap (λ b. literal_truth m g l || b) (parted_truth g ls)

  -- ---- repeated atoms

  turned : (a b : ℕ) → (a == b) ≡ (b == a)
  turned a b = by_tests (a == b) (b == a) refl refl
    where
      by_tests : (p q : Bool) → (a == b) ≡ p → (b == a) ≡ q → p ≡ q
      by_tests true true e f = refl
      by_tests true false e f = absurd (false≢true (sym f ∙ eq-eqb b a (sym (eqb-true a b e))))
      by_tests false true e f = absurd (false≢true (sym e ∙ eq-eqb a b (sym (eqb-true b a f))))
      by_tests false false e f = refl

  holds-flipped : (g : ℕ → ℕ) (a : Atom) → holds_in m g a ≡ holds_in m g (flipped a)
  holds-flipped g (Holds p ts) = refl
  holds-flipped g (Equal s t) = turned (value m g s) (value m g t)

  blind : (g : ℕ → ℕ) (a : Atom) → Blind (holds_in m g) a
  blind g a b same = elim (same_cases a b same) [
    | inl e ↦ ap (holds_in m g) e
    | inr e ↦ holds-flipped g a ∙ ap (holds_in m g) e
  ]

  all_blind : (p : Atom → Bool) → ((a : Atom) → Blind p a) → (xs : List Atom) → AllByRecursion (Blind p) xs
  all_blind p each [] = tt
  all_blind p each (x ∷ xs) = (each x, all_blind p each xs)

  distinct_truth : (g : ℕ → ℕ) (c : Clause) → clause_truth m (at_lists distinct c) g ≡ clause_truth m c g
  distinct_truth g c =
      let no : (xs : List Atom) → list_any (is_false g) (distinct xs) ≡ list_any (is_false g) xs = λ xs. distinct-any (is_false g) xs (all_blind (is_false g) (λ a b s. ap not (blind g a b s)) xs) in
      let p = no c.constraint in
      let q = no c.antecedent in
      let r = distinct-any (holds_in m g) c.succedent (all_blind (holds_in m g) (blind g) c.succedent) in
      λ i. (p i || q i) || r i

  -- ---- other variables

  any_mapped : (p q : Atom → Bool) (f : Atom → Atom) → ((a : Atom) → p (f a) ≡ q a) → (xs : List Atom) → list_any p (map f xs) ≡ list_any q xs
  any_mapped p q f h [] = refl
  any_mapped p q f h (x ∷ xs) = let here = h x in let rest = any_mapped p q f h xs in λ i. here i || rest i

  -- a clause whose variables are renamed is as true as the clause under the assignment that follows the names
  renamed_truth : (g : ℕ → ℕ) (n : ℕ → ℕ) (c : Clause) → clause_truth m (at_lists (map (replace_in_atom (λ v. Var (n v)))) c) g ≡ clause_truth m c (λ v. g (n v))
  renamed_truth g n c =
      let follows : (a : Atom) → holds_in m g (replace_in_atom (λ v. Var (n v)) a) ≡ holds_in m (λ v. g (n v)) a =
      λ a. replaced_holds m g (λ v. Var (n v)) a ∙ ap (λ h. holds_in m h a) (λ i v. value-Var m g (n v) i) in
      let p = any_mapped (is_false g) (is_false (λ v. g (n v))) (replace_in_atom (λ v. Var (n v))) (λ a. ap not (follows a)) c.constraint in
      let q = any_mapped (is_false g) (is_false (λ v. g (n v))) (replace_in_atom (λ v. Var (n v))) (λ a. ap not (follows a)) c.antecedent in
      let r = any_mapped (holds_in m g) (holds_in m (λ v. g (n v))) (replace_in_atom (λ v. Var (n v))) follows c.succedent in
      λ i. (p i || q i) || r i

  -- ---- the truth of a clause depends on its variables

  module _ (g h : ℕ → ℕ) where
    abbrev Agree : List ℕ → Type 0
    Agree vs = (v : ℕ) → is_member v vs ≡ true → g v ≡ h v

    values_agree : (ts : List Term) → Each (λ t. Agree (term_variables t) → value m g t ≡ value m h t) ts → Agree (flat_map term_variables ts) → map (value m g) ts ≡ map (value m h) ts
    values_agree [] each agree = refl
    values_agree (t ∷ ts) each agree =
        let here : value m g t ≡ value m h t = each.0 (λ v e. agree v (member_left v (term_variables t) (flat_map term_variables ts) e)) in
        let rest = values_agree ts each.1 (λ v e. agree v (member_right v (term_variables t) (flat_map term_variables ts) e)) in
        λ i. here i ∷ rest i

    value_agrees : (t : Term) → Agree (term_variables t) → value m g t ≡ value m h t
    value_agrees =
        term_induction (λ t. Agree (term_variables t) → value m g t ≡ value m h t)
        (λ v agree. value-Var m g v ∙ agree v (subst (λ vs. is_member v vs ≡ true) (sym (term_variables-Var v)) (member_self v [])) ∙ sym (value-Var m h v))
        (λ f ts each agree.
        value-App m g f ts
        ∙ ap (m.function f) (values_agree ts each (λ v e. agree v (subst (λ vs. is_member v vs ≡ true) (sym (term_variables-App f ts)) e)))
        ∙ sym (value-App m h f ts))

    all_agree : (ts : List Term) → Agree (flat_map term_variables ts) → map (value m g) ts ≡ map (value m h) ts
    all_agree [] agree = refl
    all_agree (t ∷ ts) agree =
        let here : value m g t ≡ value m h t = value_agrees t (λ v e. agree v (member_left v (term_variables t) (flat_map term_variables ts) e)) in
        let rest = all_agree ts (λ v e. agree v (member_right v (term_variables t) (flat_map term_variables ts) e)) in
        λ i. here i ∷ rest i

    holds_agrees : (a : Atom) → Agree (atom_variables a) → holds_in m g a ≡ holds_in m h a
    holds_agrees (Holds p ts) agree = ap (m.predicate p) (all_agree ts agree)
    holds_agrees (Equal s t) agree =
        let left = value_agrees s (λ v e. agree v (member_left v (term_variables s) (flat_map term_variables (t ∷ [])) e)) in
        let right = value_agrees t (λ v e. agree v (member_right v (term_variables s) (flat_map term_variables (t ∷ [])) (member_left v (term_variables t) [] e))) in
        λ i. left i == right i

    any_agrees : (xs : List Atom) → Agree (flat_map atom_variables xs) → list_any (holds_in m g) xs ≡ list_any (holds_in m h) xs
    any_agrees [] agree = refl
    any_agrees (x ∷ xs) agree =
        let here = holds_agrees x (λ v e. agree v (member_left v (atom_variables x) (flat_map atom_variables xs) e)) in
        let rest = any_agrees xs (λ v e. agree v (member_right v (atom_variables x) (flat_map atom_variables xs) e)) in
        λ i. here i || rest i

    none_agrees : (xs : List Atom) → Agree (flat_map atom_variables xs) → list_any (is_false g) xs ≡ list_any (is_false h) xs
    none_agrees [] agree = refl
    none_agrees (x ∷ xs) agree =
        let here = holds_agrees x (λ v e. agree v (member_left v (atom_variables x) (flat_map atom_variables xs) e)) in
        let rest = none_agrees xs (λ v e. agree v (member_right v (atom_variables x) (flat_map atom_variables xs) e)) in
        λ i. not (here i) || rest i

    in_first : (v : ℕ) (xs ys : List Atom) → is_member v (flat_map atom_variables xs) ≡ true → is_member v (flat_map atom_variables (xs ++ ys)) ≡ true
    in_first v xs ys e = ap (is_member v) (flat_map-append atom_variables xs ys) ∙ member_left v (flat_map atom_variables xs) (flat_map atom_variables ys) e

    in_second : (v : ℕ) (xs ys : List Atom) → is_member v (flat_map atom_variables ys) ≡ true → is_member v (flat_map atom_variables (xs ++ ys)) ≡ true
    in_second v xs ys e = ap (is_member v) (flat_map-append atom_variables xs ys) ∙ member_right v (flat_map atom_variables xs) (flat_map atom_variables ys) e

    clause_agrees : (c : Clause) → Agree (clause_variables c) → clause_truth m c g ≡ clause_truth m c h
    clause_agrees c agree =
        let p = none_agrees c.constraint (λ v e. agree v (in_first v (c.constraint ++ c.antecedent) c.succedent (in_first v c.constraint c.antecedent e))) in
        let q = none_agrees c.antecedent (λ v e. agree v (in_first v (c.constraint ++ c.antecedent) c.succedent (in_second v c.constraint c.antecedent e))) in
        let r = any_agrees c.succedent (λ v e. agree v (in_second v (c.constraint ++ c.antecedent) c.succedent e)) in
        λ i. (p i || q i) || r i

-- ---- numbers by first occurrence can be undone

noted_keeps : (w v : ℕ) (order : List ℕ) → is_member w order ≡ true → is_member w (noted order v) ≡ true
noted_keeps w v order h = at_test (is_member v order)
  where
    at_test : (b : Bool) → is_member w (if b then order else order ++ v ∷ []) ≡ true
    at_test true = h
    at_test false = member_left w order (v ∷ []) h

noted_has : (v : ℕ) (order : List ℕ) → is_member v (noted order v) ≡ true
noted_has v order = at_test (is_member v order) refl
  where
    at_test : (b : Bool) → is_member v order ≡ b → is_member v (if b then order else order ++ v ∷ []) ≡ true
    at_test true e = e
    at_test false e = member_right v order (v ∷ []) (member_self v [])

fold_keeps : (w : ℕ) (vs order : List ℕ) → is_member w order ≡ true → is_member w (fold noted order vs) ≡ true
fold_keeps w [] order h = h
fold_keeps w (v ∷ vs) order h = fold_keeps w vs (noted order v) (noted_keeps w v order h)

fold_has : (w : ℕ) (vs order : List ℕ) → is_member w vs ≡ true → is_member w (fold noted order vs) ≡ true
fold_has w [] order h = absurd (false≢true h)
fold_has w (v ∷ vs) order h = elim (or_cases (w == v) (is_member w vs) h) [
  | inl e ↦ fold_keeps w vs (noted order v) (subst (λ x. is_member w (noted order x) ≡ true) (eqb-true w v e) (noted_has w order))
  | inr k ↦ fold_has w vs (noted order v) k
]

placed : (v : ℕ) (xs : List ℕ) → is_member v xs ≡ true → get_or xs (place_in xs v) 0 ≡ v
placed v [] h = absurd (false≢true h)
placed v (x ∷ xs) h = at_test (x == v) refl (placed v xs)
  where
    later : (x == v) ≡ false → is_member v xs ≡ true
    later e = elim (or_cases (v == x) (is_member v xs) h) [
      | inl f ↦ absurd (false≢true (sym e ∙ eq-eqb x v (sym (eqb-true v x f))))
      | inr k ↦ k
    ]

    at_test : (b : Bool) → (x == v) ≡ b → (is_member v xs ≡ true → get_or xs (place_in xs v) 0 ≡ v) → get_or (x ∷ xs) (if not b then 1 + place_in xs v else 0) 0 ≡ v
    at_test true e again = eqb-true x v e
    at_test false e again =
        let next : 1 + place_in xs v ≡ suc (place_in xs v) = omega arith in
        ap (λ (j : ℕ). get_or (x ∷ xs) j 0) next ∙ again (later e)

-- ---- clauses in order

module _ {size : ℕ} (m : Structure size) where
  abbrev IsTrueClause : Clause → Type 0
  IsTrueClause c = (g : ℕ → ℕ) → IsAssignment size g → clause_truth m c g ≡ true

  in_order_truth : (c : Clause) (g : ℕ → ℕ) → clause_truth m (in_order c) g ≡ clause_truth m (at_lists distinct c) (λ v. g (number_in (at_lists distinct c) v))
  in_order_truth c g = renamed_truth m g (number_in (at_lists distinct c)) (at_lists distinct c)

  -- a list that is true under each assignment gives a clause that is
  pub clause_from_list : (ls : List Literal) → ((g : ℕ → ℕ) → IsAssignment size g → list_truth m g ls ≡ true) → IsTrueClause (clause_from ls)
  clause_from_list ls h g is =
      let n : ℕ → ℕ = λ v. g (number_in (at_lists distinct (parted ls)) v) in
      in_order_truth (parted ls) g ∙ distinct_truth m n (parted ls) ∙ parted_truth m n ls ∙ h n (λ v. is (number_in (at_lists distinct (parted ls)) v))

  -- and a clause that is true under each assignment comes from a list that is
  pub list_from_clause : (ls : List Literal) → IsTrueClause (clause_from ls) → (g : ℕ → ℕ) → IsAssignment size g → list_truth m g ls ≡ true
  list_from_clause ls h g is =
      let kept : Clause = at_lists distinct (parted ls) in
      let order : List ℕ = firsts (clause_variables kept) in
      let back : ℕ → ℕ = λ j. g (get_or order j 0) in
      sym (parted_truth m g ls) ∙ sym (distinct_truth m g (parted ls))
      ∙ clause_agrees m g (λ v. back (number_in kept v)) kept (λ v e. ap g (sym (placed v order (fold_has v (clause_variables kept) [] e))))
      ∙ sym (in_order_truth (parted ls) back)
      ∙ h back (λ j. is (get_or order j 0))
