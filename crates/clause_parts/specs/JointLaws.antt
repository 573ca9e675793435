-- Laws with their proofs, not definitions that a reader must believe: one instance of a clause for an instance of each of
-- its parts.
use Rattle.std.proofs.Common.{take, drop, length, ◌≡◌, ℕ, Bool, true, false, not, ◌||◌, ◌&&◌, ◌==◌, if◌then◌else◌, List, [], ◌∷◌, ◌++◌, map, refl, sym, ap, ◌∙◌, append_assoc}
use Rattle.std.specs.List.{list_any, list_all, flat_map}
use Rattle.std.proofs.lemmas.List.Folds.{list_any-append, list_all-append}
use Rattle.spl_terms.specs.declared.term.Term.{Term, App}
use Rattle.spl_terms.specs.declared.atom.Atom.{Atom}
use Rattle.spl_terms.specs.declared.atom.Atom.TheVariants.{Holds, Equal}
use Rattle.spl_terms.specs.Terms.{term_variables, replace}
use Rattle.spl_terms.specs.Clauses.{atom_variables, replace_in_atom}
use Rattle.spl_terms.specs.TermLaws.{Each, term_induction, term_variables-Var, term_variables-App, replace-Var, replace-App}
use Rattle.std.proofs.lemmas.Bool.{and_parts, or_right, not-true}
use Rattle.spl_truth.specs.InstanceLaws.{at_each}
use Rattle.clause_parts.specs.Parts.{share, marked, component}
use Rattle.clause_parts.specs.Marking.{marked_variables}
use Rattle.spl_terms.specs.VariableLaws.{itself}
use Rattle.clause_parts.specs.MarkLaws.{share-reached}
use Rattle.clause_parts.specs.ClosureLaws.{component_apart}

-- ---- replacements that agree on the variables that pass a test

module _ (f h : ℕ → Term) (q : ℕ → Bool) (same : (v : ℕ) → q v ≡ true → f v ≡ h v) where
  agree_each : (ts : List Term) → Each (λ t. list_all q (term_variables t) ≡ true → replace f t ≡ replace h t) ts → list_all q (flat_map term_variables ts) ≡ true → map (replace f) ts ≡ map (replace h) ts
  agree_each [] each e = refl
  agree_each (t ∷ ts) each e =
      let p = and_parts _ _ (sym (list_all-append q (term_variables t) (flat_map term_variables ts)) ∙ e) in
      let x = each.0 p.0 in
      let y = agree_each ts each.1 p.1 in
      λ i. x i ∷ y i

  agree_term : (t : Term) → list_all q (term_variables t) ≡ true → replace f t ≡ replace h t
  agree_term =
      term_induction (λ t. list_all q (term_variables t) ≡ true → replace f t ≡ replace h t)
      (λ v e. let here : q v ≡ true = (and_parts _ _ (sym (ap (list_all q) (term_variables-Var v)) ∙ e)).0 in replace-Var f v ∙ same v here ∙ sym (replace-Var h v))
      (λ g ts each e. replace-App f g ts ∙ ap (App g) (agree_each ts each (sym (ap (list_all q) (term_variables-App g ts)) ∙ e)) ∙ sym (replace-App h g ts))

  agree_terms : (ts : List Term) → list_all q (flat_map term_variables ts) ≡ true → map (replace f) ts ≡ map (replace h) ts
  agree_terms [] e = refl
  agree_terms (t ∷ ts) e =
      let p = and_parts _ _ (sym (list_all-append q (term_variables t) (flat_map term_variables ts)) ∙ e) in
      let x = agree_term t p.0 in
      let y = agree_terms ts p.1 in
      λ i. x i ∷ y i

  pub agree_atom : (a : Atom) → list_all q (atom_variables a) ≡ true → replace_in_atom f a ≡ replace_in_atom h a
  agree_atom (Holds p ts) e = ap (Holds p) (agree_terms ts e)
  agree_atom (Equal s t) e =
      let p = and_parts _ _ (sym (list_all-append q (term_variables s) (term_variables t ++ [])) ∙ e) in
      let r = and_parts _ _ (sym (list_all-append q (term_variables t) []) ∙ p.1) in
      let x = agree_term s p.0 in
      let y = agree_term t r.0 in
      λ i. Equal (x i) (y i)

  pub agree_atoms : (as' : List Atom) → list_all q (flat_map atom_variables as') ≡ true → at_each f as' ≡ at_each h as'
  agree_atoms [] e = refl
  agree_atoms (a ∷ as') e =
      let p = and_parts _ _ (sym (list_all-append q (atom_variables a) (flat_map atom_variables as')) ∙ e) in
      let x = agree_atom a p.0 in
      let y = agree_atoms as' p.1 in
      λ i. x i ∷ y i

-- ---- both parts at once

abbrev pub is_one_of : List ℕ → ℕ → Bool
is_one_of vs v = list_any (λ w. v == w) vs

-- g on these variables, and k on all others
abbrev pub combined : List ℕ → (ℕ → Term) → (ℕ → Term) → ℕ → Term
combined vs g k v = if is_one_of vs v then g v else k v

pub marked_are : (bs : List Bool) (atoms : List Atom) → flat_map atom_variables (marked bs atoms) ≡ marked_variables bs (map atom_variables atoms)
marked_are [] atoms = refl
marked_are (b ∷ bs) [] = refl
marked_are (true ∷ bs) (a ∷ atoms) = ap (λ l. atom_variables a ++ l) (marked_are bs atoms)
marked_are (false ∷ bs) (a ∷ atoms) = marked_are bs atoms

all_in : (before vs : List ℕ) → list_all (is_one_of (before ++ vs)) vs ≡ true
all_in before [] = refl
all_in before (v ∷ vs) =
    let here : is_one_of (before ++ v ∷ vs) v ≡ true = list_any-append (λ w. v == w) before (v ∷ vs) ∙ or_right (is_one_of before v) (is_one_of (v ∷ vs) v) (ap (λ b. b || is_one_of vs v) (itself v)) in
    let rest : list_all (is_one_of (before ++ v ∷ vs)) vs ≡ true = ap (λ l. list_all (is_one_of l) vs) (sym (append_assoc before (v ∷ []) vs)) ∙ all_in (before ++ v ∷ []) vs in
    λ i. here i && rest i

none_in : (p : ℕ → Bool) (vs : List ℕ) → list_any p vs ≡ false → list_all (λ v. not (p v)) vs ≡ true
none_in p [] e = refl
none_in p (v ∷ vs) e = by_test (p v) (none_in p vs) e
  where
    by_test : (b : Bool) → (list_any p vs ≡ false → list_all (λ v. not (p v)) vs ≡ true) → (b || list_any p vs) ≡ false → (not b && list_all (λ v. not (p v)) vs) ≡ true
    by_test true rest e = absurd (cc)
    by_test false rest e = rest e

any_reached : (p : ℕ → Bool) (bs : List Bool) (lists : List (List ℕ)) → list_any p (marked_variables bs lists) ≡ list_any (list_any p) (marked bs lists)
any_reached p [] lists = refl
any_reached p (b ∷ bs) [] = refl
any_reached p (true ∷ bs) (vs ∷ lists) = list_any-append p vs (marked_variables bs lists) ∙ ap (λ b. list_any p vs || b) (any_reached p bs lists)
any_reached p (false ∷ bs) (vs ∷ lists) = any_reached p bs lists

any_same : (p q : List ℕ → Bool) → ((vs : List ℕ) → p vs ≡ q vs) → (lists : List (List ℕ)) → list_any p lists ≡ list_any q lists
any_same p q same [] = refl
any_same p q same (vs ∷ lists) = let x = same vs in let y = any_same p q same lists in λ i. x i || y i

module _ (n : ℕ) (atoms : List Atom) (g k : ℕ → Term) where
  abbrev marks_of : List Bool
  marks_of = component n (map atom_variables atoms)

  abbrev variables_in : List ℕ
  variables_in = marked_variables marks_of (map atom_variables atoms)

  taken_in : (v : ℕ) → is_one_of variables_in v ≡ true → combined variables_in g k v ≡ g v
  taken_in v e = ap (λ b. if b then g v else k v) e

  taken_out : (v : ℕ) → not (is_one_of variables_in v) ≡ true → combined variables_in g k v ≡ k v
  taken_out v e = ap (λ b. if b then g v else k v) (not-true (is_one_of variables_in v) e)

  -- the component becomes what g makes of it
  pub joint_left : at_each (combined variables_in g k) (marked marks_of atoms) ≡ at_each g (marked marks_of atoms)
  joint_left = agree_atoms (combined variables_in g k) g (is_one_of variables_in) taken_in (marked marks_of atoms) (ap (list_all (is_one_of variables_in)) (marked_are marks_of atoms) ∙ all_in [] variables_in)

  -- and the rest what k makes of it
  pub joint_right : at_each (combined variables_in g k) (marked (map not marks_of) atoms) ≡ at_each k (marked (map not marks_of) atoms)
  joint_right =
      let lists : List (List ℕ) = map atom_variables atoms in
      let apart : list_any (list_any (is_one_of variables_in)) (marked (map not marks_of) lists) ≡ false =
      any_same (list_any (is_one_of variables_in)) (λ vs. list_any (share vs) (marked marks_of lists)) (λ vs. share-reached vs marks_of lists) (marked (map not marks_of) lists) ∙ component_apart n lists in
      agree_atoms (combined variables_in g k) k (λ v. not (is_one_of variables_in v)) taken_out (marked (map not marks_of) atoms)
      (none_in (is_one_of variables_in) (flat_map atom_variables (marked (map not marks_of) atoms))
      (ap (list_any (is_one_of variables_in)) (marked_are (map not marks_of) atoms) ∙ any_reached (is_one_of variables_in) (map not marks_of) lists ∙ apart))

-- ---- the same of the parts of a clause

pub marked-append : (bs : List Bool) (xs ys : List Atom) → marked bs (xs ++ ys) ≡ marked (take (length xs) bs) xs ++ marked (drop (length xs) bs) ys
marked-append bs [] ys = refl
marked-append [] (x ∷ xs) ys = refl
marked-append (true ∷ bs) (x ∷ xs) ys = ap (λ l. x ∷ l) (marked-append bs xs ys)
marked-append (false ∷ bs) (x ∷ xs) ys = marked-append bs xs ys
