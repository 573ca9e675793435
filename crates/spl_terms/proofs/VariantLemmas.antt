-- Clauses that are equal once their variables are renumbered.
use Rattle.std.proofs.Common.{◌≡◌, ℕ, ◌+◌, Bool, true, false, not, ◌&&◌, ◌||◌, ◌==◌, if◌then◌else◌, cond, List, [], ◌∷◌, ◌++◌, fold, map, refl, sym, ap, eq-eqb, ◌∙◌}
use Rattle.std.proofs.lemmas.Bool.{eqb-true, false≢true, or_left, or_right, and_from, and_parts}
use Rattle.spl_terms.specs.declared.term.Term.{Term, Var, App}
use Rattle.spl_terms.specs.declared.atom.Atom.{Atom}
use Rattle.spl_terms.specs.declared.atom.Atom.TheVariants.{Holds, Equal}
use Rattle.spl_terms.specs.declared.clause.Clause.{Clause}
use Rattle.spl_terms.specs.Terms.{symbol_eq, term_eq, terms_eq, replace}
use Rattle.spl_terms.specs.Clauses.{clause_variables, atom_eq, atoms_eq, clause_eq, replace_in_atom, replace_in, noted, firsts, place_in, number_in, renumbered}
use Rattle.spl_terms.specs.Alike.{alike, alike_terms, alike_atoms, alike_lists, alike_clauses, agree, correspond}
use Rattle.spl_terms.specs.VariableLaws.{itself, eqb-sym, has, has-firsts, place-apart}
pub use Rattle.spl_terms.specs.InOrderLaws.{renumbered-renumbered, renumbered-in_order}
use Rattle.spl_terms.specs.TermLaws.{Each, term_induction, term_eq-Var-Var, term_eq-Var-App, term_eq-App-Var, term_eq-App-App, replace-Var, replace-App}
use Rattle.spl_terms.proofs.ClauseLemmas.{clause_eq-true, clause_eq-same}
use Rattle.spl_terms.proofs.AlikeLemmas.{alike-Var-Var, alike-Var-App, alike-App-Var, alike-App-App, pass, pass-append, zips_clause}

-- ---- equality of renamed clauses is a test of their variables

module _ (h k : ℕ → ℕ) where
  abbrev same_name : ℕ → ℕ → Bool
  same_name v w = h v == k w

  abbrev left : Term → Term
  left = replace (λ v. Var (h v))

  abbrev right : Term → Term
  right = replace (λ v. Var (k v))

  abbrev Renames : Term → Type 0
  Renames s = (t : Term) → term_eq (left s) (right t) ≡ alike same_name s t

  renames_each : (ss : List Term) → Each Renames ss → (ts : List Term) → terms_eq (map left ss) (map right ts) ≡ alike_terms same_name ss ts
  renames_each [] each [] = refl
  renames_each [] each (t ∷ ts) = refl
  renames_each (s ∷ ss) each [] = refl
  renames_each (s ∷ ss) each (t ∷ ts) = λ i. each.0 t i && renames_each ss each.1 ts i

  -- the two sides, each at its form
  at : (s t x y : Term) (b : Bool) → left s ≡ x → right t ≡ y → term_eq x y ≡ b → alike same_name s t ≡ b → term_eq (left s) (right t) ≡ alike same_name s t
  at s t x y b e g p q = (λ i. term_eq (e i) (g i)) ∙ p ∙ sym q

  renames : (s : Term) → Renames s
  renames =
      term_induction Renames
      (λ v. term_induction (λ t. term_eq (left (Var v)) (right t) ≡ alike same_name (Var v) t)
      (λ w. at (Var v) (Var w) _ _ _ (replace-Var (λ v. Var (h v)) v) (replace-Var (λ v. Var (k v)) w) (term_eq-Var-Var (h v) (k w)) (alike-Var-Var same_name v w))
      (λ g ts _. at (Var v) (App g ts) _ _ _ (replace-Var (λ v. Var (h v)) v) (replace-App (λ v. Var (k v)) g ts) (term_eq-Var-App (h v) g (map right ts)) (alike-Var-App same_name v g ts)))
      (λ f ss each. term_induction (λ t. term_eq (left (App f ss)) (right t) ≡ alike same_name (App f ss) t)
      (λ w. at (App f ss) (Var w) _ _ _ (replace-App (λ v. Var (h v)) f ss) (replace-Var (λ v. Var (k v)) w) (term_eq-App-Var f (map left ss) (k w)) (alike-App-Var same_name f ss w))
      (λ g ts _. at (App f ss) (App g ts) _ _ _ (replace-App (λ v. Var (h v)) f ss) (replace-App (λ v. Var (k v)) g ts)
      (term_eq-App-App f (map left ss) g (map right ts) ∙ ap (λ b. symbol_eq f g && b) (renames_each ss each ts)) (alike-App-App same_name f ss g ts)))

  renames_terms : (ss ts : List Term) → terms_eq (map left ss) (map right ts) ≡ alike_terms same_name ss ts
  renames_terms [] [] = refl
  renames_terms [] (t ∷ ts) = refl
  renames_terms (s ∷ ss) [] = refl
  renames_terms (s ∷ ss) (t ∷ ts) = λ i. renames s t i && renames_terms ss ts i

  renames_atom : (a b : Atom) → atom_eq (replace_in_atom (λ v. Var (h v)) a) (replace_in_atom (λ v. Var (k v)) b) ≡ alike_atoms same_name a b
  renames_atom (Holds p ss) (Holds q ts) = ap (λ b. symbol_eq p q && b) (renames_terms ss ts)
  renames_atom (Holds p ss) (Equal u v) = refl
  renames_atom (Equal s t) (Holds q ts) = refl
  renames_atom (Equal s t) (Equal u v) = λ i. renames s u i && renames t v i

  renames_list : (as' bs : List Atom) → atoms_eq (map (replace_in_atom (λ v. Var (h v))) as') (map (replace_in_atom (λ v. Var (k v))) bs) ≡ alike_lists same_name as' bs
  renames_list [] [] = refl
  renames_list [] (b ∷ bs) = refl
  renames_list (a ∷ as') [] = refl
  renames_list (a ∷ as') (b ∷ bs) = λ i. renames_atom a b i && renames_list as' bs i

  pub renames_clause : (c d : Clause) → clause_eq (replace_in (λ v. Var (h v)) c) (replace_in (λ v. Var (k v)) d) ≡ alike_clauses same_name c d
  renames_clause c d = λ i. renames_list c.constraint d.constraint i && renames_list c.antecedent d.antecedent i && renames_list c.succedent d.succedent i

-- ---- from a test that passes to another one

pass-more : (p q : ℕ → ℕ → Bool) (xs ys : List ℕ) → pass p xs ys ≡ true → ((v w : ℕ) → has v xs ≡ true → has w ys ≡ true → p v w ≡ true → q v w ≡ true) → pass q xs ys ≡ true
pass-more p q [] [] e h = refl
pass-more p q [] (y ∷ ys) e h = absurd (cc)
pass-more p q (x ∷ xs) [] e h = absurd (cc)
pass-more p q (x ∷ xs) (y ∷ ys) e h =
    let r : (p x y ≡ true) × (pass p xs ys ≡ true) = and_parts _ _ e in
    and_from (q x y) (pass q xs ys) (h x y (or_left (x == x) (has x xs) (itself x)) (or_left (y == y) (has y ys) (itself y)) r.0)
    (pass-more p q xs ys r.1 (λ v w i j. h v w (or_right (v == x) (has v xs) i) (or_right (w == y) (has w ys) j)))

-- ---- the same names come from variables that correspond

-- different elements of the list get different names
abbrev Apart : (ℕ → ℕ) → List ℕ → Type 0
Apart h xs = (v w : ℕ) → has v xs ≡ true → h v ≡ h w → v ≡ w

agreeing : (v w x y : ℕ) → (x ≡ v → y ≡ w) → (y ≡ w → x ≡ v) → agree v w x y ≡ true
agreeing v w x y f g = by_test (x == v) (y == w) refl refl
  where
    by_test : (a b : Bool) → (x == v) ≡ a → (y == w) ≡ b → (if a then b else not b) ≡ true
    by_test true true e d = refl
    by_test true false e d = absurd (false≢true (sym d ∙ eq-eqb y w (f (eqb-true x v e))))
    by_test false true e d = absurd (false≢true (sym e ∙ eq-eqb x v (g (eqb-true y w d))))
    by_test false false e d = refl

pub names_correspond : (h k : ℕ → ℕ) (xs ys : List ℕ) → Apart h xs → Apart k ys → pass (λ v w. h v == k w) xs ys ≡ true → pass (λ v w. pass (agree v w) xs ys) xs ys ≡ true
names_correspond h k xs ys hs ks e =
    pass-more (λ v w. h v == k w) (λ v w. pass (agree v w) xs ys) xs ys e
    (λ v w vs ws same.
    pass-more (λ x y. h x == k y) (agree v w) xs ys e
    (λ x y xi yi also.
    let p : h v ≡ k w = eqb-true (h v) (k w) same in
    let q : h x ≡ k y = eqb-true (h x) (k y) also in
    agreeing v w x y
    (λ t. ks y w yi (sym q ∙ ap h t ∙ p))
    (λ t. hs x v xi (q ∙ ap k t ∙ sym p))))

-- ---- variables that correspond have the same place

agree-tests : (v w x y : ℕ) → agree v w x y ≡ true → (x == v) ≡ (y == w)
agree-tests v w x y = by_test (x == v) (y == w)
  where
    by_test : (a b : Bool) → (if a then b else not b) ≡ true → a ≡ b
    by_test true true e = refl
    by_test true false e = absurd (cc)
    by_test false true e = absurd (cc)
    by_test false false e = refl

agree-has : (v w : ℕ) (xs ys : List ℕ) → pass (agree v w) xs ys ≡ true → has v xs ≡ has w ys
agree-has v w [] [] e = refl
agree-has v w [] (y ∷ ys) e = absurd (cc)
agree-has v w (x ∷ xs) [] e = absurd (cc)
agree-has v w (x ∷ xs) (y ∷ ys) e =
    let r : (agree v w x y ≡ true) × (pass (agree v w) xs ys ≡ true) = and_parts _ _ e in
    let t : (v == x) ≡ (w == y) = eqb-sym v x ∙ agree-tests v w x y r.0 ∙ eqb-sym y w in
    λ i. t i || agree-has v w xs ys r.1 i

agree-place : (v w : ℕ) (xs ys : List ℕ) → pass (agree v w) xs ys ≡ true → place_in xs v ≡ place_in ys w
agree-place v w [] [] e = refl
agree-place v w [] (y ∷ ys) e = absurd (cc)
agree-place v w (x ∷ xs) [] e = absurd (cc)
agree-place v w (x ∷ xs) (y ∷ ys) e =
    let r : (agree v w x y ≡ true) × (pass (agree v w) xs ys ≡ true) = and_parts _ _ e in
    let t = agree-tests v w x y r.0 in
    let k = agree-place v w xs ys r.1 in
    λ i. cond (not (t i)) (1 + k i) 0

-- what agrees with the two lists goes on to agree with their different elements, by first occurrence
module _ (q : ℕ → ℕ → Bool) where
  abbrev Agree : List ℕ → List ℕ → Type 0
  Agree xs ys = (v w : ℕ) → q v w ≡ true → pass (agree v w) xs ys ≡ true

  agree-noted : (x y : ℕ) (os ps : List ℕ) → q x y ≡ true → ((v w : ℕ) → q v w ≡ true → agree v w x y ≡ true) → Agree os ps → Agree (noted os x) (noted ps y)
  agree-noted x y os ps here at_these before v w e = by_test (has x os) (has y ps) (agree-has x y os ps (before x y here))
    where
      by_test : (a b : Bool) → a ≡ b → pass (agree v w) (if a then os else os ++ x ∷ []) (if b then ps else ps ++ y ∷ []) ≡ true
      by_test true true _ = before v w e
      by_test false false _ = pass-append (agree v w) (agree v w) os ps (x ∷ []) (y ∷ []) (before v w e) ∙ and_from _ _ (before v w e) (and_from _ true (at_these v w e) refl)
      by_test true false d = absurd (cc)
      by_test false true d = absurd (cc)

  agree-firsts : (xs ys os ps : List ℕ) → pass q xs ys ≡ true → Agree xs ys → Agree os ps → Agree (fold noted os xs) (fold noted ps ys)
  agree-firsts [] [] os ps e rest before = before
  agree-firsts [] (y ∷ ys) os ps e rest before = absurd (cc)
  agree-firsts (x ∷ xs) [] os ps e rest before = absurd (cc)
  agree-firsts (x ∷ xs) (y ∷ ys) os ps e rest before =
      let r : (q x y ≡ true) × (pass q xs ys ≡ true) = and_parts _ _ e in
      agree-firsts xs ys (noted os x) (noted ps y) r.1 (λ v w h. (and_parts _ _ (rest v w h)).1)
      (agree-noted x y os ps r.0 (λ v w h. (and_parts _ _ (rest v w h)).0) before)

-- ---- different variables have different places

apart : (xs : List ℕ) → Apart (place_in (firsts xs)) xs
apart xs v w e p = place-apart (firsts xs) v w (has-firsts v xs [] e) p

-- ---- variants

module _ (c d : Clause) where
  variant_by : (h k : ℕ → ℕ) → Apart h (clause_variables c) → Apart k (clause_variables d) → alike_clauses (λ v w. h v == k w) c d ≡ true → alike_clauses (correspond c d) c d ≡ true
  variant_by h k hs ks e =
      let xs = clause_variables c in
      let ys = clause_variables d in
      let zip : (q : ℕ → ℕ → Bool) → alike_clauses q c d ≡ pass q xs ys = zips_clause (λ v w. h v == k w) c d e in
      zip (correspond c d)
      ∙ pass-more (λ v w. pass (agree v w) xs ys) (correspond c d) xs ys (names_correspond h k xs ys hs ks (sym (zip (λ v w. h v == k w)) ∙ e))
      (λ v w _ _ r. zip (agree v w) ∙ r)

  corresponding : alike_clauses (correspond c d) c d ≡ true → alike_clauses (λ v w. number_in c v == number_in d w) c d ≡ true
  corresponding e =
      let xs = clause_variables c in
      let ys = clause_variables d in
      let zip : (q : ℕ → ℕ → Bool) → alike_clauses q c d ≡ pass q xs ys = zips_clause (correspond c d) c d e in
      let all : pass (correspond c d) xs ys ≡ true = sym (zip (correspond c d)) ∙ e in
      zip (λ v w. number_in c v == number_in d w)
      ∙ pass-more (correspond c d) (λ v w. number_in c v == number_in d w) xs ys all
      (λ v w _ _ q. eq-eqb _ _ (agree-place v w (firsts xs) (firsts ys)
      (agree-firsts (correspond c d) xs ys [] [] all (λ v w r. sym (zip (agree v w)) ∙ r) (λ v w r. refl) v w q)))

  pub variant-equal : alike_clauses (correspond c d) c d ≡ true → renumbered c ≡ renumbered d
  variant-equal e = clause_eq-true (renumbered c) (renumbered d) (renames_clause (number_in c) (number_in d) c d ∙ corresponding e)

  pub equal-variant : renumbered c ≡ renumbered d → alike_clauses (correspond c d) c d ≡ true
  equal-variant e =
      variant_by (number_in c) (number_in d) (apart (clause_variables c)) (apart (clause_variables d))
      (sym (renames_clause (number_in c) (number_in d) c d) ∙ clause_eq-same (renumbered c) (renumbered d) e)

pub ruleset variant_laws = (variant-equal, equal-variant)

pub ruleset order_laws = (renumbered-in_order)
