-- The arguments of Skolem terms, from the variables that occur in a part: where its bindings have numbers of their own, those
-- that stand in the scope are free.
use Rattle.std.proofs.Common.{◌≡◌, inl, inr, ℕ, Bool, true, false, not, ◌&&◌, ◌||◌, ◌==◌, if◌then◌else◌, List, [], ◌∷◌, ◌++◌, map, refl, sym, subst, ap, ◌∙◌}
use Rattle.std.specs.List.{list_any, concat, filter, flat_map}
use Rattle.std.proofs.lemmas.Bool.{eqb-true, eq-eqb, or_cases, or_left, or_right, cases_Bool, false≢true}
use Rattle.std.proofs.lemmas.List.Folds.{list_any-append}
use Rattle.spl_terms.specs.declared.term.Term.{Var}
use Rattle.spl_terms.specs.Terms.{term_variables}
use Rattle.spl_terms.specs.TermLaws.{term_variables-Var}
use Rattle.formulas.specs.declared.tree.Tree.{Tree, Tree-F}
use Rattle.formulas.specs.declared.tree.Tree.TheOpen as layer
use Rattle.formulas.specs.declared.tree.Tree.TheViews.{roll-Tree}
use Rattle.formulas.specs.declared.tree.Tree.TheFolds.{map-Tree, fold-roll-Tree, ind-Tree}
use Rattle.formulas.specs.Negations.{Form, signed_form}
use Rattle.normal_form.specs.Skolem.{free_variables, Place, skolem_arguments}
use Rattle.formulas.specs.Bindings.{is_member, free_step, is_free, bindings_step, bindings}
use Rattle.normal_form.specs.Occurring.{occurring_step, occurring}
use Rattle.normal_form.proofs.Members.{member_flat_map}
use Rattle.normal_form.proofs.Truths.{form-free}
use Rattle.normal_form.proofs.Separate.{Disjoint}
use Rattle.normal_form.proofs.Blocks.{found}

-- ---- what occurs is free or bound

shuffled : (o b f o' b' f' : Bool) → (o || b) ≡ (f || b) → (o' || b') ≡ (f' || b') → ((o || o') || (b || b')) ≡ ((f || f') || (b || b'))
shuffled true b true o' b' f' p q = refl
shuffled false b false o' true f' p q = both_true o' f' b
  where
    end_true : (x y : Bool) → (x || (y || true)) ≡ true
    end_true true y = refl
    end_true false true = refl
    end_true false false = refl

    both_true : (x z y : Bool) → (x || (y || true)) ≡ (z || (y || true))
    both_true x z y = end_true x y ∙ sym (end_true z y)
shuffled false b false true false true p q = refl
shuffled false b false true false false p q = absurd (false≢true (sym q))
shuffled false b false false false true p q = absurd (false≢true q)
shuffled false b false false false false p q = refl
shuffled true true false o' b' f' p q = at o' f'
  where
    at : (x z : Bool) → true ≡ (z || true)
    at x true = refl
    at x false = refl
shuffled false true true o' b' f' p q = at o'
  where
    at : (x : Bool) → (x || true) ≡ true
    at true = refl
    at false = refl
shuffled true false false o' b' f' p q = absurd (false≢true (sym p))
shuffled false false true o' b' f' p q = absurd (false≢true p)

bound : (o b f e : Bool) → (o || b) ≡ (f || b) → (o || (e || b)) ≡ ((not e && f) || (e || b))
bound o b f true h = at o
  where
    at : (x : Bool) → (x || true) ≡ true
    at true = refl
    at false = refl
bound o b f false h = h

module _ (v : ℕ) where
  abbrev IsTold : Tree → Type 0
  IsTold t = (is_member v (occurring t) || is_member v (bindings t)) ≡ (is_free v t || is_member v (bindings t))

  abbrev Told : Type 0
  Told = (t : Tree) × IsTold t

  abbrev trees : List Told → List Tree
  trees es = map (λ (e : Told). e.0) es

  member_append : (xs ys : List ℕ) → is_member v (xs ++ ys) ≡ (is_member v xs || is_member v ys)
  member_append xs ys = list_any-append (λ w. v == w) xs ys

  told_two : (xs ys bs cs : List ℕ) (f g : Bool) → (is_member v xs || is_member v bs) ≡ (f || is_member v bs) → (is_member v ys || is_member v cs) ≡ (g || is_member v cs)
      → (is_member v (xs ++ ys) || is_member v (bs ++ cs)) ≡ ((f || g) || is_member v (bs ++ cs))
  told_two xs ys bs cs f g p q =
      (λ i. member_append xs ys i || member_append bs cs i)
      ∙ shuffled (is_member v xs) (is_member v bs) f (is_member v ys) (is_member v cs) g p q
      ∙ sym (ap (λ b. (f || g) || b) (member_append bs cs))

  told_all : (es : List Told) → (is_member v (concat (map occurring (trees es))) || is_member v (concat (map bindings (trees es)))) ≡ (list_any (λ b. b) (map (is_free v) (trees es)) || is_member v (concat (map bindings (trees es))))
  told_all [] = refl
  told_all (e ∷ es) = told_two (occurring e.0) (concat (map occurring (trees es))) (bindings e.0) (concat (map bindings (trees es))) (is_free v e.0) (list_any (λ b. b) (map (is_free v) (trees es))) e.1 (told_all es)

  abbrev opened : Tree-F Told → Tree-F Tree
  opened y = map-Tree Told Tree (λ e. e.0) y

  told_layer : (y : Tree-F Told) →
      (is_member v (occurring_step (map-Tree Tree (List ℕ) occurring (opened y))) || is_member v (bindings_step (map-Tree Tree (List ℕ) bindings (opened y))))
      ≡ (free_step v (map-Tree Tree Bool (is_free v) (opened y)) || is_member v (bindings_step (map-Tree Tree (List ℕ) bindings (opened y))))
  told_layer layer.True = refl
  told_layer layer.False = refl
  told_layer (layer.Atom a) = refl
  told_layer (layer.Not e) = e.1
  told_layer (layer.And es) = told_all es
  told_layer (layer.Or es) = told_all es
  told_layer (layer.Implies e f) = told_two (occurring e.0) (occurring f.0) (bindings e.0) (bindings f.0) (is_free v e.0) (is_free v f.0) e.1 f.1
  told_layer (layer.Equiv e f) = told_two (occurring e.0) (occurring f.0) (bindings e.0) (bindings f.0) (is_free v e.0) (is_free v f.0) e.1 f.1
  told_layer (layer.Forall x e) = bound (is_member v (occurring e.0)) (is_member v (bindings e.0)) (is_free v e.0) (v == x) e.1
  told_layer (layer.Exists x e) = bound (is_member v (occurring e.0)) (is_member v (bindings e.0)) (is_free v e.0) (v == x) e.1

  -- apart from bound variables, those that occur are the free ones
  pub told : (t : Tree) → IsTold t
  told = ind-Tree IsTold (λ x y is. subst (λ z. IsTold (roll-Tree z)) is (
      (let o = fold-roll-Tree (List ℕ) occurring_step (opened y) in
      let b = fold-roll-Tree (List ℕ) bindings_step (opened y) in
      let f = fold-roll-Tree Bool (free_step v) (opened y) in
      (λ i. is_member v (o i) || is_member v (b i)) ∙ told_layer y ∙ sym (λ i. f i || is_member v (b i)))))

-- ---- arguments

filter_same : (test other : ℕ → Bool) (xs : List ℕ) → ((u : ℕ) → is_member u xs ≡ true → test u ≡ other u) → filter test xs ≡ filter other xs
filter_same test other [] h = refl
filter_same test other (x ∷ xs) h =
    let here = h x (or_left (x == x) (is_member x xs) (eq-eqb x x refl)) in
    let rest = filter_same test other xs (λ u k. h u (or_right (u == x) (is_member u xs) k)) in
    λ i. if here i then x ∷ rest i else rest i

same_answers : (a b : Bool) → (a ≡ true → b ≡ true) → (b ≡ true → a ≡ true) → a ≡ b
same_answers true b f g = sym (f refl)
same_answers false true f g = g refl
same_answers false false f g = refl

without_bound : (o b f : Bool) → (o || b) ≡ (f || b) → b ≡ false → o ≡ f
without_bound true true f h e = absurd (false≢true (sym e))
without_bound false true f h e = absurd (false≢true (sym e))
without_bound true false true h e = refl
without_bound true false false h e = absurd (false≢true (sym h))
without_bound false false true h e = absurd (false≢true h)
without_bound false false false h e = refl

module _ (t : Tree) (sign : Bool) (p : Place) (own : (v : ℕ) → is_member v (bindings t) ≡ true → p.term_of v ≡ Var v) (fresh : Disjoint p.scope (bindings t)) where
  abbrev part : Form
  part = signed_form t sign

  abbrev variables_at : ℕ → List ℕ
  variables_at v = term_variables (p.term_of v)

  -- a variable of the scope doesn't come from one that is bound in the part
  from_outside : (u v : ℕ) → is_member u p.scope ≡ true → is_member u (variables_at v) ≡ true → is_member v (bindings t) ≡ true → ⊥
  from_outside u v scope inside e =
      let lone : is_member u (v ∷ []) ≡ true = ap (is_member u) (sym (term_variables-Var v)) ∙ ap (λ s. is_member u (term_variables s)) (sym (own v e)) ∙ inside in
      elim (or_cases (u == v) false lone) [
        | inl same ↦ false≢true (sym (fresh u scope) ∙ ap (λ w. is_member w (bindings t)) (eqb-true u v same) ∙ e)
        | inr k ↦ false≢true k
      ]

  agrees : (u v : ℕ) → is_member u p.scope ≡ true → is_member u (variables_at v) ≡ true → is_member v (occurring t) ≡ is_member v (free_variables part)
  agrees u v scope inside = elim (cases_Bool (is_member v (bindings t))) [
    | inl e ↦ absurd (from_outside u v scope inside e)
    | inr e ↦ without_bound (is_member v (occurring t)) (is_member v (bindings t)) (is_free v t) (told v t) e ∙ sym (form-free v t sign)
  ]

  forth : (u : ℕ) → is_member u p.scope ≡ true → is_member u (flat_map variables_at (occurring t)) ≡ true → is_member u (flat_map variables_at (free_variables part)) ≡ true
  forth u scope h =
      let r = found variables_at u (occurring t) h in
      member_flat_map variables_at r.at u (free_variables part) (sym (agrees u r.at scope r.inside) ∙ r.among) r.inside

  back : (u : ℕ) → is_member u p.scope ≡ true → is_member u (flat_map variables_at (free_variables part)) ≡ true → is_member u (flat_map variables_at (occurring t)) ≡ true
  back u scope h =
      let r = found variables_at u (free_variables part) h in
      member_flat_map variables_at r.at u (occurring t) (agrees u r.at scope r.inside ∙ r.among) r.inside

  -- the arguments at a place are the variables of the scope that stand in the terms of what occurs
  pub arguments-occurring : filter (λ u. is_member u (flat_map variables_at (occurring t))) p.scope ≡ skolem_arguments part p
  arguments-occurring =
      filter_same (λ u. is_member u (flat_map variables_at (occurring t))) (λ u. is_member u (flat_map variables_at (free_variables part))) p.scope
      (λ u scope. same_answers (is_member u (flat_map variables_at (occurring t))) (is_member u (flat_map variables_at (free_variables part))) (forth u scope) (back u scope))
