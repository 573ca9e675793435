-- Two clauses side by side: what a test of their variables says of the lists of their variables.
use Rattle.std.proofs.Common.{◌≡◌, ℕ, Bool, true, false, ◌&&◌, List, [], ◌∷◌, ◌++◌, map, refl, sym, ap, ◌∙◌}
use Rattle.std.specs.List.{flat_map}
use Rattle.std.proofs.Math.Bool.{true-and, and-true, and_assoc}
use Rattle.std.proofs.lemmas.Bool.{false≢true, and_parts}
use Rattle.spl_terms.specs.declared.term.Symbol.{Symbol}
use Rattle.spl_terms.specs.declared.term.Term.{Term, Var, App}
use Rattle.spl_terms.specs.declared.term.Term.TheViews.{outs-Var, outs-App}
use Rattle.spl_terms.specs.declared.atom.Atom.{Atom}
use Rattle.spl_terms.specs.declared.atom.Atom.TheVariants.{Holds, Equal}
use Rattle.spl_terms.specs.declared.clause.Clause.{Clause}
use Rattle.spl_terms.specs.Terms.{symbol_eq, all_pass, is_application, term_variables}
use Rattle.spl_terms.specs.Clauses.{atom_variables, clause_variables}
use Rattle.spl_terms.specs.Alike.{passing_variable, alike_step, alike, alike_terms, alike_atoms, alike_lists, alike_clauses}
pub use Rattle.spl_terms.specs.VariableLaws.{variables-parts}
use Rattle.spl_terms.specs.TermLaws.{term_symbols-App, term_symbols-positive, Each, term_induction, fold-Var, fold-App, term_variables-Var, term_variables-App}

-- ---- the equations of the definition

module _ (p : ℕ → ℕ → Bool) where
  pub alike-Var-Var : (v w : ℕ) → alike p (Var v) (Var w) ≡ p v w
  alike-Var-Var v w = ap (λ (h : Term → Bool). h (Var w)) (fold-Var (alike_step p) v) ∙ ap (passing_variable (p v)) (outs-Var w)

  pub alike-Var-App : (v : ℕ) (g : Symbol) (ts : List Term) → alike p (Var v) (App g ts) ≡ false
  alike-Var-App v g ts = ap (λ (h : Term → Bool). h (App g ts)) (fold-Var (alike_step p) v) ∙ ap (passing_variable (p v)) (outs-App g ts)

  pub alike-App-Var : (f : Symbol) (ss : List Term) (w : ℕ) → alike p (App f ss) (Var w) ≡ false
  alike-App-Var f ss w = ap (λ (h : Term → Bool). h (Var w)) (fold-App (alike_step p) f ss) ∙ ap (is_application f (map (alike p) ss)) (outs-Var w)

  all_pass-alike : (ss ts : List Term) → all_pass (map (alike p) ss) ts ≡ alike_terms p ss ts
  all_pass-alike [] [] = refl
  all_pass-alike [] (t ∷ ts) = refl
  all_pass-alike (s ∷ ss) [] = refl
  all_pass-alike (s ∷ ss) (t ∷ ts) = ap (λ b. alike p s t && b) (all_pass-alike ss ts)

  pub alike-App-App : (f : Symbol) (ss : List Term) (g : Symbol) (ts : List Term) → alike p (App f ss) (App g ts) ≡ (symbol_eq f g && alike_terms p ss ts)
  alike-App-App f ss g ts =
      ap (λ (h : Term → Bool). h (App g ts)) (fold-App (alike_step p) f ss)
      ∙ ap (is_application f (map (alike p) ss)) (outs-App g ts)
      ∙ ap (λ b. symbol_eq f g && b) (all_pass-alike ss ts)

pub ruleset alike_laws = (alike-Var-Var, alike-Var-App, alike-App-Var, alike-App-App)

pub ruleset measures = (term_symbols-App, term_symbols-positive, alike_laws)

pub alike_apps : (p : ℕ → ℕ → Bool) (s t : Term) (f g : Symbol) (ss ts as' bs : List Term) (q r : Bool) → s ≡ App f ss → t ≡ App g ts → q ≡ symbol_eq f g → q ≡ true → as' ≡ ss → bs ≡ ts → r ≡ alike_terms p as' bs → r ≡ alike p s t
alike_apps p s t f g ss ts as' bs q r p1 p2 p3 p4 p5 p6 p7 = cc (alike-App-App p f ss g ts, true-and (alike_terms p ss ts))

-- ---- two lists side by side

-- as long as one another, and the test passes at each place
abbrev pub pass : (ℕ → ℕ → Bool) → List ℕ → List ℕ → Bool
pass p [] [] = true
pass p [] (y ∷ ys) = false
pass p (x ∷ xs) [] = false
pass p (x ∷ xs) (y ∷ ys) = p x y && pass p xs ys

-- where some test passes, so that the lists are as long as one another, a test of more is one of both
pub pass-append : (p q : ℕ → ℕ → Bool) (xs ys vs ws : List ℕ) → pass p xs ys ≡ true → pass q (xs ++ vs) (ys ++ ws) ≡ (pass q xs ys && pass q vs ws)
pass-append p q [] [] vs ws e = refl
pass-append p q [] (y ∷ ys) vs ws e = absurd (cc)
pass-append p q (x ∷ xs) [] vs ws e = absurd (cc)
pass-append p q (x ∷ xs) (y ∷ ys) vs ws e =
    let r : (p x y ≡ true) × (pass p xs ys ≡ true) = and_parts _ _ e in
    ap (λ b. q x y && b) (pass-append p q xs ys vs ws r.1) ∙ sym (and_assoc (q x y) (pass q xs ys) (pass q vs ws))

-- ---- where clauses are alike, another test of them is one of their variables

module _ (p : ℕ → ℕ → Bool) where
  abbrev Zips : Term → Type 0
  Zips s = (t : Term) → alike p s t ≡ true → (q : ℕ → ℕ → Bool) → alike q s t ≡ pass q (term_variables s) (term_variables t)

  -- a list and one more element before it
  joined : (q : ℕ → ℕ → Bool) (a b : Bool) (vs ws vss wss : List ℕ) → pass p vs ws ≡ true → a ≡ pass q vs ws → b ≡ pass q vss wss → (a && b) ≡ pass q (vs ++ vss) (ws ++ wss)
  joined q a b vs ws vss wss e h k = (λ i. h i && k i) ∙ sym (pass-append p q vs ws vss wss e)

  zips_each : (ss : List Term) → Each Zips ss → (ts : List Term) → alike_terms p ss ts ≡ true → (q : ℕ → ℕ → Bool) → alike_terms q ss ts ≡ pass q (flat_map term_variables ss) (flat_map term_variables ts)
  zips_each [] each [] e q = refl
  zips_each [] each (t ∷ ts) e q = absurd (cc)
  zips_each (s ∷ ss) each [] e q = absurd (cc)
  zips_each (s ∷ ss) each (t ∷ ts) e q =
      let r : (alike p s t ≡ true) × (alike_terms p ss ts ≡ true) = and_parts _ _ e in
      joined q _ _ (term_variables s) (term_variables t) (flat_map term_variables ss) (flat_map term_variables ts) (sym (each.0 t r.0 p) ∙ r.0) (each.0 t r.0 q) (zips_each ss each.1 ts r.1 q)

  zips : (s : Term) → Zips s
  zips =
      term_induction Zips
      (λ v. term_induction (λ t. alike p (Var v) t ≡ true → (q : ℕ → ℕ → Bool) → alike q (Var v) t ≡ pass q (term_variables (Var v)) (term_variables t))
      (λ w e q. alike-Var-Var q v w ∙ sym (and-true (q v w)) ∙ (λ i. pass q (sym (term_variables-Var v) i) (sym (term_variables-Var w) i)))
      (λ g ts each e q. absurd (false≢true (sym (alike-Var-App p v g ts) ∙ e))))
      (λ f ss each. term_induction (λ t. alike p (App f ss) t ≡ true → (q : ℕ → ℕ → Bool) → alike q (App f ss) t ≡ pass q (term_variables (App f ss)) (term_variables t))
      (λ w e q. absurd (false≢true (sym (alike-App-Var p f ss w) ∙ e)))
      (λ g ts _ e q.
      let r : (symbol_eq f g ≡ true) × (alike_terms p ss ts ≡ true) = and_parts _ _ (sym (alike-App-App p f ss g ts) ∙ e) in
      alike-App-App q f ss g ts ∙ ap (λ b. b && alike_terms q ss ts) r.0 ∙ zips_each ss each ts r.1 q ∙ (λ i. pass q (sym (term_variables-App f ss) i) (sym (term_variables-App g ts) i))))

  zips_terms : (ss ts : List Term) → alike_terms p ss ts ≡ true → (q : ℕ → ℕ → Bool) → alike_terms q ss ts ≡ pass q (flat_map term_variables ss) (flat_map term_variables ts)
  zips_terms [] [] e q = refl
  zips_terms [] (t ∷ ts) e q = absurd (cc)
  zips_terms (s ∷ ss) [] e q = absurd (cc)
  zips_terms (s ∷ ss) (t ∷ ts) e q =
      let r : (alike p s t ≡ true) × (alike_terms p ss ts ≡ true) = and_parts _ _ e in
      joined q _ _ (term_variables s) (term_variables t) (flat_map term_variables ss) (flat_map term_variables ts) (sym (zips s t r.0 p) ∙ r.0) (zips s t r.0 q) (zips_terms ss ts r.1 q)

  zips_atom : (a b : Atom) → alike_atoms p a b ≡ true → (q : ℕ → ℕ → Bool) → alike_atoms q a b ≡ pass q (atom_variables a) (atom_variables b)
  zips_atom (Holds f ss) (Holds g ts) e q =
      let r : (symbol_eq f g ≡ true) × (alike_terms p ss ts ≡ true) = and_parts _ _ e in
      ap (λ b. b && alike_terms q ss ts) r.0 ∙ zips_terms ss ts r.1 q
  zips_atom (Holds f ss) (Equal u v) e q = absurd (cc)
  zips_atom (Equal s t) (Holds g ts) e q = absurd (cc)
  zips_atom (Equal s t) (Equal u v) e q =
      let r : (alike p s u ≡ true) × (alike p t v ≡ true) = and_parts _ _ e in
      ap (λ b. alike q s u && b) (sym (and-true (alike q t v))) ∙ zips_terms (s ∷ t ∷ []) (u ∷ v ∷ []) ((λ i. r.0 i && (r.1 i && true))) q

  zips_list : (as' bs : List Atom) → alike_lists p as' bs ≡ true → (q : ℕ → ℕ → Bool) → alike_lists q as' bs ≡ pass q (flat_map atom_variables as') (flat_map atom_variables bs)
  zips_list [] [] e q = refl
  zips_list [] (b ∷ bs) e q = absurd (cc)
  zips_list (a ∷ as') [] e q = absurd (cc)
  zips_list (a ∷ as') (b ∷ bs) e q =
      let r : (alike_atoms p a b ≡ true) × (alike_lists p as' bs ≡ true) = and_parts _ _ e in
      joined q _ _ (atom_variables a) (atom_variables b) (flat_map atom_variables as') (flat_map atom_variables bs) (sym (zips_atom a b r.0 p) ∙ r.0) (zips_atom a b r.0 q) (zips_list as' bs r.1 q)

  pub zips_clause : (c d : Clause) → alike_clauses p c d ≡ true → (q : ℕ → ℕ → Bool) → alike_clauses q c d ≡ pass q (clause_variables c) (clause_variables d)
  zips_clause c d e q =
      let v = flat_map atom_variables in
      let r = and_parts _ _ e in
      let l = and_parts _ _ r.0 in
      let x : (o : ℕ → ℕ → Bool) → alike_lists o c.constraint d.constraint ≡ pass o (v c.constraint) (v d.constraint) = zips_list c.constraint d.constraint l.0 in
      let y : (o : ℕ → ℕ → Bool) → alike_lists o c.antecedent d.antecedent ≡ pass o (v c.antecedent) (v d.antecedent) = zips_list c.antecedent d.antecedent l.1 in
      let z : (o : ℕ → ℕ → Bool) → alike_lists o c.succedent d.succedent ≡ pass o (v c.succedent) (v d.succedent) = zips_list c.succedent d.succedent r.1 in
      let two : (o : ℕ → ℕ → Bool) → (alike_lists o c.constraint d.constraint && alike_lists o c.antecedent d.antecedent) ≡ pass o (v c.constraint ++ v c.antecedent) (v d.constraint ++ v d.antecedent) =
      λ o. joined o _ _ (v c.constraint) (v d.constraint) (v c.antecedent) (v d.antecedent) (sym (x p) ∙ l.0) (x o) (y o) in
      joined q _ _ (v c.constraint ++ v c.antecedent) (v d.constraint ++ v d.antecedent) (v c.succedent) (v d.succedent) (sym (two p) ∙ r.0) (two q) (z q)
      ∙ (λ i. pass q (sym (variables-parts c) i) (sym (variables-parts d) i))
