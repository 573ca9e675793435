-- The law of replacing equals: where u stands at a path in a term or an atom, and w in its place gives another one, the
-- ground instances of the two are equal, or equally true, wherever those of u and w are equal. Ground
-- axioms of equality force this, finitely many for each path.
use Rattle.std.proofs.Common.{◌≡◌, ℕ, zero, suc, Bool, true, not, ◌||◌, List, [], ◌∷◌, ◌++◌, map, Some, None, option_and_then, refl, sym, ap, subst, ◌∙◌}
use Rattle.std.specs.List.{list_all, list_any, slice_get}
use Rattle.std.proofs.lemmas.List.{map-append}
use Rattle.spl_terms.specs.declared.term.Symbol.{Symbol}
use Rattle.spl_terms.specs.declared.term.Term.{Term, App}
use Rattle.spl_terms.specs.declared.term.Term.TheViews.{outs-Var, outs-App}
use Rattle.spl_terms.specs.declared.atom.Atom.{Atom}
use Rattle.spl_terms.specs.declared.atom.Atom.TheVariants.{Holds, Equal}
use Rattle.spl_terms.specs.declared.clause.Part.{Part}
use Rattle.spl_terms.specs.declared.clause.Part.TheVariants.{Constraint, Antecedent, Succedent}
use Rattle.spl_terms.specs.declared.clause.Spot.{Spot}
use Rattle.spl_terms.specs.declared.clause.Clause.{Clause}
use Rattle.spl_terms.specs.Terms.{is_ground_term, replace}
use Rattle.spl_terms.specs.Clauses.{replace_in_atom, replace_in}
use Rattle.spl_terms.specs.TermLaws.{term_induction, replace-App}
use Rattle.spl_truth.specs.Truth.{truth}
use Rattle.spl_truth.specs.InstanceLaws.{at_each, AllGround, ground-replace, ground-replace_all}
use Rattle.proof_steps.specs.Spots.{changed_at, arguments_step, with_arguments_step, subterm, with_subterm, term_under, with_term_under, atom_at, with_part, with_term_at}
use Rattle.justification.proofs.Options.{chained}
use Rattle.justification.proofs.Forced.{Forced, forced_always, forced_then, forced_both, equal_in_function, equal_in_predicate, equal_on_left, equal_on_right}

-- what stands before and after an item of a list
around : (k : ℕ) (ts : List Term) (t : Term) → slice_get ts k ≡ Some t → (before : List Term) × (after : List Term) × (ts ≡ before ++ t ∷ after) × ((f : Term → Term) → changed_at k f ts ≡ before ++ f t ∷ after)
around k [] t e = absurd (cc)
around zero (x ∷ ts) t e = let h : x ≡ t = cc in ([], ts, ap (λ y. y ∷ ts) h, λ f. ap (λ y. f y ∷ ts) h)
around (suc k) (x ∷ ts) t e = let r = around k ts t e in (x ∷ r.0, r.1, ap (λ l. x ∷ l) r.2, λ f. ap (λ l. x ∷ l) (r.3 f))

module _ (clauses : List Clause) (g : ℕ → Term) (all : AllGround g) (u w : Term) where
  -- forced wherever the instances of u and w are equal
  abbrev pub Where : ((Atom → Bool) → Type 0) → Type 0
  Where Fact = Forced clauses (λ b. b (Equal (replace g u) (replace g w)) ≡ true → Fact b)

  abbrev EqualAt : List ℕ → Term → Type 0
  EqualAt path t = Where (λ b. b (Equal (replace g t) (replace g (with_subterm path w t))) ≡ true)

  at_argument : (k : ℕ) (path : List ℕ) → ((s : Term) → subterm path s ≡ Some u → EqualAt path s) → (f : Symbol) (ts : List Term) → subterm (k ∷ path) (App f ts) ≡ Some u → EqualAt (k ∷ path) (App f ts)
  at_argument k path below f ts e =
      let here = chained (subterm path) (slice_get ts k) u (ap (λ l. option_and_then (subterm path) (slice_get l k)) (sym (ap arguments_step (outs-App f ts))) ∙ e) in
      let s : Term = here.0 in
      let s' : Term = with_subterm path w s in
      let r = around k ts s here.1 in
      let before : List Term = map (replace g) r.0 in
      let after : List Term = map (replace g) r.1 in
      let one : replace g (App f ts) ≡ App f (before ++ replace g s ∷ after) = replace-App g f ts ∙ ap (λ l. App f (map (replace g) l)) r.2 ∙ ap (App f) (map-append (replace g) r.0 (s ∷ r.1)) in
      let changed : with_subterm (k ∷ path) w (App f ts) ≡ App f (r.0 ++ s' ∷ r.1) = ap (with_arguments_step (changed_at k (with_subterm path w))) (outs-App f ts) ∙ ap (App f) (r.3 (with_subterm path w)) in
      let other : replace g (with_subterm (k ∷ path) w (App f ts)) ≡ App f (before ++ replace g s' ∷ after) = ap (replace g) changed ∙ replace-App g f (r.0 ++ s' ∷ r.1) ∙ ap (App f) (map-append (replace g) r.0 (s' ∷ r.1)) in
      let step = equal_in_function clauses f before (replace g s) (replace g s') after (ground-replace g all s) (ground-replace g all s')
      (ap is_ground_term (sym one) ∙ ground-replace g all (App f ts)) (ap is_ground_term (sym other) ∙ ground-replace g all (with_subterm (k ∷ path) w (App f ts))) in
      forced_then clauses (forced_both clauses (below s here.2) step) (λ b h equal. (λ i. b (Equal (one i) (other i))) ∙ h.1 (h.0 equal))

  -- a term is equal to what it becomes
  pub replaced_in_term : (path : List ℕ) (t : Term) → subterm path t ≡ Some u → Where (λ b. b (Equal (replace g t) (replace g (with_subterm path w t))) ≡ true)
  replaced_in_term [] t e = let same : t ≡ u = cc in forced_always clauses (λ b equal. ap (λ x. b (Equal (replace g x) (replace g w))) same ∙ equal)
  replaced_in_term (k ∷ path) t e =
      term_induction (λ t. subterm (k ∷ path) t ≡ Some u → EqualAt (k ∷ path) t)
      (λ v e. let none : None ≡ Some u = ap (λ l. option_and_then (subterm path) (slice_get l k)) (sym (ap arguments_step (outs-Var v))) ∙ e in absurd (cc))
      (λ f ts _ e. at_argument k path (replaced_in_term path) f ts e)
      t e

  -- an atom is as true as what it becomes
  pub replaced_in_atom : (path : List ℕ) (a : Atom) → term_under path a ≡ Some u → Where (λ b. b (replace_in_atom g a) ≡ b (replace_in_atom g (with_term_under path w a)))
  replaced_in_atom [] a e = absurd (cc)
  replaced_in_atom (k ∷ path) (Holds p ts) e =
      let here = chained (subterm path) (slice_get ts k) u e in
      let s : Term = here.0 in
      let s' : Term = with_subterm path w s in
      let r = around k ts s here.1 in
      let before : List Term = map (replace g) r.0 in
      let after : List Term = map (replace g) r.1 in
      let one : map (replace g) ts ≡ before ++ replace g s ∷ after = ap (map (replace g)) r.2 ∙ map-append (replace g) r.0 (s ∷ r.1) in
      let other : map (replace g) (changed_at k (with_subterm path w) ts) ≡ before ++ replace g s' ∷ after = ap (map (replace g)) (r.3 (with_subterm path w)) ∙ map-append (replace g) r.0 (s' ∷ r.1) in
      let step = equal_in_predicate clauses p before (replace g s) (replace g s') after (ground-replace g all s) (ground-replace g all s')
      (ap (list_all is_ground_term) (sym one) ∙ ground-replace_all g all ts) (ap (list_all is_ground_term) (sym other) ∙ ground-replace_all g all (changed_at k (with_subterm path w) ts)) in
      forced_then clauses (forced_both clauses (replaced_in_term path s here.2) step) (λ b h equal. ap (λ l. b (Holds p l)) one ∙ h.1 (h.0 equal) ∙ ap (λ l. b (Holds p l)) (sym other))
  replaced_in_atom (zero ∷ path) (Equal s t) e =
      let s' : Term = with_subterm path w s in
      forced_then clauses (forced_both clauses (replaced_in_term path s e) (equal_on_left clauses (replace g s) (replace g s') (replace g t) (ground-replace g all s) (ground-replace g all s') (ground-replace g all t))) (λ b h equal. h.1 (h.0 equal))
  replaced_in_atom (suc zero ∷ path) (Equal s t) e =
      let t' : Term = with_subterm path w t in
      forced_then clauses (forced_both clauses (replaced_in_term path t e) (equal_on_right clauses (replace g s) (replace g t) (replace g t') (ground-replace g all s) (ground-replace g all t) (ground-replace g all t'))) (λ b h equal. h.1 (h.0 equal))
  replaced_in_atom (suc (suc k) ∷ path) (Equal s t) e = forced_always clauses (λ b equal. refl)
