-- A term covers its instances, and an atom may become what it is mapped to.
use Rattle.std.proofs.Common.{◌≡◌, inl, inr, ℕ, zero, suc, ◌<◌, Bool, true, ◌&&◌, if◌then◌else◌, List, [], ◌∷◌, length, map, Option, Some, None, get_or, refl, sym, ap, subst, ◌∙◌, arith}
use Rattle.std.specs.Prelude.{slice_get, count_by, IsSomeAnd}
use Rattle.std.proofs.lemmas.Option.{none-some, same_Some, slice_get-get_or}
use Rattle.std.proofs.lemmas.List.Sums.{sum_by-cons}
use Rattle.spl_truth.specs.Redundancy.{MapsApart}
use Rattle.std.proofs.lemmas.Bool.{and_from, or_left, or_right}
use Rattle.spl_terms.specs.declared.term.Symbol.{Symbol}
use Rattle.spl_terms.specs.declared.term.Term.{Term, Var, App}
use Rattle.spl_terms.specs.declared.term.Term.TheViews.{outs-App}
use Rattle.spl_terms.specs.declared.atom.Atom.{Atom}
use Rattle.spl_terms.specs.declared.atom.Atom.TheVariants.{Holds, Equal}
use Rattle.spl_terms.specs.Terms.{all_pass, replace}
use Rattle.spl_terms.specs.Clauses.{is_same, replace_in_atom}
use Rattle.spl_terms.specs.SameLaws.{flipped, same_cases}
use Rattle.spl_terms.specs.TermLaws.{symbol_eq-refl, Each, term_induction, fold-Var, fold-App, replace-App}
use Rattle.unify.specs.Fitting.{may_become, covering_step, covers, all_cover}
use Rattle.subsume.specs.Candidates.{may_become_atom}

all_pass_covers : (ss ts : List Term) → all_pass (map covers ss) ts ≡ all_cover ss ts
all_pass_covers [] [] = refl
all_pass_covers [] (t ∷ ts) = refl
all_pass_covers (s ∷ ss) [] = refl
all_pass_covers (s ∷ ss) (t ∷ ts) = ap (λ b. covers s t && b) (all_pass_covers ss ts)

covers_Var : (v : ℕ) (t : Term) → covers (Var v) t ≡ true
covers_Var v t = ap (λ (h : Term → Bool). h t) (fold-Var covering_step v)

covers_App : (f : Symbol) (ss ts : List Term) → covers (App f ss) (App f ts) ≡ all_cover ss ts
covers_App f ss ts =
    ap (λ (h : Term → Bool). h (App f ts)) (fold-App covering_step f ss)
    ∙ ap (may_become f (map covers ss)) (outs-App f ts)
    ∙ ap (λ b. b && all_pass (map covers ss) ts) (symbol_eq-refl f)
    ∙ all_pass_covers ss ts

module _ (g : ℕ → Term) where
  each_covers : (ts : List Term) → Each (λ t. covers t (replace g t) ≡ true) ts → all_cover ts (map (replace g) ts) ≡ true
  each_covers [] each = refl
  each_covers (t ∷ ts) each = and_from _ _ each.0 (each_covers ts each.1)

  covers_instance : (t : Term) → covers t (replace g t) ≡ true
  covers_instance =
      term_induction (λ t. covers t (replace g t) ≡ true)
      (λ v. covers_Var v (replace g (Var v)))
      (λ f ts each. ap (covers (App f ts)) (replace-App g f ts) ∙ covers_App f ts (map (replace g) ts) ∙ each_covers ts each)

  cover_instances : (ts : List Term) → all_cover ts (map (replace g) ts) ≡ true
  cover_instances [] = refl
  cover_instances (t ∷ ts) = and_from _ _ (covers_instance t) (cover_instances ts)

  becomes_image : (a : Atom) → may_become_atom a (replace_in_atom g a) ≡ true
  becomes_image (Holds p ts) = and_from _ _ (symbol_eq-refl p) (cover_instances ts)
  becomes_image (Equal s t) = or_left _ _ (and_from _ _ (covers_instance s) (covers_instance t))

  becomes_flipped : (a : Atom) → may_become_atom a (flipped (replace_in_atom g a)) ≡ true
  becomes_flipped (Holds p ts) = and_from _ _ (symbol_eq-refl p) (cover_instances ts)
  becomes_flipped (Equal s t) = or_right (covers s (replace g t) && covers t (replace g s)) _ (and_from _ _ (covers_instance s) (covers_instance t))

  -- an atom may become what is the same as an instance
  pub becomes_same : (a b : Atom) → is_same (replace_in_atom g a) b ≡ true → may_become_atom a b ≡ true
  becomes_same a b e = elim (same_cases (replace_in_atom g a) b e) [
    | inl h ↦ subst (λ x. may_become_atom a x ≡ true) h (becomes_image a)
    | inr h ↦ subst (λ x. may_become_atom a x ≡ true) h (becomes_flipped a)
  ]

-- ---- atoms without a candidate

counts_one : (p : Atom → Bool) (xs : List Atom) (k : ℕ) (b : Atom) → slice_get xs k ≡ Some b → p b ≡ true → 0 < count_by p xs
counts_one p [] k b e h = absurd (none-some b e)
counts_one p (x ∷ xs) zero b e h = omega (arith, sum_by-cons (λ y. if p y then 1 else 0) x xs, ap (λ (t : Bool). let one : ℕ = 1 in if t then one else 0) (ap p (same_Some x b e) ∙ h))
counts_one p (x ∷ xs) (suc k) b e h = omega (arith, sum_by-cons (λ y. if p y then 1 else 0) x xs, counts_one p xs k b e h)

some_there : {X : Type 0} (P : X → Type 0) (o : Option X) → IsSomeAnd o P → (x : X) × (o ≡ Some x) × P x
some_there P None h = absurd h
some_there P (Some x) h = (x, refl, h)

pub no_candidate : (atoms into : List Atom) (i : ℕ) (a : Atom) (n : ℕ) → i < length atoms → a ≡ get_or atoms i a → n ≡ count_by (may_become_atom a) into → n ≡ 0 → (g : ℕ → Term) → MapsApart g atoms into → ⊥
no_candidate atoms into i a n low at count none g m =
    let here : slice_get atoms i ≡ Some a = slice_get-get_or atoms i a low ∙ ap Some (sym at) in
    let t = some_there (λ b. is_same (replace_in_atom g a) b ≡ true) (slice_get into (m.place i)) (m.same i a here) in
    omega (arith, count, none, counts_one (may_become_atom a) into (m.place i) t.0 t.1 (becomes_same g a t.0 t.2))
