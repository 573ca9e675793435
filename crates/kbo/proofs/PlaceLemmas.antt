-- Sizes of the atoms of a clause, and atoms that aren't solved.
use Rattle.std.proofs.Common.{◌≡◌, ℕ, zero, suc, ◌+◌, ◌≤◌, ◌<◌, Bool, true, false, ◌&&◌, ◌||◌, List, [], ◌∷◌, ◌++◌, length, get_or, sum_by, Some, refl, sym, ap, ◌∙◌, arith}
use Rattle.std.specs.List.{slice_get, list_any, flat_map}
use Rattle.std.proofs.Math.Bool.{and-false}
use Rattle.std.proofs.lemmas.List.Sums.{sum_by-cons}
use Rattle.spl_terms.specs.declared.term.Symbol.{Symbol}
use Rattle.spl_terms.specs.declared.term.Term.{Term, Var, App}
use Rattle.spl_terms.specs.declared.atom.Atom.{Atom}
use Rattle.spl_terms.specs.declared.atom.Atom.TheVariants.{Holds}
use Rattle.spl_terms.specs.declared.clause.Part.{Part}
use Rattle.spl_terms.specs.declared.clause.Part.TheVariants.{Constraint, Antecedent, Succedent}
use Rattle.spl_terms.specs.declared.clause.Clause.{Clause}
use Rattle.spl_terms.specs.Terms.{term_eq, terms_eq}
use Rattle.spl_terms.specs.Clauses.{atom_symbols, atom_variables, clause_symbols, part_of}
use Rattle.spl_terms.specs.SizeLaws.{symbols-parts}
use Rattle.spl_terms.specs.TermLaws.{term_eq-App-Var}
use Rattle.spl_truth.specs.Places.{is_solved}

-- ---- sizes

pub ruleset size_laws = (symbols-parts)

item_size : (as' : List Atom) (k : ℕ) (a : Atom) → Some a ≡ slice_get as' k → atom_symbols a ≤ sum_by atom_symbols as'
item_size [] k a e = absurd (cc)
item_size (b ∷ as') zero a e = let same : a ≡ b = cc in omega (arith, sum_by-cons atom_symbols b as', ap atom_symbols same)
item_size (b ∷ as') (suc k) a e = omega (arith, sum_by-cons atom_symbols b as', item_size as' k a e)

pub atom_size : (c : Clause) (part : Part) (k : ℕ) (a : Atom) → Some a ≡ slice_get (part_of c part) k → clause_symbols c ≤ 4294967295 → atom_symbols a ≤ 4294967295
atom_size c Constraint k a e h = omega (arith, symbols-parts c, item_size c.constraint k a e)
atom_size c Antecedent k a e h = omega (arith, symbols-parts c, item_size c.antecedent k a e)
atom_size c Succedent k a e h = omega (arith, symbols-parts c, item_size c.succedent k a e)

-- ---- atoms that aren't S(x)

any_none : (f : ℕ → Bool) (xs : List ℕ) → ((x : ℕ) → f x ≡ false) → list_any f xs ≡ false
any_none f [] h = refl
any_none f (x ∷ xs) h = λ i. h x i || any_none f xs h i

none_there : (l : List Term) (x : ℕ) → length l < 1 → terms_eq l (Var x ∷ []) ≡ false
none_there [] x h = refl
none_there (t ∷ l) x h = absurd (omega (arith, h))

more_there : (l : List Term) (x : ℕ) → 2 ≤ length l → terms_eq l (Var x ∷ []) ≡ false
more_there [] x h = absurd (omega (arith, h))
more_there (t ∷ []) x h = absurd (omega (arith, h))
more_there (t ∷ u ∷ l) x h = and-false (term_eq t (Var x))

application_there : (l : List Term) (d : Term) (f : Symbol) (us : List Term) (x : ℕ) → 1 ≤ length l → get_or l 0 d ≡ App f us → terms_eq l (Var x ∷ []) ≡ false
application_there [] d f us x h e = absurd (omega (arith, h))
application_there (t ∷ l) d f us x h e = ap (λ s. term_eq s (Var x) && terms_eq l []) e ∙ ap (λ b. b && terms_eq l []) (term_eq-App-Var f us x)

module _ (c : Clause) (a : Atom) (p : Symbol) (ts l : List Term) (is : a ≡ Holds p ts) (lent : l ≡ ts) where
  unsolved : ((x : ℕ) → terms_eq l (Var x ∷ []) ≡ false) → false ≡ is_solved c a
  unsolved h =
      sym (ap (is_solved c) is
      ∙ (λ i. list_any (λ x. terms_eq (sym lent i) (Var x ∷ [])) (flat_map atom_variables (c.antecedent ++ c.succedent)))
      ∙ any_none (λ x. terms_eq l (Var x ∷ [])) (flat_map atom_variables (c.antecedent ++ c.succedent)) h)

  pub no_argument : length l < 1 → false ≡ is_solved c a
  no_argument h = unsolved (λ x. none_there l x h)

  pub more_arguments : 2 ≤ length l → false ≡ is_solved c a
  more_arguments h = unsolved (λ x. more_there l x h)

  pub no_variable : (d : Term) (f : Symbol) (us : List Term) → 1 ≤ length l → get_or l 0 d ≡ App f us → false ≡ is_solved c a
  no_variable d f us h e = unsolved (λ x. application_there l d f us x h e)
