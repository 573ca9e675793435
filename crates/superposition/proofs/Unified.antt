-- Unifiers of atoms as those of terms, and what bindings stand for.
use Rattle.std.proofs.Common.{◌≡◌, ℕ, zero, suc, ◌+◌, ◌<◌, ◌≤◌, true, false, ◌&&◌, ◌==◌, ◌||◌, All, List, [], ◌∷◌, ◌++◌, length, map, take, drop, Some, None, refl, sym, ap, ◌∙◌, subst, arith}
use Rattle.spl_terms.specs.declared.term.Symbol.{Symbol}
use Rattle.spl_terms.specs.declared.term.Term.{Term, Var, App}
use Rattle.spl_terms.specs.declared.atom.Atom.{Atom}
use Rattle.spl_terms.specs.declared.atom.Atom.TheVariants.{Holds, Equal}
use Rattle.std.specs.List.{AllByRecursion, list_any}
use Rattle.std.proofs.lemmas.List.{take-append-le, drop-append-le}
use Rattle.std.proofs.Math.Seq.{take-length, drop-length}
use Rattle.std.proofs.Math.Bool.{and-false}
use Rattle.std.proofs.lemmas.List.Elements.{recursion_from_All}
use Rattle.std.proofs.lemmas.Bool.{ne_eqb}
use Rattle.spl_terms.specs.Terms.{symbol_eq, term_variables}
use Rattle.spl_terms.specs.TermLaws.{Each, term_induction, replace-Var, replace-App, term_variables-App, symbol_eq-true}
use Rattle.spl_truth.specs.Truth.{entry}
use Rattle.spl_truth.specs.EntryLaws.{length-entries_below, entry-entries_below}
use Rattle.spl_truth.specs.Unifiers.{HasVariablesBelow, HaveVariablesBelow, ForTermsBelow, IsUnifierOrNone, IsMostGeneral, entries_below, occurs, unifier}
use Rattle.calculus.specs.Inferences.{atom_unifier}
use Rattle.calculus.specs.LiftingLaws.{length-unifier}
use Rattle.unify.specs.Fitting.{fits, all_fit}
use Rattle.unify.specs.FittingLaws.{fits-Var, fits-App-Var, fits-App-App, misfit_exact}
use Rattle.superposition.specs.Words.{IsAtomBelow}
use Rattle.superposition.specs.Pairs.{raised}

pub ruleset replace_laws = (replace-Var, replace-App)

-- the atom as a term has its variables
term_below : (vars : ℕ) (f : Symbol) (ts : List Term) → IsAtomBelow vars (Holds f ts) → HasVariablesBelow vars (App f ts)
term_below vars f ts h = subst (λ vs. All (λ v. v < vars) vs) (sym (term_variables-App f ts)) h

-- atoms of two predicates have no unifier
pub heads_apart : ForTermsBelow IsUnifierOrNone → (vars : ℕ) (a b : Atom) (f g : Symbol) (ss ts : List Term) → a ≡ Holds f ss → b ≡ Holds g ts → IsAtomBelow vars a → IsAtomBelow vars b → symbol_eq f g ≡ false → None ≡ atom_unifier vars a b
heads_apart law vars a b f g ss ts is other h k apart =
    let x : HasVariablesBelow vars (App f ss) = term_below vars f ss (subst (IsAtomBelow vars) is h) in
    let y : HasVariablesBelow vars (App g ts) = term_below vars g ts (subst (IsAtomBelow vars) other k) in
    misfit_exact vars (App f ss) (App g ts) x y law (fits-App-App f ss g ts ∙ ap (λ b. b && all_fit ss ts) apart) ∙ sym (λ i. atom_unifier vars (is i) (other i))

-- those of one predicate have that of their arguments
pub heads_alike : (vars : ℕ) (a b : Atom) (f g : Symbol) (ss ts ss' ts' : List Term) → a ≡ Holds f ss → b ≡ Holds g ts → symbol_eq f g ≡ true → ss' ≡ ss → ts' ≡ ts → unifier vars (App f ss') (App f ts') ≡ atom_unifier vars a b
heads_alike vars a b f g ss ts ss' ts' is other same here there = (λ i. unifier vars (App f (here i)) (App (symbol_eq-true f g same i) (there i))) ∙ sym (λ i. atom_unifier vars (is i) (other i))

-- how many entries the unifier has
pub length-atom_unifier : (vars : ℕ) (a b : Atom) (u : List Term) → atom_unifier vars a b ≡ Some u → length u ≡ vars
length-atom_unifier vars (Holds f ss) (Holds g ts) u e = length-unifier vars (App f ss) (App g ts) u e
length-atom_unifier vars (Holds f ss) (Equal s t) u e = absurd (cc)
length-atom_unifier vars (Equal s t) b u e = absurd (cc)

-- ---- terms that fit, with their variables raised

module _ (lift : ℕ) where
  abbrev FitAlike : Term → Type 0
  FitAlike s = (t : Term) → fits s (raised lift t) ≡ fits s t

  each_alike : (ss ts : List Term) → Each FitAlike ss → all_fit ss (map (raised lift) ts) ≡ all_fit ss ts
  each_alike [] [] each = refl
  each_alike [] (t ∷ ts) each = refl
  each_alike (s ∷ ss) [] each = refl
  each_alike (s ∷ ss) (t ∷ ts) each = λ i. each.0 t i && each_alike ss ts each.1 i

  pub fits_alike : (s : Term) → FitAlike s
  fits_alike =
      term_induction FitAlike
      (λ v t. fits-Var v (raised lift t) ∙ sym (fits-Var v t))
      (λ f ss each. term_induction (λ t. fits (App f ss) (raised lift t) ≡ fits (App f ss) t)
      (λ w. ap (fits (App f ss)) (replace-Var (λ v. Var (lift + v)) w) ∙ fits-App-Var f ss (lift + w) ∙ sym (fits-App-Var f ss w))
      (λ g ts _. ap (fits (App f ss)) (replace-App (λ v. Var (lift + v)) g ts) ∙ fits-App-App f ss g (map (raised lift) ts) ∙ ap (λ b. symbol_eq f g && b) (each_alike ss ts each) ∙ sym (fits-App-App f ss g ts)))

  all_alike : (ss ts : List Term) → all_fit ss (map (raised lift) ts) ≡ all_fit ss ts
  all_alike [] [] = refl
  all_alike [] (t ∷ ts) = refl
  all_alike (s ∷ ss) [] = refl
  all_alike (s ∷ ss) (t ∷ ts) = λ i. fits_alike s t i && all_alike ss ts i

-- lists of arguments that don't fit have no unifier once the variables of the second one are raised
pub arguments_apart : ForTermsBelow IsUnifierOrNone → (vars lift : ℕ) (ss ts : List Term) → HaveVariablesBelow vars ss → HaveVariablesBelow vars (map (raised lift) ts) → all_fit ss ts ≡ false → (f : Symbol) → None ≡ unifier vars (App f ss) (App f (map (raised lift) ts))
arguments_apart law vars lift ss ts h k apart f =
    let x : HasVariablesBelow vars (App f ss) = term_below vars f ss h in
    let y : HasVariablesBelow vars (App f (map (raised lift) ts)) = term_below vars f (map (raised lift) ts) k in
    misfit_exact vars (App f ss) (App f (map (raised lift) ts)) x y law (fits-App-App f ss f (map (raised lift) ts) ∙ ap (λ b. symbol_eq f f && b) (all_alike lift ss ts ∙ apart) ∙ and-false (symbol_eq f f))

-- nor have terms
pub terms_apart : ForTermsBelow IsUnifierOrNone → (vars lift : ℕ) (s t : Term) → HasVariablesBelow vars s → HasVariablesBelow vars (raised lift t) → fits s t ≡ false → None ≡ unifier vars s (raised lift t)
terms_apart law vars lift s t h k apart = misfit_exact vars s (raised lift t) h k law (fits_alike lift s t ∙ apart)

-- ---- bindings written out

pub entries_next : (from n : ℕ) (s : ℕ → Term) → from ≤ n → drop from (entries_below n s) ++ s n ∷ [] ≡ drop from (entries_below (n + 1) s)
entries_next from n s h =
    let next : suc n ≡ n + 1 = omega arith in
    sym (drop-append-le from (entries_below n s) (s n ∷ []) (omega (arith, length-entries_below n s))) ∙ ap (λ m. drop from (entries_below m s)) next

pub entries_none : (n : ℕ) (s : ℕ → Term) → [] ≡ drop n (entries_below n s)
entries_none n s = sym (ap (λ k. drop k (entries_below n s)) (sym (length-entries_below n s)) ∙ drop-length (entries_below n s))

-- the first entries of more
entries_first : (n more : ℕ) (s : ℕ → Term) → take n (entries_below (more + n) s) ≡ entries_below n s
entries_first n zero s =
    let none : 0 + n ≡ n = omega arith in
    ap (λ k. take n (entries_below k s)) none ∙ ap (λ k. take k (entries_below n s)) (sym (length-entries_below n s)) ∙ take-length (entries_below n s)
entries_first n (suc more) s =
    let next : suc more + n ≡ suc (more + n) = omega arith in
    ap (λ k. take n (entries_below k s)) next
    ∙ take-append-le n (entries_below (more + n) s) (s (more + n) ∷ []) (omega (arith, length-entries_below (more + n) s))
    ∙ entries_first n more s

pub first_entries : (n m all : ℕ) (s : ℕ → Term) → all ≡ n + m → entries_below n s ≡ take n (entries_below all s)
first_entries n m all s is =
    let other : m + n ≡ all = omega (arith, is) in
    sym (ap (λ k. take n (entries_below k s)) (sym other) ∙ entries_first n m s)

-- ---- what the entries say of each variable

not_there : (n v : ℕ) (vs : List ℕ) → AllByRecursion (λ w. w < n) vs → n ≤ v → list_any (λ w. v == w) vs ≡ false
not_there n v [] h past = refl
not_there n v (w ∷ vs) h past =
    let low : w < n = h.0 in
    ap (λ b. b || list_any (λ x. v == x) vs) (ne_eqb v w (λ e. (let same : v ≡ w = e in omega (arith, same, low, past)))) ∙ not_there n v vs h.1 past

above_all : (n v : ℕ) (t : Term) → HasVariablesBelow n t → n ≤ v → occurs v t ≡ false
above_all n v t h past = not_there n v (term_variables t) (recursion_from_All (λ w. w < n) (term_variables t) h) past

pub entries_are : (n : ℕ) (a b : Term) (s : ℕ → Term) → HasVariablesBelow n a → HasVariablesBelow n b → IsMostGeneral a b s → entry (entries_below n s) ≡ s
entries_are n a b s h k general = entry-entries_below n s (λ v past. general.others v (above_all n v a h past) (above_all n v b k past))
