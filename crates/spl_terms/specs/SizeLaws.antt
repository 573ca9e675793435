-- Laws with their proofs, not definitions that a reader must believe: how many symbols and variables terms, atoms and clauses
-- have, also where atoms are added or dropped and variables renumbered.
use Rattle.std.proofs.Common.{◌≡◌, inl, inr, ℕ, ◌+◌, ◌≤◌, Bool, true, false, if◌then◌else◌, nat_eq, List, [], ◌∷◌, ◌++◌, length, map, sum, sum_by, fold, refl, sym, ap, ◌∙◌, arith, length-append}
use Rattle.std.specs.List.{list_any, flat_map}
use Rattle.std.proofs.lemmas.Bool.{cases_Bool}
use Rattle.std.proofs.lemmas.List.Sums.{sum_by-append, sum_by-cons, sum_by_push}
use Rattle.spl_terms.specs.declared.term.Term.{Term, Var}
use Rattle.spl_terms.specs.declared.atom.Atom.{Atom}
use Rattle.spl_terms.specs.declared.atom.Atom.TheVariants.{Holds, Equal}
use Rattle.spl_terms.specs.declared.clause.Part.{Part}
use Rattle.spl_terms.specs.declared.clause.Part.TheVariants.{Constraint, Antecedent, Succedent}
use Rattle.spl_terms.specs.declared.clause.Clause.{Clause}
use Rattle.spl_terms.specs.Terms.{term_symbols, term_variables, replace}
use Rattle.spl_terms.specs.Clauses.{atom_symbols, atom_variables, atoms_of, clause_symbols, clause_variables, is_same, added, noted, firsts, number_in, at_lists, distinct, replace_in_atom, renumbered, in_order, part_of, with_atom}
use Rattle.spl_terms.specs.TermLaws.{Each, term_induction, term_symbols-Var, term_symbols-App, term_variables-Var, term_variables-App, replace-Var, replace-App}

-- ---- there are no more variables than symbols

few_in_each : (ts : List Term) → Each (λ t. length (term_variables t) ≤ term_symbols t) ts → length (flat_map term_variables ts) ≤ sum (map term_symbols ts)
few_in_each [] each = omega arith
few_in_each (t ∷ ts) each = omega (arith, length-append (term_variables t) (flat_map term_variables ts), sum_by-cons (λ n. n) (term_symbols t) (map term_symbols ts), few_in_each ts each.1, each.0)

pub few_in_term : (t : Term) → length (term_variables t) ≤ term_symbols t
few_in_term =
    term_induction (λ t. length (term_variables t) ≤ term_symbols t)
    (λ v. omega (arith, ap length (term_variables-Var v), term_symbols-Var v))
    (λ f ts each. omega (arith, ap length (term_variables-App f ts), term_symbols-App f ts, few_in_each ts each))

pub few_in_terms : (ts : List Term) → length (flat_map term_variables ts) ≤ sum (map term_symbols ts)
few_in_terms [] = omega arith
few_in_terms (t ∷ ts) = omega (arith, length-append (term_variables t) (flat_map term_variables ts), sum_by-cons (λ n. n) (term_symbols t) (map term_symbols ts), few_in_terms ts, few_in_term t)

few_in_atom : (a : Atom) → length (atom_variables a) ≤ atom_symbols a
few_in_atom (Holds p ts) = omega (arith, few_in_terms ts)
few_in_atom (Equal s t) = omega (arith, few_in_terms (s ∷ t ∷ []))

few_in_atoms : (as' : List Atom) → length (flat_map atom_variables as') ≤ sum_by atom_symbols as'
few_in_atoms [] = omega arith
few_in_atoms (a ∷ as') = omega (arith, length-append (atom_variables a) (flat_map atom_variables as'), sum_by-cons atom_symbols a as', few_in_atoms as', few_in_atom a)

length-noted : (order : List ℕ) (v : ℕ) → length (noted order v) ≤ length order + 1
length-noted order v = by_test (list_any (λ w. nat_eq v w) order)
  where
    by_test : (b : Bool) → length (if b then order else order ++ v ∷ []) ≤ length order + 1
    by_test true = omega arith
    by_test false = omega (arith, length-append order (v ∷ []))

length-fold : (vs order : List ℕ) → length (fold noted order vs) ≤ length order + length vs
length-fold [] order = omega arith
length-fold (v ∷ vs) order = omega (arith, length-fold vs (noted order v), length-noted order v)

pub few_firsts : (c : Clause) → length (firsts (clause_variables c)) ≤ clause_symbols c
few_firsts c = omega (arith, length-fold (clause_variables c) [], few_in_atoms (atoms_of c))

-- ---- renumbering keeps the size

module _ (n : ℕ → ℕ) where
  same_sum : (ts : List Term) → Each (λ t. term_symbols (replace (λ v. Var (n v)) t) ≡ term_symbols t) ts → sum (map term_symbols (map (replace (λ v. Var (n v))) ts)) ≡ sum (map term_symbols ts)
  same_sum [] each = refl
  same_sum (t ∷ ts) each = omega (arith, sum_by-cons (λ n. n) (term_symbols (replace (λ v. Var (n v)) t)) (map term_symbols (map (replace (λ v. Var (n v))) ts)), sum_by-cons (λ n. n) (term_symbols t) (map term_symbols ts), same_sum ts each.1, each.0)

  renamed_term : (t : Term) → term_symbols (replace (λ v. Var (n v)) t) ≡ term_symbols t
  renamed_term =
      term_induction (λ t. term_symbols (replace (λ v. Var (n v)) t) ≡ term_symbols t)
      (λ v. ap term_symbols (replace-Var (λ v. Var (n v)) v) ∙ term_symbols-Var (n v) ∙ sym (term_symbols-Var v))
      (λ f ts each. ap term_symbols (replace-App (λ v. Var (n v)) f ts) ∙ term_symbols-App f (map (replace (λ v. Var (n v))) ts) ∙ ap (λ k. k + 1) (same_sum ts each) ∙ sym (term_symbols-App f ts))

  renamed_terms : (ts : List Term) → sum (map term_symbols (map (replace (λ v. Var (n v))) ts)) ≡ sum (map term_symbols ts)
  renamed_terms [] = refl
  renamed_terms (t ∷ ts) = omega (arith, sum_by-cons (λ n. n) (term_symbols (replace (λ v. Var (n v)) t)) (map term_symbols (map (replace (λ v. Var (n v))) ts)), sum_by-cons (λ n. n) (term_symbols t) (map term_symbols ts), renamed_terms ts, renamed_term t)

  renamed_atom : (a : Atom) → atom_symbols (replace_in_atom (λ v. Var (n v)) a) ≡ atom_symbols a
  renamed_atom (Holds p ts) = ap (λ k. k + 1) (renamed_terms ts)
  renamed_atom (Equal s t) = ap (λ k. k + 1) (renamed_terms (s ∷ t ∷ []))

  renamed_atoms : (as' : List Atom) → sum_by atom_symbols (map (replace_in_atom (λ v. Var (n v))) as') ≡ sum_by atom_symbols as'
  renamed_atoms [] = refl
  renamed_atoms (a ∷ as') = omega (arith, sum_by-cons atom_symbols (replace_in_atom (λ v. Var (n v)) a) (map (replace_in_atom (λ v. Var (n v))) as'), sum_by-cons atom_symbols a as', renamed_atoms as', renamed_atom a)

-- the symbols of three lists together
pub symbols-three : (xs ys zs : List Atom) → sum_by atom_symbols (xs ++ ys ++ zs) ≡ sum_by atom_symbols xs + sum_by atom_symbols ys + sum_by atom_symbols zs
symbols-three xs ys zs = omega (arith, sum_by-append atom_symbols (xs ++ ys) zs, sum_by-append atom_symbols xs ys)

-- the symbols of a clause, part by part
pub symbols-parts : (c : Clause) → clause_symbols c ≡ sum_by atom_symbols c.constraint + sum_by atom_symbols c.antecedent + sum_by atom_symbols c.succedent
symbols-parts c = symbols-three c.constraint c.antecedent c.succedent

pub symbols-renumbered : (c : Clause) → clause_symbols (renumbered c) ≡ clause_symbols c
symbols-renumbered c =
    let n = number_in c in
    omega (arith, symbols-three (map (replace_in_atom (λ v. Var (n v))) c.constraint) (map (replace_in_atom (λ v. Var (n v))) c.antecedent) (map (replace_in_atom (λ v. Var (n v))) c.succedent), symbols-three c.constraint c.antecedent c.succedent, renamed_atoms n c.constraint, renamed_atoms n c.antecedent, renamed_atoms n c.succedent)

pub symbols_in_order : (c : Clause) → clause_symbols (in_order c) ≡ clause_symbols (at_lists distinct c)
symbols_in_order c = symbols-renumbered (at_lists distinct c)

-- ---- dropping repeated atoms adds no symbols

symbols-added : (xs : List Atom) (a : Atom) → sum_by atom_symbols (added xs a) ≤ sum_by atom_symbols xs + atom_symbols a
symbols-added xs a = by_test (list_any (λ b. is_same a b) xs)
  where
    by_test : (b : Bool) → sum_by atom_symbols (if b then xs else xs ++ a ∷ []) ≤ sum_by atom_symbols xs + atom_symbols a
    by_test true = omega arith
    by_test false = omega (arith, sum_by-append atom_symbols xs (a ∷ []))

symbols-fold : (as' xs : List Atom) → sum_by atom_symbols (fold added xs as') ≤ sum_by atom_symbols xs + sum_by atom_symbols as'
symbols-fold [] xs = omega arith
symbols-fold (a ∷ as') xs = omega (arith, sum_by-cons atom_symbols a as', symbols-fold as' (added xs a), symbols-added xs a)

symbols-distinct : (as' : List Atom) → sum_by atom_symbols (distinct as') ≤ sum_by atom_symbols as'
symbols-distinct as' = omega (arith, symbols-fold as' [])

pub in_order_fits : (c : Clause) → clause_symbols (in_order c) ≤ clause_symbols c
in_order_fits c =
    omega (arith, symbols_in_order c, symbols-three (distinct c.constraint) (distinct c.antecedent) (distinct c.succedent), symbols-three c.constraint c.antecedent c.succedent, symbols-distinct c.constraint, symbols-distinct c.antecedent, symbols-distinct c.succedent)

-- ---- adding an atom

added-repeated : (xs : List Atom) (a : Atom) → list_any (λ b. is_same a b) xs ≡ true → added xs a ≡ xs
added-repeated xs a e = ap (λ b. if b then xs else xs ++ a ∷ []) e

pub added-new : (xs : List Atom) (a : Atom) → list_any (λ b. is_same a b) xs ≡ false → added xs a ≡ xs ++ a ∷ []
added-new xs a e = ap (λ b. if b then xs else xs ++ a ∷ []) e

symbols-added-new : (xs : List Atom) (a : Atom) → list_any (λ b. is_same a b) xs ≡ false → sum_by atom_symbols (added xs a) ≡ sum_by atom_symbols xs + atom_symbols a
symbols-added-new xs a e = ap (sum_by atom_symbols) (added-new xs a e) ∙ sum_by_push atom_symbols xs a

pub with_atom-repeated : (c : Clause) (part : Part) (a : Atom) → list_any (λ b. is_same a b) (part_of c part) ≡ true → with_atom c part a ≡ c
with_atom-repeated c Constraint a e = ap (λ l. record c { constraint = l }) (added-repeated c.constraint a e)
with_atom-repeated c Antecedent a e = ap (λ l. record c { antecedent = l }) (added-repeated c.antecedent a e)
with_atom-repeated c Succedent a e = ap (λ l. record c { succedent = l }) (added-repeated c.succedent a e)

pub with_atom-new : (c : Clause) (part : Part) (a : Atom) → list_any (λ b. is_same a b) (part_of c part) ≡ false → clause_symbols (with_atom c part a) ≡ clause_symbols c + atom_symbols a
with_atom-new c Constraint a e = omega (arith, symbols-three (added c.constraint a) c.antecedent c.succedent, symbols-three c.constraint c.antecedent c.succedent, symbols-added-new c.constraint a e)
with_atom-new c Antecedent a e = omega (arith, symbols-three c.constraint (added c.antecedent a) c.succedent, symbols-three c.constraint c.antecedent c.succedent, symbols-added-new c.antecedent a e)
with_atom-new c Succedent a e = omega (arith, symbols-three c.constraint c.antecedent (added c.succedent a), symbols-three c.constraint c.antecedent c.succedent, symbols-added-new c.succedent a e)

pub with_atom-grows : (c : Clause) (part : Part) (a : Atom) → clause_symbols c ≤ clause_symbols (with_atom c part a)
with_atom-grows c part a = elim (cases_Bool (list_any (λ b. is_same a b) (part_of c part))) [
  | inl e ↦ omega (arith, ap clause_symbols (with_atom-repeated c part a e))
  | inr e ↦ omega (arith, with_atom-new c part a e)
]
