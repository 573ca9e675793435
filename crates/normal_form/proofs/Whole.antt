-- An atom that is added to a clause has no more symbols than the clause then; and how many a Skolem term has.
use Rattle.std.proofs.Common.{◌≡◌, inl, inr, ℕ, ◌+◌, ◌≤◌, Bool, true, false, if◌then◌else◌, List, [], ◌∷◌, ◌++◌, length, map, sum, sum_by, refl, sym, ap, ◌∙◌, arith}
use Rattle.std.specs.List.{list_any}
use Rattle.std.proofs.lemmas.Bool.{or_cases, false≢true}
use Rattle.std.proofs.lemmas.List.Sums.{sum_by-append, sum_by-cons}
use Rattle.spl_terms.specs.declared.term.Kind.TheVariants.{Function}
use Rattle.spl_terms.specs.declared.term.Term.{Var}
use Rattle.spl_terms.specs.declared.atom.Atom.{Atom}
use Rattle.spl_terms.specs.declared.atom.Atom.TheVariants.{Holds, Equal}
use Rattle.spl_terms.specs.declared.clause.Part.{Part}
use Rattle.spl_terms.specs.declared.clause.Part.TheVariants.{Constraint, Antecedent, Succedent}
use Rattle.spl_terms.specs.declared.clause.Clause.{Clause}
use Rattle.spl_terms.specs.Terms.{term_symbols}
use Rattle.spl_terms.specs.Clauses.{atom_symbols, clause_symbols, is_same, added, with_atom}
use Rattle.spl_terms.specs.TermLaws.{term_symbols-Var, term_symbols-App}
use Rattle.spl_terms.specs.SizeLaws.{symbols-parts}
use Rattle.spl_terms.specs.SameLaws.{flipped, same_cases}
use Rattle.normal_form.specs.declared.scope.SkolemTerms.{SkolemTerms}
use Rattle.normal_form.specs.Blocks.{skolem_at}

flipped_size : (a : Atom) → atom_symbols (flipped a) ≡ atom_symbols a
flipped_size (Holds p ts) = refl
flipped_size (Equal s t) =
    omega (
      arith,
      sum_by-cons (λ n. n) (term_symbols t) (term_symbols s ∷ []),
      sum_by-cons (λ n. n) (term_symbols s) [],
      sum_by-cons (λ n. n) (term_symbols s) (term_symbols t ∷ []),
      sum_by-cons (λ n. n) (term_symbols t) [],
    )

same_size : (a b : Atom) → is_same a b ≡ true → atom_symbols a ≡ atom_symbols b
same_size a b e = elim (same_cases a b e) [
  | inl h ↦ ap atom_symbols h
  | inr h ↦ sym (flipped_size a) ∙ ap atom_symbols h
]

found_size : (a : Atom) (xs : List Atom) → list_any (λ b. is_same a b) xs ≡ true → atom_symbols a ≤ sum_by atom_symbols xs
found_size a [] e = absurd (false≢true e)
found_size a (x ∷ xs) e = elim (or_cases (is_same a x) (list_any (λ b. is_same a b) xs) e) [
  | inl here ↦ omega (arith, same_size a x here, sum_by-cons atom_symbols x xs)
  | inr later ↦ omega (arith, found_size a xs later, sum_by-cons atom_symbols x xs)
]

added_size : (xs : List Atom) (a : Atom) → atom_symbols a ≤ sum_by atom_symbols (added xs a)
added_size xs a = at (list_any (λ b. is_same a b) xs) refl
  where
    at : (t : Bool) → list_any (λ b. is_same a b) xs ≡ t → atom_symbols a ≤ sum_by atom_symbols (if t then xs else xs ++ a ∷ [])
    at true e = found_size a xs e
    at false e = omega (arith, sum_by-append atom_symbols xs (a ∷ []), sum_by-cons atom_symbols a [])

pub whole_atom : (c : Clause) (part : Part) (a : Atom) → atom_symbols a ≤ clause_symbols (with_atom c part a)
whole_atom c Constraint a = omega (arith, added_size c.constraint a, symbols-parts (with_atom c Constraint a))
whole_atom c Antecedent a = omega (arith, added_size c.antecedent a, symbols-parts (with_atom c Antecedent a))
whole_atom c Succedent a = omega (arith, added_size c.succedent a, symbols-parts (with_atom c Succedent a))

-- each argument counts one
variables_size : (vs : List ℕ) → sum (map term_symbols (map Var vs)) ≡ length vs
variables_size [] = refl
variables_size (v ∷ vs) = omega (arith, sum_by-cons (λ n. n) (term_symbols (Var v)) (map term_symbols (map Var vs)), term_symbols-Var v, variables_size vs)

pub skolem_size : (terms : SkolemTerms) (place : ℕ) → term_symbols (skolem_at terms place) ≡ length terms.args + 1
skolem_size terms place = term_symbols-App (record { number = terms.next + place; kind = Function }) (map Var terms.args) ∙ ap (λ n. n + 1) (variables_size terms.args)
