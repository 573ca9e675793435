-- Instances that are too large to be what they are compared with.
use Rattle.std.proofs.Common.{◌≡◌, inl, inr, ◌⊎◌, ℕ, ◌+◌, ◌<◌, ◌≤◌, min, Bool, true, false, ◌||◌, List, [], ◌∷◌, sum_by, refl, sym, ap, ◌∙◌, arith}
use Rattle.std.specs.List.{list_any}
use Rattle.std.proofs.lemmas.Bool.{false≢true, or_cases}
use Rattle.std.proofs.lemmas.List.Sums.{sum_by-cons}
use Rattle.spl_terms.specs.declared.term.Term.{Term}
use Rattle.spl_terms.specs.declared.atom.Atom.{Atom}
use Rattle.spl_terms.specs.declared.atom.Atom.TheVariants.{Holds, Equal}
use Rattle.spl_terms.specs.Terms.{term_eq, term_symbols}
use Rattle.spl_terms.specs.Clauses.{atom_symbols, is_same}
use Rattle.spl_terms.specs.TermLaws.{term_eq-true}
use Rattle.spl_terms.specs.SameLaws.{flipped, same_cases}
use Rattle.spl_terms.specs.SizeLaws.{symbols-parts}

-- terms of which one has other symbols than the other one, up to the last number, are different
pub sizes_differ : (t u : Term) (size count : ℕ) → size ≡ min (term_symbols t) 18446744073709551615 → count ≡ min (term_symbols u) (min (size + 1) 18446744073709551615) → (count ≡ size → ⊥) → false ≡ term_eq t u
sizes_differ t u size count e f apart = by_test (term_eq t u) refl
  where
    by_test : (b : Bool) → term_eq t u ≡ b → false ≡ b
    by_test false g = refl
    by_test true g = absurd (apart (omega (arith, e, f, ap term_symbols (term_eq-true t u g))))

flipped-symbols : (a : Atom) → atom_symbols (flipped a) ≡ atom_symbols a
flipped-symbols (Holds p ts) = refl
flipped-symbols (Equal s t) = omega (arith, sum_by-cons term_symbols t (s ∷ []), sum_by-cons term_symbols s [], sum_by-cons term_symbols s (t ∷ []), sum_by-cons term_symbols t [])

same-symbols : (a b : Atom) → is_same a b ≡ true → atom_symbols b ≡ atom_symbols a
same-symbols a b e = elim (same_cases a b e) [
  | inl h ↦ ap atom_symbols (sym h)
  | inr h ↦ ap atom_symbols (sym h) ∙ flipped-symbols a
]

found-fits : (a : Atom) (into : List Atom) → list_any (is_same a) into ≡ true → atom_symbols a ≤ sum_by atom_symbols into
found-fits a [] e = absurd (false≢true e)
found-fits a (b ∷ into) e = elim (or_cases _ _ e) [
  | inl here ↦ omega (arith, sum_by-cons atom_symbols b into, same-symbols a b here)
  | inr there ↦ omega (arith, sum_by-cons atom_symbols b into, found-fits a into there)
]

-- an atom that is larger than all together is none of them
pub too_large : (a : Atom) (into : List Atom) (limit : ℕ) → min (sum_by atom_symbols into) 18446744073709551615 ≤ limit → limit < min (atom_symbols a) 18446744073709551615 → false ≡ list_any (is_same a) into
too_large a into limit within large = by_test (list_any (is_same a) into) refl
  where
    by_test : (t : Bool) → list_any (is_same a) into ≡ t → false ≡ t
    by_test false e = refl
    by_test true e = absurd (omega (arith, within, large, found-fits a into e))

pub ruleset part_laws = (symbols-parts)
