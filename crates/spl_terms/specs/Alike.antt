-- Two clauses side by side: the same but for their variables, and a test for the two variables at each place.
use Rattle.std.specs.Prelude.{ℕ, Bool, true, false, not, ◌&&◌, ◌==◌, if◌then◌else◌, List, [], ◌∷◌}
use Rattle.spl_terms.specs.declared.term.Term.{Term, Term-F, out-Term, fold-Term}
use Rattle.spl_terms.specs.declared.term.Term.TheOpen as layer
use Rattle.spl_terms.specs.declared.atom.Atom.{Atom}
use Rattle.spl_terms.specs.declared.atom.Atom.TheVariants.{Holds, Equal}
use Rattle.spl_terms.specs.declared.clause.Clause.{Clause}
use Rattle.spl_terms.specs.Terms.{symbol_eq, is_application}

abbrev pub passing_variable : (ℕ → Bool) → Term-F Term → Bool
passing_variable passes (layer.Var w) = passes w
passing_variable passes (layer.App g ts) = false

abbrev pub alike_step : (ℕ → ℕ → Bool) → Term-F (Term → Bool) → Term → Bool
alike_step passes (layer.Var v) t = passing_variable (passes v) (out-Term t)
alike_step passes (layer.App f tests) t = is_application f tests (out-Term t)

-- the terms differ at most in their variables, and the test passes at each place where variables stand
abbrev pub alike : (ℕ → ℕ → Bool) → Term → Term → Bool
alike passes = fold-Term (Term → Bool) (alike_step passes)

abbrev pub alike_terms : (ℕ → ℕ → Bool) → List Term → List Term → Bool
alike_terms passes [] [] = true
alike_terms passes [] (t ∷ ts) = false
alike_terms passes (s ∷ ss) [] = false
alike_terms passes (s ∷ ss) (t ∷ ts) = alike passes s t && alike_terms passes ss ts

abbrev pub alike_atoms : (ℕ → ℕ → Bool) → Atom → Atom → Bool
alike_atoms passes (Holds p ss) (Holds q ts) = symbol_eq p q && alike_terms passes ss ts
alike_atoms passes (Holds p ss) (Equal u v) = false
alike_atoms passes (Equal s t) (Holds q ts) = false
alike_atoms passes (Equal s t) (Equal u v) = alike passes s u && alike passes t v

abbrev pub alike_lists : (ℕ → ℕ → Bool) → List Atom → List Atom → Bool
alike_lists passes [] [] = true
alike_lists passes [] (b ∷ bs) = false
alike_lists passes (a ∷ as') [] = false
alike_lists passes (a ∷ as') (b ∷ bs) = alike_atoms passes a b && alike_lists passes as' bs

abbrev pub alike_clauses : (ℕ → ℕ → Bool) → Clause → Clause → Bool
alike_clauses passes c d = alike_lists passes c.constraint d.constraint && alike_lists passes c.antecedent d.antecedent && alike_lists passes c.succedent d.succedent

-- x is v exactly where y is w
abbrev pub agree : ℕ → ℕ → ℕ → ℕ → Bool
agree v w x y = if x == v then y == w else not (y == w)

-- v stands in the one clause exactly where w stands in the other
abbrev pub correspond : Clause → Clause → ℕ → ℕ → Bool
correspond c d v w = alike_clauses (agree v w) c d
