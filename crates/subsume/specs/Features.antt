-- Counts of a clause that are no greater than those of each clause that it subsumes: its features in the sense of Schulz 2013.
-- Symbols are counted in eight classes, by their numbers.
use Rattle.std.specs.Prelude.{ℕ, ◌+◌, ◌%◌, min, List, [], ◌∷◌, ◌++◌, length, fold, replicate, get_or, slice_set}
use Rattle.std.specs.List.{concat, flat_map}
use Rattle.spl_terms.specs.declared.term.Term.{Term, Term-F, fold-Term}
use Rattle.spl_terms.specs.declared.term.Term.TheOpen as layer
use Rattle.spl_terms.specs.declared.atom.Atom.{Atom}
use Rattle.spl_terms.specs.declared.atom.Atom.TheVariants.{Holds, Equal}
use Rattle.spl_terms.specs.declared.clause.Clause.{Clause}

abbrev pub numbers_step : Term-F (List ℕ) → List ℕ
numbers_step (layer.Var v) = []
numbers_step (layer.App f lists) = f.number ∷ concat lists

-- the numbers of the symbols of a term, each as often as it occurs
abbrev pub symbol_numbers : Term → List ℕ
symbol_numbers = fold-Term (List ℕ) numbers_step

abbrev pub atom_numbers : Atom → List ℕ
atom_numbers (Holds p ts) = p.number ∷ flat_map symbol_numbers ts
atom_numbers (Equal s t) = symbol_numbers s ++ symbol_numbers t

abbrev pub numbers_of : List Atom → List ℕ
numbers_of atoms = flat_map atom_numbers atoms

-- one more symbol of this number, counted in its class, up to the last `u32`; the counts of the classes begin at a place
unfoldable pub symbol_counted : ℕ → List ℕ → ℕ → List ℕ
symbol_counted base counts number = slice_set counts (base + number % 8) (min (get_or counts (base + number % 8) 0 + 1) 4294967295)

-- the numbers of atoms, and no symbol yet
abbrev pub atom_counts : Clause → List ℕ
atom_counts c = min (length c.constraint) 4294967295 ∷ min (length c.antecedent) 4294967295 ∷ min (length c.succedent) 4294967295 ∷ replicate 16 0

-- the numbers of atoms in each part, of symbols before the arrow, by classes, and of symbols after it
abbrev pub features : Clause → List ℕ
features c = fold (symbol_counted 11) (fold (symbol_counted 3) (fold (symbol_counted 3) (atom_counts c) (numbers_of c.constraint)) (numbers_of c.antecedent)) (numbers_of c.succedent)
