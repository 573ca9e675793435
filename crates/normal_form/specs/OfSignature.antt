-- Formulas and clauses whose symbols are of a signature.
use Rattle.std.specs.Prelude.{◌≡◌, Bool, true, List}
use Rattle.std.specs.List.{AllByRecursion}
use Rattle.spl_terms.specs.declared.clause.Clause.{Clause}
use Rattle.spl_symbols.specs.Symbols.{Declared}
use Rattle.spl_symbols.specs.OfSignature.{is_atom_of, is_clause_of}
use Rattle.formulas.specs.declared.tree.Tree.{Tree}
use Rattle.formulas.specs.declared.entry.Entry.{Entry}
use Rattle.formulas.specs.AtomTests.{all_atoms}

-- whether each symbol of the formula is of the signature: functions in terms, predicates and sorts in atoms, each with its number
-- of arguments
abbrev pub is_formula_of : List Declared → Tree → Bool
is_formula_of symbols = all_atoms (is_atom_of symbols)

abbrev pub AreOfSignature : List Declared → List Entry → Type 0
AreOfSignature symbols = AllByRecursion (λ e. is_formula_of symbols e.formula ≡ true)

abbrev pub AreClausesOf : List Declared → List Clause → Type 0
AreClausesOf symbols = AllByRecursion (λ c. is_clause_of symbols c ≡ true)
