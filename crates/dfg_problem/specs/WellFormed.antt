-- What holds of each formula that is read: it is closed, its bindings have numbers of their own, and its symbols are declared.
use Rattle.std.specs.Prelude.{◌≡◌, ℕ, true, false, List}
use Rattle.std.specs.List.{AllByRecursion}
use Rattle.spl_symbols.specs.Symbols.{Declared}
use Rattle.spl_symbols.specs.OfSignature.{is_atom_of}
use Rattle.formulas.specs.declared.tree.Tree.{Tree}
use Rattle.formulas.specs.declared.entry.Entry.{Entry}
use Rattle.formulas.specs.Bindings.{is_free, bindings, all_distinct}
use Rattle.formulas.specs.AtomTests.{all_atoms}

-- No variable is free in the formula, no two of its bindings have the same number, and each symbol is of the signature, with its kind and its number of arguments: functions in terms, predicates and sorts in atoms.
pub record IsWellFormed (symbols : List Declared) (f : Tree) : Type 0 where
  pub closed : (v : ℕ) → is_free v f ≡ false
  pub different : all_distinct (bindings f) ≡ true
  pub declared : all_atoms (is_atom_of symbols) f ≡ true

abbrev pub AreWellFormed : List Declared → List Entry → Type 0
AreWellFormed symbols = AllByRecursion (λ e. IsWellFormed symbols e.formula)
