-- The symbols of formulas are those of a signature, each in its place and with its number of arguments.
use Rattle.std.specs.Prelude.{◌≡◌, ℕ, Bool, true, false, ◌&&◌, ◌==◌, List, length, slice_get, Option, Some, None}
use Rattle.std.specs.List.{list_all, AllByRecursion}
use Rattle.spl_terms.specs.declared.term.Kind.{Kind}
use Rattle.spl_terms.specs.declared.term.Symbol.{Symbol}
use Rattle.spl_terms.specs.declared.term.Term.{Term, Term-F, fold-Term}
use Rattle.spl_terms.specs.declared.term.Term.TheOpen as term_layer
use Rattle.spl_terms.specs.declared.atom.Atom.{Atom}
use Rattle.spl_terms.specs.declared.atom.Atom.TheVariants.{Holds, Equal}
use Rattle.spl_terms.specs.Terms.{kind_eq}
use Rattle.spl_symbols.specs.Symbols.{Declared}
use Rattle.dfg_reader.specs.declared.formula.Formula.{Formula, Formula-F, fold-Formula}
use Rattle.dfg_reader.specs.declared.formula.Formula.TheOpen as layer
use Rattle.dfg_reader.specs.declared.problem.Entry.{Entry}
use Rattle.dfg_reader.specs.Terms.{fits_place}

abbrev pub declares : Option Declared → Kind → ℕ → Bool
declares None kind count = false
declares (Some d) kind count = kind_eq d.kind kind && (d.arity == count)

-- whether the symbol is declared with its kind and with so many arguments, and may stand in a term's place, or else in an atom's
abbrev pub is_declared : List Declared → Bool → Symbol → ℕ → Bool
is_declared symbols in_term s count = fits_place in_term s.kind && declares (slice_get symbols s.number) s.kind count

abbrev pub term_of_step : List Declared → Term-F Bool → Bool
term_of_step symbols (term_layer.Var v) = true
term_of_step symbols (term_layer.App f args) = is_declared symbols true f (length args) && list_all (λ b. b) args

-- whether each symbol of the term is a function of the signature with its number of arguments
abbrev pub is_term_of : List Declared → Term → Bool
is_term_of symbols = fold-Term Bool (term_of_step symbols)

abbrev pub is_atom_of : List Declared → Atom → Bool
is_atom_of symbols (Holds p ts) = is_declared symbols false p (length ts) && list_all (is_term_of symbols) ts
is_atom_of symbols (Equal s t) = is_term_of symbols s && is_term_of symbols t

abbrev pub formula_of_step : List Declared → Formula-F Bool → Bool
formula_of_step symbols layer.True = true
formula_of_step symbols layer.False = true
formula_of_step symbols (layer.Atom a) = is_atom_of symbols a
formula_of_step symbols (layer.Not b) = b
formula_of_step symbols (layer.And bs) = list_all (λ b. b) bs
formula_of_step symbols (layer.Or bs) = list_all (λ b. b) bs
formula_of_step symbols (layer.Implies b c) = b && c
formula_of_step symbols (layer.Equiv b c) = b && c
formula_of_step symbols (layer.Forall v b) = b
formula_of_step symbols (layer.Exists v b) = b

-- whether each symbol of the formula is of the signature: functions in terms, predicates and sorts in atoms, each with its number of arguments
abbrev pub is_formula_of : List Declared → Formula → Bool
is_formula_of symbols = fold-Formula Bool (formula_of_step symbols)

abbrev pub AreOfSignature : List Declared → List Entry → Type 0
AreOfSignature symbols = AllByRecursion (λ e. is_formula_of symbols e.formula ≡ true)
