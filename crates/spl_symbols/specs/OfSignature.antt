-- The symbols of terms, atoms and clauses are those of a signature, each in its place and with its number of arguments.
use Rattle.std.specs.Prelude.{ℕ, Bool, true, false, ◌&&◌, ◌==◌, if◌then◌else◌, List, length, slice_get, Option, Some, None}
use Rattle.std.specs.List.{list_all}
use Rattle.spl_terms.specs.declared.term.Kind.{Kind}
use Rattle.spl_terms.specs.declared.term.Kind.TheVariants as kinds
use Rattle.spl_terms.specs.declared.term.Symbol.{Symbol}
use Rattle.spl_terms.specs.declared.term.Term.{Term, Term-F, fold-Term}
use Rattle.spl_terms.specs.declared.term.Term.TheOpen as layer
use Rattle.spl_terms.specs.declared.atom.Atom.{Atom}
use Rattle.spl_terms.specs.declared.atom.Atom.TheVariants.{Holds, Equal}
use Rattle.spl_terms.specs.declared.clause.Clause.{Clause}
use Rattle.spl_terms.specs.Terms.{kind_eq}
use Rattle.spl_terms.specs.Clauses.{atoms_of}
use Rattle.spl_symbols.specs.Symbols.{Declared}

-- functions stand in terms, predicates and sorts in atoms
abbrev pub fits_place : Bool → Kind → Bool
fits_place in_term kinds.Function = in_term
fits_place in_term kinds.Predicate = if in_term then false else true
fits_place in_term kinds.Sort = if in_term then false else true

abbrev pub declares : Option Declared → Kind → ℕ → Bool
declares None kind count = false
declares (Some d) kind count = kind_eq d.kind kind && (d.arity == count)

-- whether the symbol is declared with its kind and with so many arguments, and may stand in a term's place, or else in an atom's
abbrev pub is_declared : List Declared → Bool → Symbol → ℕ → Bool
is_declared symbols in_term s count = fits_place in_term s.kind && declares (slice_get symbols s.number) s.kind count

abbrev pub term_of_step : List Declared → Term-F Bool → Bool
term_of_step symbols (layer.Var v) = true
term_of_step symbols (layer.App f args) = is_declared symbols true f (length args) && list_all (λ b. b) args

-- whether each symbol of the term is a function of the signature with its number of arguments
abbrev pub is_term_of : List Declared → Term → Bool
is_term_of symbols = fold-Term Bool (term_of_step symbols)

-- and so for an atom, whose own symbol is a predicate or a sort
abbrev pub is_atom_of : List Declared → Atom → Bool
is_atom_of symbols (Holds p ts) = is_declared symbols false p (length ts) && list_all (is_term_of symbols) ts
is_atom_of symbols (Equal s t) = is_term_of symbols s && is_term_of symbols t

abbrev pub is_clause_of : List Declared → Clause → Bool
is_clause_of symbols c = list_all (is_atom_of symbols) (atoms_of c)
