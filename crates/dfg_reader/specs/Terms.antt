-- Terms and atoms, or the first fault.
use Rattle.std.specs.Prelude.{ℕ, zero, suc, min, Bool, true, false, ◌==◌, if◌then◌else◌, List, [], length, Option, Some, None, Result, Ok, ⊤}
use Rattle.spl_terms.specs.declared.term.Kind.{Kind}
use Rattle.spl_terms.specs.declared.term.Kind.TheVariants as kinds
use Rattle.spl_terms.specs.declared.term.Symbol.{Symbol}
use Rattle.spl_terms.specs.declared.term.Term.{Term, App}
use Rattle.spl_terms.specs.declared.atom.Atom.{Atom}
use Rattle.spl_terms.specs.declared.atom.Atom.TheVariants as atoms
use Rattle.spl_symbols.specs.Symbols.{Declared}
use Rattle.dfg_tokens.specs.declared.token.Token.{Token}
use Rattle.dfg_tokens.specs.declared.piece.Mark.TheVariants.{OpenParenthesis, CloseParenthesis}
use Rattle.dfg_reader.specs.declared.fault.ReadFault.{ReadFault}
use Rattle.dfg_reader.specs.declared.fault.FaultKind.TheVariants.{Undeclared, Arity, LimitReached}
use Rattle.dfg_reader.specs.declared.fault.Limit.TheVariants as limits
use Rattle.dfg_reader.specs.declared.symbols.Found.{Found}
use Rattle.dfg_reader.specs.Reading.{◌>>=◌, tail, fault, next_mark, mark_at, name_at, spelled_at, adding, commas}
use Rattle.dfg_reader.specs.Symbols.{lookup}

-- a function stands in a term's place, a predicate or a sort in an atom's
abbrev pub fits_place : Bool → Kind → Bool
fits_place in_term kinds.Function = in_term
fits_place in_term kinds.Predicate = if in_term then false else true
fits_place in_term kinds.Sort = if in_term then false else true

abbrev pub fitting : Bool → ℕ → Option Found → Result Found ReadFault
fitting in_term at None = fault at Undeclared
fitting in_term at (Some f) = if fits_place in_term f.symbol.kind then Ok f else fault at Undeclared

-- the symbol that the name stands for in its place
unfoldable pub symbol_named : List ℕ → List Declared → Bool → Token → Result Found ReadFault
symbol_named bytes symbols in_term token = spelled_at bytes token >>= λ name. fitting in_term token.at (lookup name symbols)

-- so many arguments; a count past the last u32 is told as that
unfoldable pub checked_arity : ℕ → Found → ℕ → Result ⊤ ReadFault
checked_arity at f n = if f.arity == n then Ok tt else fault at (Arity f.arity (min n 4294967295))

-- the name of a term at the depth that isn't allowed
unfoldable pub too_deep : List Token → Result (Term × List Token) ReadFault
too_deep ts = name_at ts >>= λ name. fault name.0.at (LimitReached limits.Depth)

abbrev pub TermReader : Type 0
TermReader = List Token → Result (Term × List Token) ReadFault

abbrev pub terms_at : TermReader → List Token → Result (List Term × List Token) ReadFault
terms_at read ts = commas (adding read) (length ts) [] ts

-- the arguments in parentheses, if there are any
unfoldable pub arguments_at : TermReader → List Token → Result (List Term × List Token) ReadFault
arguments_at read ts = if next_mark OpenParenthesis ts then (terms_at read (tail ts) >>= λ x. mark_at CloseParenthesis x.1 >>= λ rest. Ok (x.0, rest)) else Ok ([], ts)

-- a symbol with its arguments, each read by a reader of terms
unfoldable pub application_at : List ℕ → List Declared → Bool → TermReader → List Token → Result (Symbol × List Term × List Token) ReadFault
application_at bytes symbols in_term read ts = do
  name ← name_at ts
  f ← symbol_named bytes symbols in_term name.0
  args ← arguments_at read name.1
  fine ← checked_arity name.0.at f (length args.0)
  Ok (f.symbol, args.0, args.1)

-- a term that may nest so deep
unfoldable pub term_at : List ℕ → List Declared → ℕ → TermReader
term_at bytes symbols zero ts = too_deep ts
term_at bytes symbols (suc depth) ts = application_at bytes symbols true (term_at bytes symbols depth) ts >>= λ x. Ok (App x.0 x.1, x.2)

-- an atom whose arguments may nest so deep
unfoldable pub atom_at : List ℕ → List Declared → ℕ → List Token → Result (Atom × List Token) ReadFault
atom_at bytes symbols depth ts = application_at bytes symbols false (term_at bytes symbols depth) ts >>= λ x. Ok (atoms.Holds x.0 x.1, x.2)
