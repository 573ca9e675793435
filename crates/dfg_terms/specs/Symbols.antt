-- Declared symbols in their places, or the first fault.
use Rattle.std.specs.Prelude.{ℕ, min, ◌==◌, if◌then◌else◌, List, Option, Some, None, option_map, option_and_then, slice_get, Result, Ok, ⊤}
use Rattle.spl_terms.specs.declared.term.Kind.{Kind}
use Rattle.spl_terms.specs.declared.term.Kind.TheVariants as kinds
use Rattle.spl_terms.specs.declared.term.Symbol.{Symbol}
use Rattle.spl_symbols.specs.Symbols.{Declared, found}
use Rattle.dfg_tokens.specs.declared.token.Token.{Token}
use Rattle.dfg_terms.specs.declared.fault.ReadFault.{ReadFault}
use Rattle.dfg_terms.specs.declared.fault.FaultKind.{FaultKind}
use Rattle.dfg_terms.specs.declared.fault.FaultKind.TheVariants.{Unexpected, Undeclared, Arity}
use Rattle.dfg_terms.specs.declared.symbols.Found.{Found}
use Rattle.dfg_terms.specs.declared.symbols.Place.{Place}
use Rattle.dfg_terms.specs.declared.symbols.Place.TheVariants as places
use Rattle.dfg_terms.specs.Reading.{◌>>=◌, fault, spelled_at}

abbrev pub with_arity : List Declared → Option Symbol → Option Found
with_arity symbols = option_and_then (λ s. option_map (λ d. record { symbol = s; arity = d.arity }) (slice_get symbols s.number))

-- the declared symbol of this name, with its number of arguments
unfoldable pub lookup : List ℕ → List Declared → Option Found
lookup name symbols = with_arity symbols (found name symbols)

-- What is wrong with a symbol of this kind in this place: functions stand in terms, predicates and sorts in atoms; in a constraint stand sorts alone, and in an antecedent none.
abbrev pub misfit : Place → Kind → Option FaultKind
misfit places.Term kinds.Function = None
misfit places.Term kinds.Predicate = Some Undeclared
misfit places.Term kinds.Sort = Some Undeclared
misfit places.Atom kinds.Function = Some Undeclared
misfit places.Atom kinds.Predicate = None
misfit places.Atom kinds.Sort = None
misfit places.Constraint kinds.Function = Some Undeclared
misfit places.Constraint kinds.Predicate = Some Unexpected
misfit places.Constraint kinds.Sort = None
misfit places.Antecedent kinds.Function = Some Undeclared
misfit places.Antecedent kinds.Predicate = None
misfit places.Antecedent kinds.Sort = Some Unexpected

abbrev pub unless : {A : Type 0} → Option FaultKind → ℕ → A → Result A ReadFault
unless None at x = Ok x
unless (Some k) at x = fault at k

abbrev pub fitting : Place → ℕ → Option Found → Result Found ReadFault
fitting place at None = fault at Undeclared
fitting place at (Some f) = unless (misfit place f.symbol.kind) at f

-- the symbol that the name stands for in its place
unfoldable pub symbol_named : List ℕ → List Declared → Place → Token → Result Found ReadFault
symbol_named bytes symbols place token = spelled_at bytes token >>= λ name. fitting place token.at (lookup name symbols)

-- so many arguments; a count past the last u32 is told as that
unfoldable pub checked_arity : ℕ → Found → ℕ → Result ⊤ ReadFault
checked_arity at f n = if f.arity == n then Ok tt else fault at (Arity f.arity (min n 4294967295))
