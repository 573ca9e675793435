-- The list of symbols, or the first fault.
use Rattle.std.specs.Prelude.{ℕ, ◌+◌, ◌-◌, ◌*◌, Bool, ◌&&◌, ◌||◌, nat_le, nat_lt, if◌then◌else◌, List, [], ◌∷◌, ◌++◌, length, Option, Some, None, option_map, option_and_then, slice_get, Result, Ok, ⊤}
use Rattle.std.specs.Char.{is_ascii_digit}
use Rattle.spl_terms.specs.declared.term.Kind.{Kind}
use Rattle.spl_terms.specs.declared.term.Kind.TheVariants.{Function, Predicate}
use Rattle.spl_terms.specs.declared.term.Symbol.{Symbol}
use Rattle.spl_symbols.specs.Symbols.{Declared, found}
use Rattle.dfg_tokens.specs.Names.{is_name}
use Rattle.dfg_tokens.specs.declared.token.Token.{Token}
use Rattle.dfg_tokens.specs.declared.piece.Mark.TheVariants.{OpenParenthesis, CloseParenthesis, OpenBracket, CloseBracket, Comma, Dot}
use Rattle.dfg_tokens.specs.declared.word.Word.TheVariants as words
use Rattle.dfg_reader.specs.declared.fault.ReadFault.{ReadFault}
use Rattle.dfg_reader.specs.declared.fault.FaultKind.TheVariants.{Unexpected, DeclaredTwice, OutsideProfile, LimitReached}
use Rattle.dfg_reader.specs.declared.fault.Limit.TheVariants as limits
use Rattle.dfg_reader.specs.declared.symbols.Found.{Found}
use Rattle.dfg_reader.specs.Reading.{◌>>=◌, Reader, tail, refuse, fault, next_word, next_name, mark_at, identifier_at, name_at, bytes_of, spelled_at, commas, listed}

-- ---- looking a name up

abbrev pub with_arity : List Declared → Option Symbol → Option Found
with_arity symbols = option_and_then (λ s. option_map (λ d. record { symbol = s; arity = d.arity }) (slice_get symbols s.number))

-- the declared symbol of this name, with its number of arguments
unfoldable pub lookup : List ℕ → List Declared → Option Found
lookup name symbols = with_arity symbols (found name symbols)

-- ---- declaring

abbrev pub free_if : Option Symbol → ℕ → ℕ → Result ⊤ ReadFault
free_if (Some s) count at = fault at DeclaredTwice
free_if None count at = if nat_le 65536 count then fault at (LimitReached limits.Symbols) else Ok tt

-- A symbol may have this name. What the tokens take for a name always passes, so nothing is refused here.
abbrev pub named_if : Bool → ℕ → Result ⊤ ReadFault
named_if b at = if b then Ok tt else fault at Unexpected

-- the name that the token spells, if it may be declared: it must be a name, then new, then there must be room
unfoldable pub new_name_at : List ℕ → List Declared → Token → Result (List ℕ) ReadFault
new_name_at bytes symbols token = do
  name ← spelled_at bytes token
  named ← named_if (is_name name) token.at
  free ← free_if (found name symbols) (length symbols) token.at
  Ok name

abbrev pub digits_from : ℕ → List ℕ → Option ℕ
digits_from n [] = Some n
digits_from n (b ∷ bs) = if is_ascii_digit b then digits_from (n * 10 + (b - 48)) bs else None

-- the number that one to three digits spell
unfoldable pub arity_of : List ℕ → Option ℕ
arity_of text = if nat_lt 0 (length text) && nat_le (length text) 3 then digits_from 0 text else None

abbrev pub arity_if : Option ℕ → List Token → List Token → Result (ℕ × List Token) ReadFault
arity_if None ts rest = refuse Unexpected ts
arity_if (Some n) ts rest = Ok (n, rest)

unfoldable pub arity_at : List ℕ → List Token → Result (ℕ × List Token) ReadFault
arity_at bytes ts = identifier_at ts >>= λ w. arity_if (arity_of (bytes_of bytes w.0)) ts w.1

abbrev pub small_arity : ℕ → ℕ → Result ⊤ ReadFault
small_arity at n = if nat_lt 255 n then fault at (LimitReached limits.Arity) else Ok tt

-- the parenthesis of an entry; a name alone is outside the profile
unfoldable pub open_entry : List Token → Result (List Token) ReadFault
open_entry ts = if next_name ts then refuse OutsideProfile ts else mark_at OpenParenthesis ts

-- `(name,arity)`
unfoldable pub symbol_at : List ℕ → Kind → Reader (List Declared)
symbol_at bytes kind symbols ts = do
  inner ← open_entry ts
  token ← name_at inner
  name ← new_name_at bytes symbols token.0
  after ← mark_at Comma token.1
  n ← arity_at bytes after
  small ← small_arity token.0.at n.0
  rest ← mark_at CloseParenthesis n.1
  Ok (symbols ++ record { name = name; arity = n.0; kind = kind } ∷ [], rest)

-- `[(name,arity),..].`
unfoldable pub symbols_at : List ℕ → Kind → Reader (List Declared)
symbols_at bytes kind symbols ts = do
  inner ← mark_at OpenBracket ts
  x ← commas (symbol_at bytes kind) (length inner) symbols inner
  after ← mark_at CloseBracket x.1
  rest ← mark_at Dot after
  Ok (x.0, rest)

-- `sorts` is refused until the reader takes sorts
abbrev pub is_refused_item : List Token → Bool
is_refused_item ts = next_word words.Operators ts || next_word words.Quantifiers ts || next_word words.Translpairs ts || next_word words.Sorts ts

unfoldable pub symbol_item_at : List ℕ → Reader (List Declared)
symbol_item_at bytes symbols ts =
    if is_refused_item ts then refuse OutsideProfile ts
    else (if next_word words.Functions ts then symbols_at bytes Function symbols (tail ts)
    else (if next_word words.Predicates ts then symbols_at bytes Predicate symbols (tail ts)
    else refuse Unexpected ts))

-- the list of symbols, if there is one
unfoldable pub signature_at : List ℕ → Reader (List Declared)
signature_at bytes symbols ts = if next_word words.ListOfSymbols ts then (mark_at Dot (tail ts) >>= λ rest. listed (symbol_item_at bytes) symbols rest) else Ok (symbols, ts)
