-- The parts of a problem that hold no formulas, or the first fault.
use Rattle.std.specs.Prelude.{ℕ, Bool, true, false, not, ◌&&◌, ◌||◌, nat_le, nat_lt, if◌then◌else◌, List, [], ◌∷◌, ◌++◌, length, Option, Some, None, Result, Ok, ⊤}
use Rattle.spl_terms.specs.declared.term.Kind.{Kind}
use Rattle.spl_terms.specs.declared.term.Kind.TheVariants.{Function, Predicate, Sort}
use Rattle.spl_terms.specs.declared.term.Symbol.{Symbol}
use Rattle.spl_symbols.specs.Symbols.{Declared, found}
use Rattle.dfg_tokens.specs.declared.token.Token.{Token}
use Rattle.dfg_tokens.specs.declared.piece.TokenKind.{TokenKind}
use Rattle.dfg_tokens.specs.declared.piece.TokenKind.TheVariants as kinds
use Rattle.dfg_tokens.specs.declared.piece.Mark.TheVariants.{OpenParenthesis, CloseParenthesis, OpenBracket, CloseBracket, Comma, Dot}
use Rattle.dfg_tokens.specs.declared.word.Word.TheVariants as words
use Rattle.dfg_tokens.specs.Names.{is_name}
use Rattle.dfg_tokens.specs.Cursors.{tail}
use Rattle.dfg_terms.specs.declared.fault.ReadFault.{ReadFault}
use Rattle.dfg_terms.specs.declared.fault.FaultKind.TheVariants.{Unexpected, DeclaredTwice, OutsideProfile, LimitReached}
use Rattle.dfg_terms.specs.declared.fault.Limit.TheVariants as limits
use Rattle.dfg_terms.specs.Reading.{◌>>=◌, Reader, refuse, fault, next_mark, next_word, next_name, kind_is_word, mark_at, word_at, identifier_at, name_at, text_at, spelled_at, commas, items}
use Rattle.dfg_terms.specs.Numbers.{arity_at}

-- items up to `end_of_list.`, and that; as many as the count at the most
unfoldable pub listed : {S : Type 0} → Reader S → ℕ → S → List Token → Result (S × List Token) ReadFault
listed read count s ts = items words.EndOfList read count s ts >>= λ x. mark_at Dot (tail x.1) >>= λ rest. Ok (x.0, rest)

-- ---- what stands first

-- `begin_problem(id).`
unfoldable pub head_at : List Token → Result (List Token) ReadFault
head_at ts = do
  opened ← word_at words.BeginProblem ts
  name ← mark_at OpenParenthesis opened
  closed ← identifier_at name
  dot ← mark_at CloseParenthesis closed.1
  mark_at Dot dot

abbrev pub is_text_item : List Token → Bool
is_text_item ts = next_word words.Name ts || next_word words.Author ts || next_word words.Version ts || next_word words.Logic ts || next_word words.Description ts || next_word words.Date ts

abbrev pub is_status : List Token → Bool
is_status ts = next_word words.Satisfiable ts || next_word words.Unsatisfiable ts || next_word words.Unknown ts

unfoldable pub status_at : List Token → Result (List Token) ReadFault
status_at ts = if is_status ts then Ok (tail ts) else refuse Unexpected ts

-- `name({*..*}).` and the like, or `status(unknown).`; what they say has no effect
unfoldable pub description_at : Reader ⊤
description_at s ts =
    if is_text_item ts then (mark_at OpenParenthesis (tail ts) >>= λ a. text_at a >>= λ b. mark_at CloseParenthesis b >>= λ c. mark_at Dot c >>= λ rest. Ok (s, rest))
    else (if next_word words.Status ts then (mark_at OpenParenthesis (tail ts) >>= λ a. status_at a >>= λ b. mark_at CloseParenthesis b >>= λ c. mark_at Dot c >>= λ rest. Ok (s, rest))
    else refuse Unexpected ts)

-- the list of descriptions; no list of a text has more items than the text has bytes
unfoldable pub descriptions_at : List ℕ → List Token → Result (List Token) ReadFault
descriptions_at bytes ts = do
  dot ← word_at words.ListOfDescriptions ts
  first ← mark_at Dot dot
  x ← listed description_at (length bytes) tt first
  Ok x.1

-- ---- symbols

abbrev pub free_if : Option Symbol → ℕ → ℕ → Result ⊤ ReadFault
free_if (Some s) count at = fault at DeclaredTwice
free_if None count at = if nat_le 65536 count then fault at (LimitReached limits.Symbols) else Ok tt

-- A symbol may have this name. What the tokens take for a name always passes, so nothing is refused here.
abbrev pub named_if : Bool → ℕ → Result ⊤ ReadFault
named_if b at = if b then Ok tt else fault at Unexpected

-- the name that the token spells, if it may be declared: it must be a name, then new, then there must be room
unfoldable pub new_name_at : List ℕ → List Declared → Token → Result (List ℕ) ReadFault
new_name_at bytes symbols token = do
  name ← spelled_at bytes token
  named ← named_if (is_name name) token.at
  free ← free_if (found name symbols) (length symbols) token.at
  Ok name

abbrev pub small_arity : ℕ → ℕ → Result ⊤ ReadFault
small_arity at n = if nat_lt 255 n then fault at (LimitReached limits.Arity) else Ok tt

-- the parenthesis of an entry; a name alone is outside the profile
unfoldable pub open_entry : List Token → Result (List Token) ReadFault
open_entry ts = if next_name ts then refuse OutsideProfile ts else mark_at OpenParenthesis ts

-- `(name,arity)`
unfoldable pub symbol_at : List ℕ → Kind → Reader (List Declared)
symbol_at bytes kind symbols ts = do
  inner ← open_entry ts
  token ← name_at inner
  name ← new_name_at bytes symbols token.0
  after ← mark_at Comma token.1
  n ← arity_at bytes after
  small ← small_arity token.0.at n.0
  rest ← mark_at CloseParenthesis n.1
  Ok (symbols ++ record { name = name; arity = n.0; kind = kind } ∷ [], rest)

-- a sort, which takes one argument
unfoldable pub sort_at : List ℕ → Reader (List Declared)
sort_at bytes symbols ts = do
  token ← name_at ts
  name ← new_name_at bytes symbols token.0
  Ok (symbols ++ record { name = name; arity = 1; kind = Sort } ∷ [], token.1)

-- `[..].` with entries that commas separate
unfoldable pub bracketed : Reader (List Declared) → ℕ → Reader (List Declared)
bracketed read count symbols ts = do
  inner ← mark_at OpenBracket ts
  x ← commas read count symbols inner
  after ← mark_at CloseBracket x.1
  rest ← mark_at Dot after
  Ok (x.0, rest)

abbrev pub is_outside_item : List Token → Bool
is_outside_item ts = next_word words.Operators ts || next_word words.Quantifiers ts || next_word words.Translpairs ts

-- `functions[..].`, `predicates[..].` or `sorts[..].`
unfoldable pub symbol_item_at : List ℕ → Reader (List Declared)
symbol_item_at bytes symbols ts =
    if is_outside_item ts then refuse OutsideProfile ts
    else (if next_word words.Functions ts then bracketed (symbol_at bytes Function) (length bytes) symbols (tail ts)
    else (if next_word words.Predicates ts then bracketed (symbol_at bytes Predicate) (length bytes) symbols (tail ts)
    else (if next_word words.Sorts ts then bracketed (sort_at bytes) (length bytes) symbols (tail ts)
    else refuse Unexpected ts)))

-- the list of symbols, if there is one
unfoldable pub signature_at : List ℕ → Reader (List Declared)
signature_at bytes symbols ts = if next_word words.ListOfSymbols ts then (mark_at Dot (tail ts) >>= λ rest. listed (symbol_item_at bytes) (length bytes) symbols rest) else Ok (symbols, ts)

-- ---- lists that are passed over

abbrev pub is_end : TokenKind → Bool
is_end kinds.End = true
is_end _ = false

-- whether a token is left before the end of the input
abbrev pub has_more : List Token → Bool
has_more [] = false
has_more (t ∷ ts) = not (is_end t.kind)

-- up to and with the next `end_of_list` that a `.` follows, and that `.`
unfoldable pub passed_at : List Token → Result (List Token) ReadFault
passed_at [] = refuse Unexpected []
passed_at (t ∷ ts) =
    if is_end t.kind then refuse Unexpected (t ∷ ts)
    else (if kind_is_word words.EndOfList t.kind && next_mark Dot ts then Ok (tail ts) else passed_at ts)
