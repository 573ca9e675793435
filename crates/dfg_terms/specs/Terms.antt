-- Terms and atoms, or the first fault.
use Rattle.std.specs.Prelude.{ℕ, zero, suc, ◌+◌, Bool, true, false, ◌||◌, nat_lt, if◌then◌else◌, List, [], ◌∷◌, ◌++◌, length, Option, Some, None, Result, Ok}
use Rattle.spl_terms.specs.declared.term.Symbol.{Symbol}
use Rattle.spl_terms.specs.declared.term.Term.{Term, Var, App}
use Rattle.spl_terms.specs.declared.atom.Atom.{Atom}
use Rattle.spl_terms.specs.declared.atom.Atom.TheVariants as atoms
use Rattle.spl_symbols.specs.Symbols.{Declared}
use Rattle.dfg_tokens.specs.declared.token.Token.{Token}
use Rattle.dfg_tokens.specs.declared.piece.TokenKind.{TokenKind}
use Rattle.dfg_tokens.specs.declared.piece.Mark.TheVariants.{OpenParenthesis, CloseParenthesis, Comma}
use Rattle.dfg_tokens.specs.declared.word.Word.TheVariants as words
use Rattle.dfg_tokens.specs.Cursors.{tail}
use Rattle.dfg_terms.specs.declared.fault.ReadFault.{ReadFault}
use Rattle.dfg_terms.specs.declared.fault.FaultKind.TheVariants.{Unexpected, LimitReached}
use Rattle.dfg_terms.specs.declared.fault.Limit.TheVariants as limits
use Rattle.dfg_terms.specs.declared.symbols.Place.{Place}
use Rattle.dfg_terms.specs.declared.symbols.Place.TheVariants as places
use Rattle.dfg_terms.specs.declared.variables.Variables.{Variables}
use Rattle.dfg_terms.specs.declared.variables.Variables.TheVariants as variables
use Rattle.dfg_terms.specs.declared.variables.Context.{Context}
use Rattle.dfg_terms.specs.Reading.{◌>>=◌, Reader, refuse, kind_is_name, kind_is_stray, next_is, next_mark, next_word, next_stray, mark_at, name_at, bytes_of, commas}
use Rattle.dfg_terms.specs.Numbers.{numeral_at}
use Rattle.dfg_terms.specs.Scopes.{Binding, bound}
use Rattle.dfg_terms.specs.Symbols.{symbol_named, checked_arity}

-- ---- variables

-- How variables are read: the number of the one that stands there, if one does; and whether a token of this kind may begin a term.
pub record Leaf : Type 0 where
  pub variable : List Token → Result (Option ℕ × List Token) ReadFault
  pub begins : TokenKind → Bool

abbrev pub taken_if : Option ℕ → List Token → Result (Option ℕ × List Token) ReadFault
taken_if None ts = Ok (None, ts)
taken_if (Some n) ts = Ok (Some n, tail ts)

-- a name that is bound
unfoldable pub named_at : List ℕ → List Binding → List Token → Result (Option ℕ × List Token) ReadFault
named_at bytes scope [] = Ok (None, [])
named_at bytes scope (t ∷ ts) = if kind_is_name t.kind then taken_if (bound (bytes_of bytes t) scope) (t ∷ ts) else Ok (None, t ∷ ts)

-- `?` and a number
unfoldable pub numbered_at : List ℕ → List Token → Result (Option ℕ × List Token) ReadFault
numbered_at bytes ts = if next_stray 63 ts then (numeral_at bytes (tail ts) >>= λ x. Ok (Some x.0, x.1)) else Ok (None, ts)

abbrev pub named_leaf : List ℕ → List Binding → Leaf
named_leaf bytes scope = record { variable = named_at bytes scope; begins = kind_is_name }

abbrev pub numbered_leaf : List ℕ → Leaf
numbered_leaf bytes = record { variable = numbered_at bytes; begins = λ k. kind_is_name k || kind_is_stray 63 k }

abbrev pub leaf_of : List ℕ → Variables → Leaf
leaf_of bytes (variables.Named scope) = named_leaf bytes scope.now
leaf_of bytes variables.Numbered = numbered_leaf bytes

-- ---- terms

abbrev pub TermReader : Type 0
TermReader = List Token → Result (Term × List Token) ReadFault

-- one more term, if more are declared
abbrev pub kept : ℕ → List Term → Term → List Term
kept declared args t = if nat_lt (length args) declared then args ++ t ∷ [] else args

-- terms with how many they are; no more are kept than are declared
abbrev pub keeping : ℕ → TermReader → Reader (List Term × ℕ)
keeping declared read s ts = read ts >>= λ x. Ok ((kept declared s.0 x.0, s.1 + 1), x.1)

-- the arguments in parentheses, if there are any; as many as the count at the most
unfoldable pub arguments_at : ℕ → ℕ → TermReader → List Token → Result ((List Term × ℕ) × List Token) ReadFault
arguments_at count declared read ts = if next_mark OpenParenthesis ts then (commas (keeping declared read) count ([], 0) (tail ts) >>= λ x. mark_at CloseParenthesis x.1 >>= λ rest. Ok (x.0, rest)) else Ok (([], 0), ts)

-- A symbol with its arguments, each read by a reader of terms. A list of a text has no more entries than the text has bytes.
unfoldable pub application_at : List ℕ → List Declared → Place → TermReader → List Token → Result (Symbol × List Term × List Token) ReadFault
application_at bytes symbols place read ts = do
  name ← name_at ts
  f ← symbol_named bytes symbols place name.0
  args ← arguments_at (length bytes) f.arity read name.1
  fine ← checked_arity name.0.at f args.0.1
  Ok (f.symbol, args.0.0, args.1)

-- a term at the depth that isn't allowed
unfoldable pub too_deep : Leaf → List Token → Result (Term × List Token) ReadFault
too_deep leaf ts = if next_is leaf.begins ts then refuse (LimitReached limits.Depth) ts else refuse Unexpected ts

-- the variable, or the application that is read where there is none
abbrev pub variable_or : Option ℕ → (List Token → Result (Symbol × List Term × List Token) ReadFault) → TermReader
variable_or None read ts = read ts >>= λ x. Ok (App x.0 x.1, x.2)
variable_or (Some n) read ts = Ok (Var n, ts)

-- a term that may nest so deep
unfoldable pub term_at : List ℕ → List Declared → Leaf → ℕ → TermReader
term_at bytes symbols leaf zero ts = too_deep leaf ts
term_at bytes symbols leaf (suc depth) ts = leaf.variable ts >>= λ v. variable_or v.0 (application_at bytes symbols places.Term (term_at bytes symbols leaf depth)) v.1

-- ---- atoms

-- a constraint has atoms of sorts alone
abbrev pub allows_equation : Place → Bool
allows_equation places.Term = false
allows_equation places.Atom = true
allows_equation places.Constraint = false
allows_equation places.Antecedent = true

-- the sides of an equation, behind its word
unfoldable pub sides_at : TermReader → List Token → Result (Atom × List Token) ReadFault
sides_at read ts = do
  inner ← mark_at OpenParenthesis ts
  left ← read inner
  second ← mark_at Comma left.1
  right ← read second
  rest ← mark_at CloseParenthesis right.1
  Ok (atoms.Equal left.0 right.0, rest)

-- an atom in its place, whose terms are read so
unfoldable pub atom_with : List ℕ → List Declared → Place → TermReader → List Token → Result (Atom × List Token) ReadFault
atom_with bytes symbols place read ts =
    if next_word words.Equal ts then (if allows_equation place then sides_at read (tail ts) else refuse Unexpected ts)
    else (application_at bytes symbols place read ts >>= λ x. Ok (atoms.Holds x.0 x.1, x.2))

-- ---- what a context reads

abbrev pub term_in : Context → ℕ → TermReader
term_in c depth = term_at c.bytes.now c.symbols.now (leaf_of c.bytes.now c.variables) depth

-- an atom whose terms may nest so deep
abbrev pub atom_in : Context → Place → ℕ → List Token → Result (Atom × List Token) ReadFault
atom_in c place depth = atom_with c.bytes.now c.symbols.now place (term_in c depth)
