-- Formulas and clauses, or the first fault: what is read, the number of the next binding, and the tokens that are left.
use Rattle.std.specs.Prelude.{◌≡◌, ℕ, zero, suc, ◌+◌, ◌-◌, Bool, true, false, ◌&&◌, ◌==◌, if◌then◌else◌, List, [], ◌∷◌, ◌++◌, length, Option, Some, None, Result, Ok}
use Rattle.spl_terms.specs.declared.term.Kind.{Kind}
use Rattle.spl_terms.specs.declared.term.Kind.TheVariants as term_kinds
use Rattle.spl_terms.specs.declared.term.Symbol.{Symbol}
use Rattle.spl_symbols.specs.Symbols.{Declared}
use Rattle.formulas.specs.declared.tree.Tree as tree
use Rattle.formulas.specs.declared.tree.Tree.{Tree}
use Rattle.dfg_tokens.specs.declared.token.Token.{Token}
use Rattle.dfg_tokens.specs.declared.word.Word.TheVariants as words
use Rattle.dfg_tokens.specs.declared.piece.Mark.TheVariants.{OpenParenthesis, CloseParenthesis, OpenBracket, CloseBracket, Comma}
use Rattle.dfg_tokens.specs.Cursors.{tail}
use Rattle.dfg_terms.specs.declared.fault.ReadFault.{ReadFault}
use Rattle.dfg_terms.specs.declared.fault.FaultKind.TheVariants.{Unexpected, Undeclared, LimitReached}
use Rattle.dfg_terms.specs.declared.fault.Limit.TheVariants as limits
use Rattle.dfg_terms.specs.declared.symbols.Found.{Found}
use Rattle.dfg_terms.specs.declared.symbols.Place.TheVariants as places
use Rattle.dfg_terms.specs.Reading.{◌>>=◌, Reader, refuse, fault, next_mark, next_word, mark_at, name_at, bytes_of, spelled_at, commas}
use Rattle.dfg_terms.specs.Scopes.{Binding}
use Rattle.dfg_terms.specs.Symbols.{lookup}
use Rattle.dfg_terms.specs.Terms.{named_leaf, term_at, atom_with}
use Rattle.dfg_formulas.specs.declared.shape.Shape.{Shape}
use Rattle.dfg_formulas.specs.declared.shape.Connective.{Connective}
use Rattle.dfg_formulas.specs.declared.shape.Connective.TheVariants as connectives
use Rattle.dfg_formulas.specs.declared.shape.Head.{Head}
use Rattle.dfg_formulas.specs.declared.shape.Head.TheVariants as heads
use Rattle.dfg_formulas.specs.Shapes.{parts, next_head, may_begin}
use Rattle.dfg_formulas.specs.Quantifiers.{of_sort, quantified}

-- ---- quantified variables

abbrev pub is_of_atoms : Kind → Bool
is_of_atoms term_kinds.Function = false
is_of_atoms term_kinds.Predicate = true
is_of_atoms term_kinds.Sort = true

-- a sort, or a predicate of one argument
abbrev pub may_be_sort : Found → Bool
may_be_sort f = is_of_atoms f.symbol.kind && (f.arity == 1)

-- before the parenthesis another name is undeclared
abbrev pub sort_if : ℕ → Option Found → Result Symbol ReadFault
sort_if at None = fault at Undeclared
sort_if at (Some f) = if may_be_sort f then Ok f.symbol else fault at Undeclared

unfoldable pub sort_named : List ℕ → List Declared → Token → Result Symbol ReadFault
sort_named bytes symbols token = spelled_at bytes token >>= λ name. sort_if token.at (lookup name symbols)

-- the bindings in force, how many of this quantifier's are read, and that they are of their sorts
abbrev pub ItemsRead : Type 0
ItemsRead = (List Binding × ℕ) × List Tree

-- `S(x)`, behind the name of the sort
unfoldable pub sorted_item_at : List ℕ → List Declared → Token → List Token → Result ((Option Symbol × Token) × List Token) ReadFault
sorted_item_at bytes symbols token ts = do
  sort ← sort_named bytes symbols token
  inner ← mark_at OpenParenthesis ts
  name ← name_at inner
  rest ← mark_at CloseParenthesis name.1
  Ok ((Some sort, name.0), rest)

-- `x` or `S(x)`
unfoldable pub item_at : List ℕ → List Declared → List Token → Result ((Option Symbol × Token) × List Token) ReadFault
item_at bytes symbols ts = name_at ts >>= λ name. if next_mark OpenParenthesis name.1 then sorted_item_at bytes symbols name.0 name.1 else Ok ((None, name.0), name.1)

-- one more variable; the numbers of a quantifier's variables follow on the first
abbrev pub with_item : List ℕ → ℕ → ItemsRead → Option Symbol → Token → ItemsRead
with_item bytes first s sort name = ((s.0.0 ++ record { name = bytes_of bytes name; number = first + s.0.1 } ∷ [], s.0.1 + 1), s.1 ++ of_sort sort (first + s.0.1))

-- the bindings and the sorts before and after it
abbrev pub AddsItem : List ℕ → ℕ → ℕ → Option Symbol → Token → List Binding → List Binding → List Tree → List Tree → Type 0
AddsItem bytes first count sort name scope scope' sorts sorts' = (scope' ≡ scope ++ record { name = bytes_of bytes name; number = first + count } ∷ []) × (sorts' ≡ sorts ++ of_sort sort (first + count))

abbrev pub adding_item : List ℕ → List Declared → ℕ → Reader ItemsRead
adding_item bytes symbols first s ts = item_at bytes symbols ts >>= λ x. Ok (with_item bytes first s x.0.0 x.0.1, x.1)

-- ---- formulas

abbrev pub FormulaReader : Type 0
FormulaReader = List Binding → ℕ → List Token → Result ((Tree × ℕ) × List Token) ReadFault

-- one part
unfoldable pub negation_at : FormulaReader → FormulaReader
negation_at read scope next ts = read scope next ts >>= λ f. Ok ((tree.Not f.0.0, f.0.1), f.1)

-- one or more parts
abbrev pub adding_part : FormulaReader → List Binding → Reader (List Tree × ℕ)
adding_part read scope s ts = read scope s.1 ts >>= λ f. Ok ((s.0 ++ f.0.0 ∷ [], f.0.1), f.1)

abbrev pub joined : Bool → List Tree → Tree
joined true fs = tree.And fs
joined false fs = tree.Or fs

unfoldable pub several_at : List ℕ → Bool → FormulaReader → FormulaReader
several_at bytes all read scope next ts = commas (adding_part read scope) (length bytes) ([], next) ts >>= λ x. Ok ((joined all x.0.0, x.0.1), x.1)

-- the formula of two parts; `implied(F,G)` is that G implies F
abbrev pub pair_of : Connective → Tree → Tree → Tree
pair_of connectives.Implied f g = tree.Implies g f
pair_of connectives.Equiv f g = tree.Equiv f g
pair_of _ f g = tree.Implies f g

-- two parts
unfoldable pub pair_at : Connective → FormulaReader → FormulaReader
pair_at c read scope next ts = do
  f ← read scope next ts
  second ← mark_at Comma f.1
  g ← read scope f.0.1 second
  Ok ((pair_of c f.0.0 g.0.0, g.0.1), g.1)

-- variables in brackets, and one part, in which they are bound
unfoldable pub quantified_at : List ℕ → List Declared → Bool → FormulaReader → FormulaReader
quantified_at bytes symbols all read scope next ts = do
  opened ← mark_at OpenBracket ts
  items ← commas (adding_item bytes symbols next) (length bytes) ((scope, 0), []) opened
  closed ← mark_at CloseBracket items.1
  comma ← mark_at Comma closed
  f ← read items.0.0.0 (next + items.0.0.1) comma
  Ok ((quantified all next items.0.0.1 items.0.1 f.0.0, f.0.1), f.1)

-- what stands in the parentheses of a connective
abbrev pub inside_at : List ℕ → List Declared → Connective → FormulaReader → FormulaReader
inside_at bytes symbols connectives.Not = negation_at
inside_at bytes symbols connectives.And = several_at bytes true
inside_at bytes symbols connectives.Or = several_at bytes false
inside_at bytes symbols connectives.Implies = pair_at connectives.Implies
inside_at bytes symbols connectives.Implied = pair_at connectives.Implied
inside_at bytes symbols connectives.Equiv = pair_at connectives.Equiv
inside_at bytes symbols connectives.Forall = quantified_at bytes symbols true
inside_at bytes symbols connectives.Exists = quantified_at bytes symbols false

unfoldable pub connected_at : List ℕ → List Declared → Connective → FormulaReader → FormulaReader
connected_at bytes symbols c read scope next ts = do
  inner ← mark_at OpenParenthesis ts
  f ← inside_at bytes symbols c read scope next inner
  rest ← mark_at CloseParenthesis f.1
  Ok (f.0, rest)

abbrev pub connected_if : List ℕ → List Declared → Connective → Option Shape → (Shape → FormulaReader) → FormulaReader
connected_if bytes symbols c None read scope next ts = refuse Unexpected ts
connected_if bytes symbols c (Some shape) read scope next ts = connected_at bytes symbols c (read shape) scope next (tail ts)

abbrev pub constant : Bool → Tree
constant true = tree.True
constant false = tree.False

-- an atom whose terms may nest so deep
unfoldable pub atom_at : List ℕ → List Declared → ℕ → FormulaReader
atom_at bytes symbols depth scope next ts = atom_with bytes symbols places.Atom (term_at bytes symbols (named_leaf bytes scope) depth) ts >>= λ x. Ok ((tree.Atom x.0, next), x.1)

-- by what stands there; the parts may nest so deep
abbrev pub formula_by : List ℕ → List Declared → Shape → ℕ → (Shape → FormulaReader) → Head → FormulaReader
formula_by bytes symbols shape depth read (heads.Constant b) scope next ts = Ok ((constant b, next), tail ts)
formula_by bytes symbols shape depth read (heads.Connected c) scope next ts = connected_if bytes symbols c (parts shape c) read scope next ts
formula_by bytes symbols shape depth read heads.Atom scope next ts = atom_at bytes symbols depth scope next ts
formula_by bytes symbols shape depth read heads.Nothing scope next ts = refuse Unexpected ts

-- a formula at the depth that isn't allowed
unfoldable pub too_deep : Shape → List Token → Result ((Tree × ℕ) × List Token) ReadFault
too_deep shape ts = if may_begin shape (next_head ts) then refuse (LimitReached limits.Depth) ts else refuse Unexpected ts

-- a formula of this shape that may nest so deep
unfoldable pub formula_at : List ℕ → List Declared → ℕ → Shape → FormulaReader
formula_at bytes symbols zero shape scope next ts = too_deep shape ts
formula_at bytes symbols (suc depth) shape scope next ts = formula_by bytes symbols shape depth (formula_at bytes symbols depth) (next_head ts) scope next ts

-- ---- declarations of terms

-- `T(t)`, whose term may nest so deep; its name is looked up before its arguments are read
unfoldable pub sorted_term_at : List ℕ → List Declared → ℕ → FormulaReader
sorted_term_at bytes symbols depth scope next ts = do
  name ← name_at ts
  sort ← sort_named bytes symbols name.0
  atom_at bytes symbols depth scope next ts

-- `T(t)`, or `forall([..],T(t))`; all nests at most so deep
unfoldable pub term_declaration_at : List ℕ → List Declared → ℕ → FormulaReader
term_declaration_at bytes symbols depth scope next ts =
    if next_word words.Forall ts then connected_at bytes symbols connectives.Forall (sorted_term_at bytes symbols (depth - 2)) scope next (tail ts)
    else sorted_term_at bytes symbols (depth - 1) scope next ts
