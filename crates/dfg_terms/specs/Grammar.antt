-- The grammar of terms and atoms (SPASS Input Syntax 1.5, in the profile of docs/grammar.md): which tokens spell what.
use Rattle.std.specs.Prelude.{◌≡◌, ℕ, zero, suc, ◌≤◌, true, false, ◌⊎◌, List, length, slice_get, Some, None, Result, Ok, ⊤}
use Rattle.spl_terms.specs.declared.term.Symbol.{Symbol}
use Rattle.spl_terms.specs.declared.term.Term.{Term, Var, App}
use Rattle.spl_terms.specs.declared.atom.Atom.{Atom}
use Rattle.spl_terms.specs.declared.atom.Atom.TheVariants.{Holds, Equal}
use Rattle.spl_symbols.specs.Symbols.{Declared}
use Rattle.dfg_tokens.specs.declared.word.Word.TheVariants as words
use Rattle.dfg_tokens.specs.declared.piece.Mark.TheVariants.{OpenParenthesis, Comma}
use Rattle.dfg_tokens.specs.declared.token.Token.{Token}
use Rattle.dfg_tokens.specs.Tokens.{token_bytes}
use Rattle.dfg_terms.specs.declared.fault.InputError.{InputError}
use Rattle.dfg_terms.specs.declared.symbols.Place.{Place}
use Rattle.dfg_terms.specs.declared.symbols.Place.TheVariants as places
use Rattle.dfg_terms.specs.declared.variables.Variables.{Variables}
use Rattle.dfg_terms.specs.declared.variables.Variables.TheVariants as variables
use Rattle.dfg_terms.specs.declared.variables.Context.{Context}
use Rattle.dfg_terms.specs.Reading.{Gives, next_mark}
use Rattle.dfg_terms.specs.Scopes.{Binding, bound}
use Rattle.dfg_terms.specs.Symbols.{misfit}
use Rattle.dfg_terms.specs.Terms.{allows_equation}
use Rattle.dfg_terms.specs.Phrases.{Phrase, ◌⨾◌, token, mark, word, stray, IsNameOf, IsNumeralOf, enclosed, arguments}

-- ---- variables

-- How variables are written, and which tokens are free to name a function.
pub record Writing : Type 1 where
  pub variable : ℕ → Phrase
  pub IsFree : Token → Type 0

-- an inner binding of a name hides an outer one and a declared function
abbrev pub names : List ℕ → List Binding → Writing
names bytes scope = record { variable = λ n. token (λ t. (name : List ℕ) × IsNameOf bytes name t × (bound name scope ≡ Some n)); IsFree = λ t. bound (token_bytes bytes t) scope ≡ None }

-- `?` and a number
abbrev pub numbers : List ℕ → Writing
numbers bytes = record { variable = λ n. stray 63 ⨾ token (IsNumeralOf bytes n); IsFree = λ t. ⊤ }

abbrev pub writing_of : List ℕ → Variables → Writing
writing_of bytes (variables.Named scope) = names bytes scope.now
writing_of bytes variables.Numbered = numbers bytes

-- ---- terms

-- the symbol is declared, fits its place, and has so many arguments and this name
abbrev pub IsSymbol : List Declared → Place → Symbol → ℕ → List ℕ → Type 0
IsSymbol symbols place s count name = (misfit place s.kind ≡ None) × (slice_get symbols s.number ≡ Some (record { name = name; arity = count; kind = s.kind }))

abbrev pub symbol : List ℕ → List Declared → Place → (Token → Type 0) → Symbol → ℕ → Phrase
symbol bytes symbols place IsFree s count = token (λ t. (name : List ℕ) × IsSymbol symbols place s count name × IsNameOf bytes name t × IsFree t)

-- a symbol with its arguments
abbrev pub application : List ℕ → List Declared → Place → (Token → Type 0) → (Term → Phrase) → Symbol → List Term → Phrase
application bytes symbols place IsFree P s args = symbol bytes symbols place IsFree s (length args) ⨾ arguments P args

abbrev pub is_variable : Writing → Term → Phrase
is_variable writing t ts rest = (n : ℕ) × (t ≡ Var n) × writing.variable n ts rest

abbrev pub is_application : List ℕ → List Declared → Writing → (Term → Phrase) → Term → Phrase
is_application bytes symbols writing P t ts rest = (f : Symbol) × (args : List Term) × (t ≡ App f args) × application bytes symbols places.Term writing.IsFree P f args ts rest

-- a variable, or a function with its arguments, where terms nest at most so deep
unfoldable pub term : List ℕ → List Declared → Writing → ℕ → Term → Phrase
term bytes symbols writing zero t ts rest = ⊥
term bytes symbols writing (suc depth) t ts rest = is_variable writing t ts rest ⊎ is_application bytes symbols writing (term bytes symbols writing depth) t ts rest

-- ---- atoms

abbrev pub equation : Place → (Term → Phrase) → Atom → Phrase
equation place P a ts rest = (s : Term) × (t : Term) × (a ≡ Equal s t) × (allows_equation place ≡ true) × (word words.Equal ⨾ enclosed (P s ⨾ mark Comma ⨾ P t)) ts rest

-- a binding hides no predicate
abbrev pub predication : List ℕ → List Declared → Place → (Term → Phrase) → Atom → Phrase
predication bytes symbols place P a ts rest = (p : Symbol) × (args : List Term) × (a ≡ Holds p args) × application bytes symbols place (λ t. ⊤) P p args ts rest

-- an equation, or a predicate or sort with its arguments, in its place
abbrev pub atom : List ℕ → List Declared → Place → (Term → Phrase) → Atom → Phrase
atom bytes symbols place P a ts rest = equation place P a ts rest ⊎ predication bytes symbols place P a ts rest

-- ---- in a context

abbrev pub IsTermIn : Context → ℕ → Term → Phrase
IsTermIn c depth = term c.bytes.now c.symbols.now (writing_of c.bytes.now c.variables) depth

-- an atom whose terms nest at most so deep
abbrev pub IsAtomIn : Context → Place → ℕ → Atom → Phrase
IsAtomIn c place depth = atom c.bytes.now c.symbols.now place (IsTermIn c depth)

-- Each value that the tokens write is read, where no parenthesis follows; the tokens are no more than the bytes of the text.
abbrev pub EachIsRead : {X : Type 0} → List ℕ → (X → Phrase) → Result X InputError → List Token → List Token → Type 0
EachIsRead {X} bytes P result old new = length old ≤ length bytes → (x : X) (rest : List Token) → P x old rest → next_mark OpenParenthesis rest ≡ false → Gives {Y = X × List Token} (λ y. (y, new)) result (Ok (x, rest))
