-- The grammar of formulas and clauses (SPASS Input Syntax 1.5, in the profile of docs/grammar.md): which tokens spell what.
use Rattle.std.specs.Prelude.{◌≡◌, ℕ, zero, suc, ◌+◌, ◌-◌, ◌≤◌, Bool, true, false, ◌⊎◌, List, [], ◌∷◌, ◌++◌, length, slice_get, Option, Some, None, Result, Ok, ⊤}
use Rattle.spl_terms.specs.declared.term.Symbol.{Symbol}
use Rattle.spl_terms.specs.declared.term.Term.{Term}
use Rattle.spl_terms.specs.declared.atom.Atom.{Atom}
use Rattle.spl_terms.specs.declared.atom.Atom.TheVariants.{Holds}
use Rattle.spl_symbols.specs.Symbols.{Declared}
use Rattle.formulas.specs.declared.tree.Tree as tree
use Rattle.formulas.specs.declared.tree.Tree.{Tree, Tree-F, fold-Tree}
use Rattle.formulas.specs.declared.tree.Tree.TheOpen as layer
use Rattle.dfg_tokens.specs.declared.word.Word.{Word}
use Rattle.dfg_tokens.specs.declared.word.Word.TheVariants as words
use Rattle.dfg_tokens.specs.declared.piece.Mark.TheVariants.{OpenParenthesis, OpenBracket, CloseBracket, Comma}
use Rattle.dfg_tokens.specs.declared.token.Token.{Token}
use Rattle.dfg_terms.specs.declared.fault.InputError.{InputError}
use Rattle.dfg_terms.specs.declared.symbols.Place.TheVariants as places
use Rattle.dfg_terms.specs.Reading.{Gives, next_mark}
use Rattle.dfg_terms.specs.Scopes.{Binding}
use Rattle.dfg_terms.specs.Phrases.{Phrase, ◌⨾◌, nothing, token, mark, word, IsNameOf, enclosed, comma_separated}
use Rattle.dfg_terms.specs.Grammar.{names, term, application, atom}
use Rattle.dfg_formulas.specs.declared.shape.Shape.{Shape}
use Rattle.dfg_formulas.specs.declared.shape.Connective.{Connective}
use Rattle.dfg_formulas.specs.declared.shape.Connective.TheVariants as connectives
use Rattle.dfg_formulas.specs.declared.reader.Text.{Text}
use Rattle.dfg_formulas.specs.declared.reader.Level.{Level}
use Rattle.dfg_formulas.specs.Shapes.{parts}
use Rattle.dfg_formulas.specs.Quantifiers.{Item, of_sort, quantified}
use Rattle.dfg_formulas.specs.Formulas.{is_of_atoms, joined, pair_of}

-- ---- how many variables a formula binds

abbrev pub total : List ℕ → ℕ
total [] = 0
total (n ∷ ns) = n + total ns

abbrev pub count_in_layer : Tree-F ℕ → ℕ
count_in_layer layer.True = 0
count_in_layer layer.False = 0
count_in_layer (layer.Atom a) = 0
count_in_layer (layer.Not n) = n
count_in_layer (layer.And ns) = total ns
count_in_layer (layer.Or ns) = total ns
count_in_layer (layer.Implies m n) = m + n
count_in_layer (layer.Equiv m n) = m + n
count_in_layer (layer.Forall x n) = 1 + n
count_in_layer (layer.Exists x n) = 1 + n

abbrev pub binding_count : Tree → ℕ
binding_count = fold-Tree ℕ count_in_layer

-- ---- quantified variables

-- a sort, or a predicate of one argument, of this name
abbrev pub IsSort : List Declared → Symbol → List ℕ → Type 0
IsSort symbols s name = (is_of_atoms s.kind ≡ true) × (slice_get symbols s.number ≡ Some (record { name = name; arity = 1; kind = s.kind }))

abbrev pub sort_name : List ℕ → List Declared → Symbol → Phrase
sort_name bytes symbols s = token (λ t. (name : List ℕ) × IsSort symbols s name × IsNameOf bytes name t)

abbrev pub item_of : List ℕ → List Declared → Option Symbol → List ℕ → Phrase
item_of bytes symbols None name = token (IsNameOf bytes name)
item_of bytes symbols (Some s) name = sort_name bytes symbols s ⨾ enclosed (token (IsNameOf bytes name))

-- `x` or `S(x)`
abbrev pub item : List ℕ → List Declared → Item → Phrase
item bytes symbols i = item_of bytes symbols i.sort i.name

-- the variables are numbered from the first
abbrev pub bindings_from : ℕ → List Item → List Binding
bindings_from first [] = []
bindings_from first (i ∷ items) = record { name = i.name; number = first } ∷ bindings_from (first + 1) items

abbrev pub sorts_of : ℕ → List Item → List Tree
sorts_of first [] = []
sorts_of first (i ∷ items) = of_sort i.sort first ++ sorts_of (first + 1) items

-- ---- parts, in which these bindings are in force, and whose own bindings are numbered from the first

abbrev pub FormulaPhrase : Type 1
FormulaPhrase = List Binding → ℕ → Tree → Phrase

abbrev pub behind_in_turn : (ℕ → Tree → Phrase) → ℕ → List Tree → Phrase
behind_in_turn P first [] = nothing
behind_in_turn P first (f ∷ fs) = mark Comma ⨾ P first f ⨾ behind_in_turn P (first + binding_count f) fs

-- one or more with commas between them, each with its bindings behind those of the ones before
abbrev pub in_turn : (ℕ → Tree → Phrase) → ℕ → List Tree → Phrase
in_turn P first [] ts rest = ⊥
in_turn P first (f ∷ fs) ts rest = (P first f ⨾ behind_in_turn P (first + binding_count f) fs) ts rest

abbrev pub negation : FormulaPhrase → FormulaPhrase
negation P scope first f ts rest = (g : Tree) × (f ≡ tree.Not g) × P scope first g ts rest

abbrev pub several : Bool → FormulaPhrase → FormulaPhrase
several all P scope first f ts rest = (fs : List Tree) × (f ≡ joined all fs) × in_turn (P scope) first fs ts rest

abbrev pub pair : Connective → FormulaPhrase → FormulaPhrase
pair c P scope first f ts rest = (g : Tree) × (h : Tree) × (f ≡ pair_of c g h) × (P scope first g ⨾ mark Comma ⨾ P scope (first + binding_count g) h) ts rest

-- variables in brackets, and the part in which they are bound
abbrev pub quantification : List ℕ → List Declared → Bool → FormulaPhrase → FormulaPhrase
quantification bytes symbols all P scope first f ts rest =
    (items : List Item) × (g : Tree) × (f ≡ quantified all first (length items) (sorts_of first items) g)
    × (mark OpenBracket ⨾ comma_separated (item bytes symbols) items ⨾ mark CloseBracket ⨾ mark Comma ⨾ P (scope ++ bindings_from first items) (first + length items) g) ts rest

-- what stands in the parentheses of a connective
abbrev pub inside : List ℕ → List Declared → Connective → FormulaPhrase → FormulaPhrase
inside bytes symbols connectives.Not = negation
inside bytes symbols connectives.And = several true
inside bytes symbols connectives.Or = several false
inside bytes symbols connectives.Implies = pair connectives.Implies
inside bytes symbols connectives.Implied = pair connectives.Implied
inside bytes symbols connectives.Equiv = pair connectives.Equiv
inside bytes symbols connectives.Forall = quantification bytes symbols true
inside bytes symbols connectives.Exists = quantification bytes symbols false

abbrev pub connective_word : Connective → Word
connective_word connectives.Not = words.Not
connective_word connectives.And = words.And
connective_word connectives.Or = words.Or
connective_word connectives.Implies = words.Implies
connective_word connectives.Implied = words.Implied
connective_word connectives.Equiv = words.Equiv
connective_word connectives.Forall = words.Forall
connective_word connectives.Exists = words.Exists

-- ---- formulas

abbrev pub constant : Tree → Phrase
constant f ts rest = ((f ≡ tree.True) × word words.True ts rest) ⊎ ((f ≡ tree.False) × word words.False ts rest)

-- an atom whose terms nest at most so deep
abbrev pub atomic : List ℕ → List Declared → ℕ → FormulaPhrase
atomic bytes symbols depth scope first f ts rest = (a : Atom) × (f ≡ tree.Atom a) × atom bytes symbols places.Atom (term bytes symbols (names bytes scope) depth) a ts rest

-- a connective that may stand in this shape, with its parts
abbrev pub connection : List ℕ → List Declared → Shape → (Shape → FormulaPhrase) → FormulaPhrase
connection bytes symbols shape P scope first f ts rest = (c : Connective) × (inner : Shape) × (parts shape c ≡ Some inner) × (word (connective_word c) ⨾ enclosed (inside bytes symbols c (P inner) scope first f)) ts rest

-- a formula of this shape, which nests at most so deep
unfoldable pub formula : List ℕ → List Declared → ℕ → Shape → FormulaPhrase
formula bytes symbols zero shape scope first f ts rest = ⊥
formula bytes symbols (suc depth) shape scope first f ts rest = constant f ts rest ⊎ (atomic bytes symbols depth scope first f ts rest ⊎ connection bytes symbols shape (formula bytes symbols depth) scope first f ts rest)

-- ---- declarations of terms

-- `T(t)`: a sort, or a predicate of one argument, of a term that nests at most so deep
abbrev pub sorted_term : List ℕ → List Declared → ℕ → FormulaPhrase
sorted_term bytes symbols depth scope first f ts rest =
    (s : Symbol) × (t : Term) × (f ≡ tree.Atom (Holds s (t ∷ [])))
    × application bytes symbols places.Atom (λ free. ⊤) (term bytes symbols (names bytes scope) depth) s (t ∷ []) ts rest

-- it alone, or for all values of variables; all nests at most so deep
abbrev pub term_declaration : List ℕ → List Declared → ℕ → FormulaPhrase
term_declaration bytes symbols depth scope first f ts rest =
    sorted_term bytes symbols (depth - 1) scope first f ts rest
    ⊎ (word words.Forall ⨾ enclosed (quantification bytes symbols true (sorted_term bytes symbols (depth - 2)) scope first f)) ts rest

-- ---- in a text

abbrev pub IsFormulaIn : Text → Level → FormulaPhrase
IsFormulaIn text level = formula text.bytes.now text.symbols.now level.depth level.shape

abbrev pub IsTermDeclarationIn : Text → ℕ → FormulaPhrase
IsTermDeclarationIn text depth = term_declaration text.bytes.now text.symbols.now depth

-- the same as for formulas below
abbrev pub EachDeclarationIsRead : Text → ℕ → List Binding → ℕ → Result (Tree × ℕ) InputError → List Token → List Token → Type 0
EachDeclarationIsRead text depth scope next result old new = length old ≤ length text.bytes.now → (f : Tree) (rest : List Token) → IsTermDeclarationIn text depth scope next f old rest → next_mark OpenParenthesis rest ≡ false → Gives {Y = (Tree × ℕ) × List Token} (λ x. (x, new)) result (Ok ((f, next + binding_count f), rest))

-- Each formula that the tokens write is read, where no parenthesis follows; the tokens are no more than the bytes of the text.
abbrev pub EachFormulaIsRead : Text → Level → List Binding → ℕ → Result (Tree × ℕ) InputError → List Token → List Token → Type 0
EachFormulaIsRead text level scope next result old new = length old ≤ length text.bytes.now → (f : Tree) (rest : List Token) → IsFormulaIn text level scope next f old rest → next_mark OpenParenthesis rest ≡ false → Gives {Y = (Tree × ℕ) × List Token} (λ x. (x, new)) result (Ok ((f, next + binding_count f), rest))
