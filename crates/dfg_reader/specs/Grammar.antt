-- The grammar of problems (SPASS Input Syntax 1.5, in the profile of docs/grammar.md): which tokens spell what. It knows nothing of reading: there is no order of tests, no state and no fault.
use Rattle.std.specs.Prelude.{◌≡◌, ℕ, zero, suc, ◌-◌, ◌≤◌, Bool, true, false, ◌⊎◌, List, [], ◌∷◌, length, slice_get, Some, ⊤}
use Rattle.std.specs.List.{flat_map, AllByRecursion}
use Rattle.spl_terms.specs.declared.term.Kind.{Kind}
use Rattle.spl_terms.specs.declared.term.Kind.TheVariants.{Function, Predicate}
use Rattle.spl_terms.specs.declared.term.Symbol.{Symbol}
use Rattle.spl_terms.specs.declared.term.Term.{Term, App}
use Rattle.spl_terms.specs.declared.atom.Atom.{Atom}
use Rattle.spl_terms.specs.declared.atom.Atom.TheVariants.{Holds}
use Rattle.spl_symbols.specs.Symbols.{Declared, HasOwnNames}
use Rattle.dfg_tokens.specs.declared.word.Word.{Word}
use Rattle.dfg_tokens.specs.declared.word.Word.TheVariants as words
use Rattle.dfg_tokens.specs.declared.piece.Mark.{Mark}
use Rattle.dfg_tokens.specs.declared.piece.Mark.TheVariants.{OpenParenthesis, CloseParenthesis, OpenBracket, CloseBracket, Comma, Dot}
use Rattle.dfg_tokens.specs.declared.piece.TokenKind.TheVariants as kinds
use Rattle.dfg_tokens.specs.declared.token.Token.{Token}
use Rattle.dfg_tokens.specs.Names.{is_name}
use Rattle.dfg_tokens.specs.Tokens.{token_bytes, tokens}
use Rattle.dfg_reader.specs.declared.formula.Formula.{Formula, True, False, Not, Or}
use Rattle.dfg_reader.specs.declared.formula.Formula as formulas
use Rattle.dfg_reader.specs.declared.problem.Role.TheVariants as roles
use Rattle.dfg_reader.specs.declared.problem.Entry.{Entry}
use Rattle.dfg_reader.specs.declared.problem.Problem.{Problem}
use Rattle.dfg_reader.specs.Reading.{is_reserved, place}
use Rattle.dfg_reader.specs.Symbols.{arity_of}
use Rattle.dfg_reader.specs.Terms.{fits_place}
use Rattle.dfg_reader.specs.GroundClauses.{HasLimits}

-- ---- phrases

-- whether a phrase stands at the front of the first list of tokens, with the second list behind it
abbrev pub Phrase : Type 1
Phrase = List Token → List Token → Type 0

-- one phrase, and behind it another
infixr 20 ◌⨾◌
abbrev pub ◌⨾◌ : Phrase → Phrase → Phrase
◌⨾◌ P Q ts rest = (between : List Token) × P ts between × Q between rest

abbrev pub nothing : Phrase
nothing ts rest = ts ≡ rest

abbrev pub either : Phrase → Phrase → Phrase
either P Q ts rest = P ts rest ⊎ Q ts rest

-- one token of which this holds
abbrev pub token : (Token → Type 0) → Phrase
token P ts rest = (t : Token) × P t × (ts ≡ t ∷ rest)

abbrev pub mark : Mark → Phrase
mark m = token (λ t. t.kind ≡ kinds.Mark m)

abbrev pub word : Word → Phrase
word w = token (λ t. t.kind ≡ kinds.Word w)

-- one of the words that pass
abbrev pub any_word : (Word → Bool) → Phrase
any_word test = token (λ t. (w : Word) × (t.kind ≡ kinds.Word w) × (test w ≡ true))

-- any identifier, a reserved word too
abbrev pub identifier : Phrase
identifier = token (λ t. (w : Word) × (t.kind ≡ kinds.Word w))

abbrev pub text : Phrase
text = token (λ t. t.kind ≡ kinds.Text)

-- an identifier of these bytes that is no reserved word
abbrev pub IsNameOf : List ℕ → List ℕ → Token → Type 0
IsNameOf bytes name t = (w : Word) × (t.kind ≡ kinds.Word w) × (is_reserved w ≡ false) × (token_bytes bytes t ≡ name)

-- an identifier of one to three digits that spell the number
abbrev pub IsNumberOf : List ℕ → ℕ → Token → Type 0
IsNumberOf bytes n t = (w : Word) × (t.kind ≡ kinds.Word w) × (arity_of (token_bytes bytes t) ≡ Some n)

-- ---- several in a row

-- a phrase for each, one behind the other
abbrev pub each : {X : Type 0} → (X → Phrase) → List X → Phrase
each P [] = nothing
each P (x ∷ xs) = P x ⨾ each P xs

abbrev pub each_behind_comma : {X : Type 0} → (X → Phrase) → List X → Phrase
each_behind_comma P [] = nothing
each_behind_comma P (x ∷ xs) = mark Comma ⨾ P x ⨾ each_behind_comma P xs

-- the groups one behind the other
abbrev pub concatenated : {X : Type 0} → List (List X) → List X
concatenated = flat_map (λ xs. xs)

-- one or more with commas between them
abbrev pub comma_separated : {X : Type 0} → (X → Phrase) → List X → Phrase
comma_separated P [] ts rest = ⊥
comma_separated P (x ∷ xs) ts rest = (P x ⨾ each_behind_comma P xs) ts rest

-- in parentheses
abbrev pub enclosed : Phrase → Phrase
enclosed P = mark OpenParenthesis ⨾ P ⨾ mark CloseParenthesis

-- `(x,..)`, or nothing where there are none
abbrev pub arguments : {X : Type 0} → (X → Phrase) → List X → Phrase
arguments P [] = nothing
arguments P (x ∷ xs) = enclosed (comma_separated P (x ∷ xs))

-- ---- terms and atoms

-- the symbol is declared, fits its place, and has so many arguments and this name
abbrev pub IsSymbol : List Declared → Bool → Symbol → ℕ → List ℕ → Type 0
IsSymbol symbols in_term s count name = (fits_place in_term s.kind ≡ true) × (slice_get symbols s.number ≡ Some (record { name = name; arity = count; kind = s.kind }))

abbrev pub symbol : List ℕ → List Declared → Bool → Symbol → ℕ → Phrase
symbol bytes symbols in_term s count = token (λ t. (name : List ℕ) × IsSymbol symbols in_term s count name × IsNameOf bytes name t)

-- a symbol with its arguments
abbrev pub application : List ℕ → List Declared → Bool → (Term → Phrase) → Symbol → List Term → Phrase
application bytes symbols in_term P s args = symbol bytes symbols in_term s (length args) ⨾ arguments P args

-- a function with its arguments, where terms nest at most so deep
unfoldable pub term : List ℕ → List Declared → ℕ → Term → Phrase
term bytes symbols zero t ts rest = ⊥
term bytes symbols (suc depth) t ts rest = (f : Symbol) × (args : List Term) × (t ≡ App f args) × application bytes symbols true (term bytes symbols depth) f args ts rest

-- a predicate with its arguments, where all nests at most so deep
abbrev pub atom : List ℕ → List Declared → ℕ → Atom → Phrase
atom bytes symbols depth a ts rest = (p : Symbol) × (args : List Term) × (a ≡ Holds p args) × application bytes symbols false (term bytes symbols (depth - 1)) p args ts rest

-- ---- clauses

-- `true`, `false` or an atom
abbrev pub unsigned : List ℕ → List Declared → ℕ → Formula → Phrase
unsigned bytes symbols depth f ts rest = ((f ≡ True) × word words.True ts rest) ⊎ (((f ≡ False) × word words.False ts rest) ⊎ ((a : Atom) × (f ≡ formulas.Atom a) × atom bytes symbols depth a ts rest))

-- `not(..)` of one of these
abbrev pub negative_literal : List ℕ → List Declared → ℕ → Formula → Phrase
negative_literal bytes symbols depth f ts rest = (g : Formula) × (f ≡ Not g) × (word words.Not ⨾ enclosed (unsigned bytes symbols (depth - 1) g)) ts rest

-- one of both, which nests at most so deep
abbrev pub literal : List ℕ → List Declared → ℕ → Formula → Phrase
literal bytes symbols depth f = either (unsigned bytes symbols depth f) (negative_literal bytes symbols depth f)

-- `or(..)` of literals
abbrev pub disjunction : List ℕ → List Declared → ℕ → Formula → Phrase
disjunction bytes symbols depth f ts rest = (fs : List Formula) × (f ≡ Or fs) × (word words.Or ⨾ enclosed (comma_separated (literal bytes symbols (depth - 1)) fs)) ts rest

-- Formulas and terms nest at most 1,000 deep: `or`, `not`, an atom and each term count one level.
abbrev pub body : List ℕ → List Declared → Formula → Phrase
body bytes symbols f = either (literal bytes symbols 1000 f) (disjunction bytes symbols 1000 f)

abbrev pub label : Phrase
label = either nothing (mark Comma ⨾ identifier)

-- `clause(C).` or `clause(C,label).`, whose place is that of its word
abbrev pub clause : List ℕ → List Declared → Entry → Phrase
clause bytes symbols e ts rest = (e.role ≡ roles.Clause) × (e.at ≡ place ts) × (word words.Clause ⨾ enclosed (body bytes symbols e.formula ⨾ label) ⨾ mark Dot) ts rest

-- `end_of_list.` behind the items of a list
abbrev pub list_end : Phrase
list_end = word words.EndOfList ⨾ mark Dot

abbrev pub origin : Phrase
origin = either (word words.Axioms) (word words.Conjectures)

abbrev pub clause_list : List ℕ → List Declared → List Entry → Phrase
clause_list bytes symbols es = word words.ListOfClauses ⨾ enclosed (origin ⨾ mark Comma ⨾ word words.Cnf) ⨾ mark Dot ⨾ each (clause bytes symbols) es ⨾ list_end

-- ---- the signature

-- `(name,arity)`
abbrev pub declaration : List ℕ → Kind → Declared → Phrase
declaration bytes kind d ts rest = (d.kind ≡ kind) × enclosed (token (IsNameOf bytes d.name) ⨾ mark Comma ⨾ token (IsNumberOf bytes d.arity)) ts rest

abbrev pub declarations : List ℕ → Word → Kind → List Declared → Phrase
declarations bytes w kind ds = word w ⨾ mark OpenBracket ⨾ comma_separated (declaration bytes kind) ds ⨾ mark CloseBracket ⨾ mark Dot

-- `functions[..].` or `predicates[..].`
abbrev pub symbol_item : List ℕ → List Declared → Phrase
symbol_item bytes ds = either (declarations bytes words.Functions Function ds) (declarations bytes words.Predicates Predicate ds)

abbrev pub symbol_list : List ℕ → List (List Declared) → Phrase
symbol_list bytes groups = word words.ListOfSymbols ⨾ mark Dot ⨾ each (symbol_item bytes) groups ⨾ list_end

-- the list of symbols, if there is one
abbrev pub signature : List ℕ → List Declared → Phrase
signature bytes symbols ts rest = ((symbols ≡ []) × nothing ts rest) ⊎ ((groups : List (List Declared)) × (symbols ≡ concatenated groups) × symbol_list bytes groups ts rest)

-- ---- descriptions

abbrev pub is_description_word : Word → Bool
is_description_word words.Name = true
is_description_word words.Author = true
is_description_word words.Version = true
is_description_word words.Logic = true
is_description_word words.Description = true
is_description_word words.Date = true
is_description_word _ = false

abbrev pub is_status_word : Word → Bool
is_status_word words.Satisfiable = true
is_status_word words.Unsatisfiable = true
is_status_word words.Unknown = true
is_status_word _ = false

-- `name({*..*}).` and the like, or `status(unknown).`
abbrev pub description : Phrase
description = either (any_word is_description_word ⨾ enclosed text ⨾ mark Dot) (word words.Status ⨾ enclosed (any_word is_status_word) ⨾ mark Dot)

-- items in any order and number
abbrev pub descriptions : Phrase
descriptions ts rest = (items : List ⊤) × (word words.ListOfDescriptions ⨾ mark Dot ⨾ each (λ item. description) items ⨾ list_end) ts rest

-- ---- problems

abbrev pub head : Phrase
head = word words.BeginProblem ⨾ enclosed identifier ⨾ mark Dot

abbrev pub ending : ℕ → Phrase
ending at ts rest = (at ≡ place ts) × (word words.EndProblem ⨾ mark Dot) ts rest

abbrev pub clause_lists : List ℕ → List Declared → List Entry → Phrase
clause_lists bytes symbols entries ts rest = (groups : List (List Entry)) × (entries ≡ concatenated groups) × each (clause_list bytes symbols) groups ts rest

-- no name stands twice, and there are at most 65,536 symbols, of at most 255 arguments, each called by an identifier that is no reserved
-- word
abbrev pub IsSignature : List Declared → Type 0
IsSignature symbols = HasOwnNames symbols × (length symbols ≤ 65536) × AllByRecursion (λ d. (d.arity ≤ 255) × (is_name d.name ≡ true)) symbols

-- The bytes spell the problem. What follows `end_problem.` may be anything.
abbrev pub IsWritten : List ℕ → Problem → Type 0
IsWritten bytes p = (rest : List Token) × IsSignature p.signature × HasLimits p.entries × (p.proofs ≡ []) × (head ⨾ descriptions ⨾ signature bytes p.signature ⨾ clause_lists bytes p.signature p.entries ⨾ ending p.end_at) (tokens bytes) rest
