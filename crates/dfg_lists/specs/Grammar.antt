-- The grammar of the parts of a problem that hold no formulas (SPASS Input Syntax 1.5, in the profile of docs/input.md): which tokens spell what.
use Rattle.std.specs.Prelude.{◌≡◌, ℕ, ◌≤◌, Bool, true, false, ◌&&◌, ◌||◌, ◌⊎◌, List, [], ◌∷◌, ◌++◌, length, ⊤}
use Rattle.std.specs.List.{flat_map, AllByRecursion}
use Rattle.spl_terms.specs.declared.term.Kind.{Kind}
use Rattle.spl_terms.specs.declared.term.Kind.TheVariants.{Function, Predicate, Sort}
use Rattle.spl_symbols.specs.Symbols.{Declared, HasOwnNames, AreNamed}
use Rattle.dfg_tokens.specs.declared.word.Word.{Word}
use Rattle.dfg_tokens.specs.declared.word.Word.TheVariants as words
use Rattle.dfg_tokens.specs.declared.piece.Mark.TheVariants.{OpenBracket, CloseBracket, Comma, Dot}
use Rattle.dfg_tokens.specs.declared.token.Token.{Token}
use Rattle.dfg_terms.specs.Reading.{kind_is_word, next_mark}
use Rattle.dfg_terms.specs.Phrases.{Phrase, ◌⨾◌, nothing, either, token, mark, word, any_word, identifier, text, IsNameOf, IsArityOf, each, comma_separated, enclosed}
use Rattle.dfg_lists.specs.Lists.{is_end}

-- the groups one behind the other
abbrev pub concatenated : {X : Type 0} → List (List X) → List X
concatenated = flat_map (λ xs. xs)

-- `end_of_list.` behind the items of a list
abbrev pub list_end : Phrase
list_end = word words.EndOfList ⨾ mark Dot

-- ---- what stands first

abbrev pub head : Phrase
head = word words.BeginProblem ⨾ enclosed identifier ⨾ mark Dot

abbrev pub is_description_word : Word → Bool
is_description_word words.Name = true
is_description_word words.Author = true
is_description_word words.Version = true
is_description_word words.Logic = true
is_description_word words.Description = true
is_description_word words.Date = true
is_description_word _ = false

abbrev pub is_status_word : Word → Bool
is_status_word words.Satisfiable = true
is_status_word words.Unsatisfiable = true
is_status_word words.Unknown = true
is_status_word _ = false

-- `name({*..*}).` and the like, or `status(unknown).`
abbrev pub description : Phrase
description = either (any_word is_description_word ⨾ enclosed text ⨾ mark Dot) (word words.Status ⨾ enclosed (any_word is_status_word) ⨾ mark Dot)

-- items in any order and number
abbrev pub descriptions : Phrase
descriptions ts rest = (items : List ⊤) × (word words.ListOfDescriptions ⨾ mark Dot ⨾ each (λ item. description) items ⨾ list_end) ts rest

-- ---- symbols

-- `(name,arity)`
abbrev pub declaration : List ℕ → Kind → Declared → Phrase
declaration bytes kind d ts rest = (d.kind ≡ kind) × enclosed (token (IsNameOf bytes d.name) ⨾ mark Comma ⨾ token (IsArityOf bytes d.arity)) ts rest

-- a name alone, of a sort, which takes one argument
abbrev pub sort_declaration : List ℕ → Declared → Phrase
sort_declaration bytes d ts rest = (d.kind ≡ Sort) × (d.arity ≡ 1) × token (IsNameOf bytes d.name) ts rest

abbrev pub declarations : Word → (Declared → Phrase) → List Declared → Phrase
declarations w P ds = word w ⨾ mark OpenBracket ⨾ comma_separated P ds ⨾ mark CloseBracket ⨾ mark Dot

-- `functions[..].`, `predicates[..].` or `sorts[..].`
abbrev pub symbol_item : List ℕ → List Declared → Phrase
symbol_item bytes ds =
    either (declarations words.Functions (declaration bytes Function) ds)
    (either (declarations words.Predicates (declaration bytes Predicate) ds) (declarations words.Sorts (sort_declaration bytes) ds))

abbrev pub symbol_list : List ℕ → List (List Declared) → Phrase
symbol_list bytes groups = word words.ListOfSymbols ⨾ mark Dot ⨾ each (symbol_item bytes) groups ⨾ list_end

-- the list of symbols, if there is one
abbrev pub signature : List ℕ → List Declared → Phrase
signature bytes symbols ts rest = ((symbols ≡ []) × nothing ts rest) ⊎ ((groups : List (List Declared)) × (symbols ≡ concatenated groups) × symbol_list bytes groups ts rest)

-- No name stands twice, each is an identifier and no reserved word, and there are at most 65,536 symbols, of at most 255 arguments.
abbrev pub IsSignature : List Declared → Type 0
IsSignature symbols = HasOwnNames symbols × AreNamed symbols × (length symbols ≤ 65536) × AllByRecursion (λ d. d.arity ≤ 255) symbols

-- ---- lists that are passed over

-- whether the end of the input is among the tokens, or an `end_of_list` that a `.` follows
abbrev pub ends_within : List Token → Bool
ends_within [] = false
ends_within (t ∷ ts) = is_end t.kind || (kind_is_word words.EndOfList t.kind && next_mark Dot ts) || ends_within ts

-- any tokens up to the first `end_of_list.`, and that
abbrev pub passed : Phrase
passed ts rest = (skipped : List Token) × (between : List Token) × (ts ≡ skipped ++ between) × (ends_within skipped ≡ false) × list_end between rest
