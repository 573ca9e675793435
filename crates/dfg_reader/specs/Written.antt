-- How a clause is written, token by token: a definition that knows nothing of reading.
use Rattle.std.specs.Prelude.{◌≡◌, ℕ, List, [], ◌∷◌, ◌++◌, map}
use Rattle.std.specs.List.{AllByRecursion}
use Rattle.spl_terms.specs.declared.term.Term.{Term, Term-F, fold-Term}
use Rattle.spl_terms.specs.declared.term.Term.TheOpen as term_layer
use Rattle.spl_terms.specs.declared.atom.Atom.{Atom}
use Rattle.spl_terms.specs.declared.atom.Atom.TheVariants.{Holds, Equal}
use Rattle.spl_symbols.specs.Symbols.{Declared, name_of}
use Rattle.dfg_tokens.specs.declared.piece.Mark.{Mark}
use Rattle.dfg_tokens.specs.declared.piece.Mark.TheVariants.{OpenParenthesis, CloseParenthesis, Comma}
use Rattle.dfg_tokens.specs.declared.word.Word.TheVariants as words
use Rattle.dfg_tokens.specs.declared.token.Token.{Token}
use Rattle.dfg_tokens.specs.Words.{spelling}
use Rattle.dfg_tokens.specs.Tokens.{byte_of, token_bytes, tokens}
use Rattle.dfg_reader.specs.declared.formula.Formula.{Formula, Formula-F, out-Formula}
use Rattle.dfg_reader.specs.declared.formula.Formula.TheOpen as layer
use Rattle.dfg_reader.specs.declared.problem.Entry.{Entry}
use Rattle.dfg_reader.specs.Reading.{place}

-- the bytes of each token
abbrev pub Spelling : Type 0
Spelling = List (List ℕ)

abbrev pub sign : Mark → List ℕ
sign m = byte_of m ∷ []

-- each behind a comma
abbrev pub behind_commas : List Spelling → Spelling
behind_commas [] = []
behind_commas (w ∷ ws) = sign Comma ∷ w ++ behind_commas ws

-- in parentheses with commas between them; nothing where there are none
abbrev pub in_parentheses : List Spelling → Spelling
in_parentheses [] = []
in_parentheses (w ∷ ws) = sign OpenParenthesis ∷ (w ++ behind_commas ws) ++ sign CloseParenthesis ∷ []

abbrev pub written_step : List Declared → Term-F Spelling → Spelling
written_step symbols (term_layer.Var v) = []
written_step symbols (term_layer.App f parts) = name_of symbols f.number ∷ in_parentheses parts

-- a term without variables
abbrev pub written_term : List Declared → Term → Spelling
written_term symbols = fold-Term Spelling (written_step symbols)

-- an atom that is no equation
abbrev pub written_atom : List Declared → Atom → Spelling
written_atom symbols (Holds p ts) = name_of symbols p.number ∷ in_parentheses (map (written_term symbols) ts)
written_atom symbols (Equal s t) = []

abbrev pub written_unsigned : List Declared → Formula-F Formula → Spelling
written_unsigned symbols layer.True = spelling words.True ∷ []
written_unsigned symbols layer.False = spelling words.False ∷ []
written_unsigned symbols (layer.Atom a) = written_atom symbols a
written_unsigned symbols _ = []

abbrev pub written_layer : List Declared → Formula-F Formula → Spelling
written_layer symbols (layer.Not f) = spelling words.Not ∷ sign OpenParenthesis ∷ written_unsigned symbols (out-Formula f) ++ sign CloseParenthesis ∷ []
written_layer symbols l = written_unsigned symbols l

abbrev pub written_literal : List Declared → Formula → Spelling
written_literal symbols f = written_layer symbols (out-Formula f)

abbrev pub written_body : List Declared → Formula-F Formula → Spelling
written_body symbols (layer.Or fs) = spelling words.Or ∷ in_parentheses (map (written_literal symbols) fs)
written_body symbols l = written_layer symbols l

-- the word `clause`, its parenthesis and the literals; a label may follow
abbrev pub written_clause : List Declared → Formula → Spelling
written_clause symbols f = spelling words.Clause ∷ sign OpenParenthesis ∷ written_body symbols (out-Formula f)

-- from the entry's place on, the tokens are those of the clause as it is written
abbrev pub IsSpelledIn : List ℕ → List Declared → Entry → Type 0
IsSpelledIn bytes symbols e = (before : List Token) × (here : List Token) × (after : List Token) × (tokens bytes ≡ before ++ (here ++ after)) × (place (here ++ after) ≡ e.at) × (map (token_bytes bytes) here ≡ written_clause symbols e.formula)

abbrev pub AreSpelledIn : List ℕ → List Declared → List Entry → Type 0
AreSpelledIn bytes symbols = AllByRecursion (IsSpelledIn bytes symbols)
