-- Lists of clauses, or the first fault. A clause is read as the formula of its literals.
use Rattle.std.specs.Prelude.{ℕ, ◌-◌, Bool, ◌||◌, if◌then◌else◌, List, [], ◌∷◌, ◌++◌, length, Result, Ok, ⊤}
use Rattle.spl_symbols.specs.Symbols.{Declared}
use Rattle.dfg_tokens.specs.declared.piece.Mark.TheVariants.{OpenParenthesis, CloseParenthesis, Comma, Dot}
use Rattle.dfg_tokens.specs.declared.word.Word.TheVariants as words
use Rattle.dfg_reader.specs.declared.fault.ReadFault.{ReadFault}
use Rattle.dfg_tokens.specs.declared.token.Token.{Token}
use Rattle.dfg_reader.specs.declared.fault.FaultKind.TheVariants.{Unexpected, OutsideProfile}
use Rattle.dfg_reader.specs.declared.formula.Formula.{Formula, True, False, Atom, Not, Or}
use Rattle.dfg_reader.specs.declared.problem.Role.TheVariants as roles
use Rattle.dfg_reader.specs.declared.problem.Entry.{Entry}
use Rattle.dfg_reader.specs.Reading.{◌>>=◌, Reader, place, tail, refuse, fault, next_mark, next_word, mark_at, word_at, identifier_at, adding, commas, listed}
use Rattle.dfg_reader.specs.Terms.{atom_at}
use Rattle.dfg_reader.specs.GroundClauses.{formula_clauses, clauses, are_within_limits}

-- ---- literals

abbrev pub FormulaReader : Type 0
FormulaReader = List Token → Result (Formula × List Token) ReadFault

-- `true`, `false` or an atom, whose arguments may nest so deep; `equal` is refused until the reader takes equations
unfoldable pub unsigned_at : List ℕ → List Declared → ℕ → FormulaReader
unsigned_at bytes symbols depth ts =
    if next_word words.True ts then Ok (True, tail ts)
    else (if next_word words.False ts then Ok (False, tail ts)
    else (if next_word words.Equal ts then refuse OutsideProfile ts
    else (atom_at bytes symbols depth ts >>= λ x. Ok (Atom x.0, x.1))))

-- one of these or its negation, under which the arguments nest one deeper
unfoldable pub literal_at : List ℕ → List Declared → ℕ → FormulaReader
literal_at bytes symbols depth ts =
    if next_word words.Not ts then (mark_at OpenParenthesis (tail ts) >>= λ inner. unsigned_at bytes symbols (depth - 1) inner >>= λ x. mark_at CloseParenthesis x.1 >>= λ rest. Ok (Not x.0, rest))
    else unsigned_at bytes symbols depth ts

abbrev pub literals_at : List ℕ → List Declared → ℕ → List Token → Result (List Formula × List Token) ReadFault
literals_at bytes symbols depth ts = commas (adding (literal_at bytes symbols depth)) (length ts) [] ts

-- Formulas and terms nest at most 1,000 deep: an atom under `or` stands at depth 2, so its arguments may nest 998 deep. `forall` is refused until the reader takes variables.
unfoldable pub body_at : List ℕ → List Declared → FormulaReader
body_at bytes symbols ts =
    if next_word words.Forall ts then refuse OutsideProfile ts
    else (if next_word words.Or ts then (mark_at OpenParenthesis (tail ts) >>= λ inner. literals_at bytes symbols 998 inner >>= λ x. mark_at CloseParenthesis x.1 >>= λ rest. Ok (Or x.0, rest))
    else literal_at bytes symbols 999 ts)

-- ---- clauses

-- the entries read so far may be followed by this clause, whose word `clause` stands at the place
unfoldable pub within_limits : List Entry → ℕ → Formula → Result ⊤ ReadFault
within_limits entries at f = if are_within_limits (clauses entries ++ formula_clauses f) then Ok tt else fault at OutsideProfile

-- a label, if there is one; it may be any identifier
unfoldable pub label_at : List Token → Result (List Token) ReadFault
label_at ts = if next_mark Comma ts then (identifier_at (tail ts) >>= λ x. Ok x.1) else Ok ts

-- `clause(C).` or `clause(C,label).`
unfoldable pub clause_at : List ℕ → List Declared → Reader (List Entry)
clause_at bytes symbols entries ts = do
  opened ← word_at words.Clause ts
  inner ← mark_at OpenParenthesis opened
  body ← body_at bytes symbols inner
  fine ← within_limits entries (place ts) body.0
  labelled ← label_at body.1
  closed ← mark_at CloseParenthesis labelled
  rest ← mark_at Dot closed
  Ok (entries ++ record { role = roles.Clause; formula = body.0; at = place ts } ∷ [], rest)

-- ---- lists

-- clauses of both origins are taken as they stand
unfoldable pub origin_at : List Token → Result (List Token) ReadFault
origin_at ts = if next_word words.Axioms ts || next_word words.Conjectures ts then Ok (tail ts) else refuse Unexpected ts

unfoldable pub form_at : List Token → Result (List Token) ReadFault
form_at ts = if next_word words.Dnf ts then refuse OutsideProfile ts else word_at words.Cnf ts

-- the lists that are refused until the reader takes them, and those outside the profile
abbrev pub is_refused_list : List Token → Bool
is_refused_list ts = next_word words.ListOfDeclarations ts || next_word words.ListOfFormulae ts || next_word words.ListOfProof ts || next_word words.ListOfSettings ts || next_word words.ListOfTerms ts || next_word words.ListOfSpecialFormulae ts || next_word words.ListOfIncludes ts

-- `list_of_clauses(axioms,cnf).`
unfoldable pub clauses_head_at : List Token → Result (List Token) ReadFault
clauses_head_at ts = do
  opened ← word_at words.ListOfClauses ts
  origin ← mark_at OpenParenthesis opened
  comma ← origin_at origin
  form ← mark_at Comma comma
  closed ← form_at form
  dot ← mark_at CloseParenthesis closed
  mark_at Dot dot

unfoldable pub list_at : List ℕ → List Declared → Reader (List Entry)
list_at bytes symbols entries ts =
    if is_refused_list ts then refuse OutsideProfile ts
    else (clauses_head_at ts >>= λ rest. listed (clause_at bytes symbols) entries rest)
