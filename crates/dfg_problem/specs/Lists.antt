-- Lists of formulas, clauses and declarations, and lists that are passed over, or the first fault.
use Rattle.std.specs.Prelude.{ℕ, Bool, true, false, ◌&&◌, ◌||◌, if◌then◌else◌, List, [], ◌∷◌, ◌++◌, length, Result, Ok}
use Rattle.std.specs.List.{list_any}
use Rattle.spl_symbols.specs.Symbols.{Declared}
use Rattle.formulas.specs.declared.tree.Tree.{Tree}
use Rattle.formulas.specs.declared.entry.Role.{Role}
use Rattle.formulas.specs.declared.entry.Role.TheVariants.{Axiom, Conjecture, Clause}
use Rattle.formulas.specs.declared.entry.Entry.{Entry}
use Rattle.dfg_tokens.specs.declared.token.Token.{Token}
use Rattle.dfg_tokens.specs.declared.piece.Mark.TheVariants.{OpenParenthesis, CloseParenthesis, Comma, Dot}
use Rattle.dfg_tokens.specs.declared.word.Word.TheVariants as words
use Rattle.dfg_tokens.specs.Cursors.{tail}
use Rattle.dfg_terms.specs.declared.fault.ReadFault.{ReadFault}
use Rattle.dfg_terms.specs.declared.fault.FaultKind.TheVariants.{Unexpected, SecondConjecture, OutsideProfile}
use Rattle.dfg_terms.specs.Reading.{◌>>=◌, Reader, place, refuse, next_mark, next_word, mark_at, word_at, identifier_at}
use Rattle.dfg_formulas.specs.declared.shape.Shape.{Shape}
use Rattle.dfg_formulas.specs.declared.shape.Shape.TheVariants as shapes
use Rattle.dfg_formulas.specs.Formulas.{formula_at}
use Rattle.dfg_lists.specs.Lists.{listed, passed_at}
use Rattle.dfg_problem.specs.declared.keywords.Keyword.TheVariants as keywords
use Rattle.dfg_problem.specs.Keywords.{next_keyword}
use Rattle.dfg_problem.specs.Declarations.{declared_at}

-- ---- items

abbrev pub is_conjecture : Role → Bool
is_conjecture Axiom = false
is_conjecture Conjecture = true
is_conjecture Clause = false

abbrev pub has_conjecture : List Entry → Bool
has_conjecture = list_any (λ e. is_conjecture e.role)

-- one more entry, whose item begins at the place
abbrev pub with_entry : List Entry → Role → Tree → ℕ → List Entry
with_entry entries role f at = entries ++ record { role = role; formula = f; at = at } ∷ []

-- a label, if there is one; it may be any identifier
unfoldable pub label_at : List Token → Result (List Token) ReadFault
label_at ts = if next_mark Comma ts then (identifier_at (tail ts) >>= λ x. Ok x.1) else Ok ts

-- `F` or `F,label`; formulas and terms nest at most 1,000 deep
unfoldable pub with_label_at : List ℕ → List Declared → Shape → List Token → Result (Tree × List Token) ReadFault
with_label_at bytes symbols shape ts = do
  f ← formula_at bytes symbols 1000 shape [] 0 ts
  rest ← label_at f.1
  Ok (f.0.0, rest)

-- `(F).` or `(F,label).`
unfoldable pub labelled_at : List ℕ → List Declared → Shape → List Token → Result (Tree × List Token) ReadFault
labelled_at bytes symbols shape ts = do
  inner ← mark_at OpenParenthesis ts
  f ← with_label_at bytes symbols shape inner
  closed ← mark_at CloseParenthesis f.1
  rest ← mark_at Dot closed
  Ok (f.0, rest)

-- `formula(F).` or `formula(F,label).`; a problem has one conjecture at the most
unfoldable pub formula_item_at : List ℕ → List Declared → Role → Reader (List Entry)
formula_item_at bytes symbols role entries ts =
    if next_keyword bytes keywords.Formula ts then (if is_conjecture role && has_conjecture entries then refuse SecondConjecture ts
    else (labelled_at bytes symbols shapes.Formula (tail ts) >>= λ x. Ok (with_entry entries role x.0 (place ts), x.1)))
    else refuse Unexpected ts

-- `clause(C).` or `clause(C,label).`
unfoldable pub clause_item_at : List ℕ → List Declared → Reader (List Entry)
clause_item_at bytes symbols entries ts =
    word_at words.Clause ts >>= λ opened. labelled_at bytes symbols shapes.Clause opened >>= λ x. Ok (with_entry entries Clause x.0 (place ts), x.1)

-- a declaration, and its `.`
unfoldable pub declaration_item_at : List ℕ → List Declared → Reader (List Entry)
declaration_item_at bytes symbols entries ts = declared_at bytes symbols ts >>= λ x. mark_at Dot x.1 >>= λ rest. Ok (with_entry entries Axiom x.0 (place ts), rest)

-- ---- lists of items, behind their words

-- the role of the formulas
unfoldable pub role_at : List Token → Result (Role × List Token) ReadFault
role_at ts =
    if next_word words.Axioms ts then Ok (Axiom, tail ts)
    else (if next_word words.Conjectures ts then Ok (Conjecture, tail ts)
    else refuse Unexpected ts)

-- `(axioms).` or `(conjectures).`, and the formulas
unfoldable pub formula_list_at : List ℕ → List Declared → Reader (List Entry)
formula_list_at bytes symbols entries ts = do
  inner ← mark_at OpenParenthesis ts
  role ← role_at inner
  closed ← mark_at CloseParenthesis role.1
  first ← mark_at Dot closed
  listed (formula_item_at bytes symbols role.0) (length bytes) entries first

unfoldable pub form_at : List Token → Result (List Token) ReadFault
form_at ts = if next_word words.Dnf ts then refuse OutsideProfile ts else word_at words.Cnf ts

-- `(axioms,cnf).` or `(conjectures,cnf).`, and the clauses; those of both origins are taken as they stand
unfoldable pub clause_list_at : List ℕ → List Declared → Reader (List Entry)
clause_list_at bytes symbols entries ts = do
  inner ← mark_at OpenParenthesis ts
  role ← role_at inner
  form ← mark_at Comma role.1
  end ← form_at form
  closed ← mark_at CloseParenthesis end
  first ← mark_at Dot closed
  listed (clause_item_at bytes symbols) (length bytes) entries first

-- `.`, and the declarations
unfoldable pub declaration_list_at : List ℕ → List Declared → Reader (List Entry)
declaration_list_at bytes symbols entries ts = mark_at Dot ts >>= λ first. listed (declaration_item_at bytes symbols) (length bytes) entries first

-- a list with entries
unfoldable pub entry_list_at : List ℕ → List Declared → Reader (List Entry)
entry_list_at bytes symbols entries ts =
    if next_word words.ListOfDeclarations ts then declaration_list_at bytes symbols entries (tail ts)
    else (if next_word words.ListOfFormulae ts then formula_list_at bytes symbols entries (tail ts)
    else (if next_word words.ListOfClauses ts then clause_list_at bytes symbols entries (tail ts)
    else refuse Unexpected ts))

-- ---- all lists

-- the entries so far, and the places of the proof lists
abbrev pub ListsRead : Type 0
ListsRead = List Entry × List ℕ

abbrev pub is_outside_list : List Token → Bool
is_outside_list ts = next_word words.ListOfTerms ts || next_word words.ListOfSpecialFormulae ts || next_word words.ListOfIncludes ts

-- one list; proof lists and settings are passed over
unfoldable pub list_at : List ℕ → List Declared → Reader ListsRead
list_at bytes symbols s ts =
    if is_outside_list ts then refuse OutsideProfile ts
    else (if next_word words.ListOfProof ts then (passed_at (tail ts) >>= λ rest. Ok ((s.0, s.1 ++ place ts ∷ []), rest))
    else (if next_word words.ListOfSettings ts then (passed_at (tail ts) >>= λ rest. Ok (s, rest))
    else (entry_list_at bytes symbols s.0 ts >>= λ x. Ok ((x.0, s.1), x.1))))
