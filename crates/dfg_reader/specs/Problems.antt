-- Whole problems, or the first fault.
use Rattle.std.specs.Prelude.{ℕ, Bool, ◌||◌, if◌then◌else◌, List, [], length, Result, Ok, ⊤}
use Rattle.dfg_tokens.specs.declared.token.Token.{Token}
use Rattle.dfg_tokens.specs.declared.piece.Mark.TheVariants.{OpenParenthesis, CloseParenthesis, Dot}
use Rattle.dfg_tokens.specs.declared.word.Word.TheVariants as words
use Rattle.dfg_tokens.specs.Tokens.{tokens}
use Rattle.dfg_reader.specs.declared.fault.ReadFault.{ReadFault}
use Rattle.dfg_reader.specs.declared.fault.FaultKind.TheVariants.{Unexpected}
use Rattle.dfg_reader.specs.declared.problem.Problem.{Problem}
use Rattle.dfg_reader.specs.Reading.{◌>>=◌, Reader, place, tail, refuse, next_word, mark_at, word_at, identifier_at, text_at, items, listed}
use Rattle.dfg_reader.specs.Symbols.{signature_at}
use Rattle.dfg_reader.specs.Clauses.{list_at}

-- ---- descriptions

abbrev pub is_text_item : List Token → Bool
is_text_item ts = next_word words.Name ts || next_word words.Author ts || next_word words.Version ts || next_word words.Logic ts || next_word words.Description ts || next_word words.Date ts

abbrev pub is_status : List Token → Bool
is_status ts = next_word words.Satisfiable ts || next_word words.Unsatisfiable ts || next_word words.Unknown ts

unfoldable pub status_at : List Token → Result (List Token) ReadFault
status_at ts = if is_status ts then Ok (tail ts) else refuse Unexpected ts

-- `name({*..*}).` and the like, or `status(unknown).`; what they say has no effect
unfoldable pub description_at : Reader ⊤
description_at s ts =
    if is_text_item ts then (mark_at OpenParenthesis (tail ts) >>= λ a. text_at a >>= λ b. mark_at CloseParenthesis b >>= λ c. mark_at Dot c >>= λ rest. Ok (s, rest))
    else (if next_word words.Status ts then (mark_at OpenParenthesis (tail ts) >>= λ a. status_at a >>= λ b. mark_at CloseParenthesis b >>= λ c. mark_at Dot c >>= λ rest. Ok (s, rest))
    else refuse Unexpected ts)

unfoldable pub descriptions_at : List Token → Result (List Token) ReadFault
descriptions_at ts = do
  dot ← word_at words.ListOfDescriptions ts
  first ← mark_at Dot dot
  x ← listed description_at tt first
  Ok x.1

-- ---- problems

-- `begin_problem(id).`
unfoldable pub head_at : List Token → Result (List Token) ReadFault
head_at ts = do
  opened ← word_at words.BeginProblem ts
  name ← mark_at OpenParenthesis opened
  closed ← identifier_at name
  dot ← mark_at CloseParenthesis closed.1
  mark_at Dot dot

-- what follows `end_problem.` isn't looked at
unfoldable pub problem_at : List ℕ → List Token → Result Problem ReadFault
problem_at bytes ts = do
  described ← head_at ts
  declared ← descriptions_at described
  symbols ← signature_at bytes [] declared
  entries ← items words.EndProblem (list_at bytes symbols.0) (length symbols.1) [] symbols.1
  after ← mark_at Dot (tail entries.1)
  Ok (record { signature = symbols.0; entries = entries.0; proofs = []; end_at = place entries.1 })

-- the problem that the bytes spell, or their first fault
unfoldable pub problem : List ℕ → Result Problem ReadFault
problem bytes = problem_at bytes (tokens bytes)
