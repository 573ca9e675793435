-- Whole problems, or the first fault.
use Rattle.std.specs.Prelude.{ℕ, List, [], length, Result, Ok}
use Rattle.dfg_tokens.specs.declared.token.Token.{Token}
use Rattle.dfg_tokens.specs.declared.piece.Mark.TheVariants.{Dot}
use Rattle.dfg_tokens.specs.declared.word.Word.TheVariants as words
use Rattle.dfg_tokens.specs.Tokens.{tokens}
use Rattle.dfg_tokens.specs.Cursors.{tail}
use Rattle.dfg_terms.specs.declared.fault.ReadFault.{ReadFault}
use Rattle.dfg_terms.specs.Reading.{◌>>=◌, place, mark_at, items}
use Rattle.dfg_lists.specs.Lists.{head_at, descriptions_at, signature_at}
use Rattle.dfg_problem.specs.declared.problem.Problem.{Problem}
use Rattle.dfg_problem.specs.Lists.{list_at}

-- what follows `end_problem.` isn't looked at
unfoldable pub problem_at : List ℕ → List Token → Result Problem ReadFault
problem_at bytes ts = do
  described ← head_at ts
  declared ← descriptions_at bytes described
  symbols ← signature_at bytes [] declared
  lists ← items words.EndProblem (list_at bytes symbols.0) (length bytes) ([], []) symbols.1
  after ← mark_at Dot (tail lists.1)
  Ok (record { signature = symbols.0; entries = lists.0.0; proofs = lists.0.1; end_at = place lists.1 })

-- the problem that the bytes spell, or their first fault
unfoldable pub problem : List ℕ → Result Problem ReadFault
problem bytes = problem_at bytes (tokens bytes)
