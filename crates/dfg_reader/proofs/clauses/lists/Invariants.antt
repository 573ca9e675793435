use Rattle.std.proofs.Common.{◌≡◌, ◌-◌, length}
use Rattle.dfg_tokens.specs.declared.word.Word.TheVariants.{EndProblem}
use Rattle.dfg_reader.specs.Reading.{items}
use Rattle.dfg_reader.specs.Clauses.{list_at}
use Rattle.dfg_reader.proofs.clauses.lists.Given as goal

abbrev pub invariant-loop : goal.invariant-loop
invariant-loop l = items EndProblem (list_at l.bytes l.symbols) (length l.tokens - l.counter) l.read l.rest ≡ items EndProblem (list_at l.bytes l.symbols) (length l.tokens) l.fn.read l.tokens
