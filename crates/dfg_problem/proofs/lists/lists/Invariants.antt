use Rattle.std.proofs.Common.{◌≡◌, ◌-◌, length}
use Rattle.dfg_tokens.specs.declared.word.Word.TheVariants.{EndProblem}
use Rattle.dfg_terms.specs.Reading.{items}
use Rattle.dfg_problem.specs.Lists.{list_at}
use Rattle.dfg_problem.proofs.lists.lists.Given as goal

abbrev pub invariant-loop : goal.invariant-loop
invariant-loop l =
    items EndProblem (list_at l.text.bytes.now l.text.symbols.now) (length l.text.bytes.now - l.counter) (l.entries, l.proofs) l.tokens
    ≡ items EndProblem (list_at l.text.bytes.now l.text.symbols.now) (length l.text.bytes.now) (l.fn.entries, l.fn.proofs) l.fn.tokens
