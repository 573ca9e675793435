use Rattle.std.proofs.Common.{◌≡◌, ◌-◌, [], length}
use Rattle.dfg_tokens.specs.declared.word.Word.TheVariants.{EndOfList}
use Rattle.dfg_terms.specs.Reading.{items}
use Rattle.proof_reader.specs.ProofLists.{line_at}
use Rattle.proof_reader.proofs.lines.lines.Given as goal

abbrev pub invariant-loop : goal.invariant-loop
invariant-loop l =
    items EndOfList (line_at l.text.bytes.now l.text.symbols.now) (length l.text.bytes.now - l.counter) l.lines l.tokens
    ≡ items EndOfList (line_at l.text.bytes.now l.text.symbols.now) (length l.text.bytes.now) [] l.fn.tokens
