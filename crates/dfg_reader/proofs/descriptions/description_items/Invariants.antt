use Rattle.std.proofs.Common.{◌≡◌, ◌-◌, length}
use Rattle.dfg_tokens.specs.declared.word.Word.TheVariants.{EndOfList}
use Rattle.dfg_reader.specs.Reading.{items}
use Rattle.dfg_reader.specs.Problems.{description_at}
use Rattle.dfg_reader.proofs.descriptions.description_items.Given as goal

abbrev pub invariant-loop : goal.invariant-loop
invariant-loop l = items EndOfList description_at (length l.tokens - l.counter) tt l.rest ≡ items EndOfList description_at (length l.tokens) tt l.tokens
