use Rattle.std.proofs.Common.{◌≡◌, ◌-◌, length}
use Rattle.dfg_tokens.specs.declared.word.Word.TheVariants.{EndOfList}
use Rattle.dfg_terms.specs.Reading.{items}
use Rattle.dfg_lists.specs.Lists.{description_at}
use Rattle.dfg_lists.proofs.descriptions.description_items.Given as goal

abbrev pub invariant-loop : goal.invariant-loop
invariant-loop l = items EndOfList description_at (length l.bytes - l.counter) tt l.tokens ≡ items EndOfList description_at (length l.bytes) tt l.fn.tokens
