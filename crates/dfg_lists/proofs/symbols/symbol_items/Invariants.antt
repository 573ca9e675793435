use Rattle.std.proofs.Common.{◌≡◌, ◌-◌, length}
use Rattle.dfg_tokens.specs.declared.word.Word.TheVariants.{EndOfList}
use Rattle.dfg_terms.specs.Reading.{items}
use Rattle.dfg_lists.specs.Lists.{symbol_item_at}
use Rattle.dfg_lists.proofs.symbols.symbol_items.Given as goal

abbrev pub invariant-loop : goal.invariant-loop
invariant-loop l = items EndOfList (symbol_item_at l.bytes) (length l.bytes - l.counter) l.symbols l.tokens ≡ items EndOfList (symbol_item_at l.bytes) (length l.bytes) l.fn.symbols l.fn.tokens
