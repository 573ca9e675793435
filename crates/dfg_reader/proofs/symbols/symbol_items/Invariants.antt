use Rattle.std.proofs.Common.{◌≡◌, ◌-◌, length}
use Rattle.dfg_tokens.specs.declared.word.Word.TheVariants.{EndOfList}
use Rattle.dfg_reader.specs.Reading.{items}
use Rattle.dfg_reader.specs.Symbols.{symbol_item_at}
use Rattle.dfg_reader.proofs.symbols.symbol_items.Given as goal

abbrev pub invariant-loop : goal.invariant-loop
invariant-loop l = items EndOfList (symbol_item_at l.bytes) (length l.tokens - l.counter) l.symbols l.rest ≡ items EndOfList (symbol_item_at l.bytes) (length l.tokens) l.fn.symbols l.tokens
