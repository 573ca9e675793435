use Rattle.std.proofs.Common.{◌≡◌, ◌-◌, length}
use Rattle.dfg_reader.specs.Reading.{commas}
use Rattle.dfg_reader.specs.Symbols.{symbol_at}
use Rattle.dfg_reader.proofs.symbols.entries.Given as goal

abbrev pub invariant-loop : goal.invariant-loop
invariant-loop l = commas (symbol_at l.bytes l.kind) (length l.tokens - l.counter) l.symbols l.rest ≡ commas (symbol_at l.bytes l.kind) (length l.tokens) l.fn.symbols l.tokens
