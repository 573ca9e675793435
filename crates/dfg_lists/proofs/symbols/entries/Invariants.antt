use Rattle.std.proofs.Common.{◌≡◌, ◌-◌, length}
use Rattle.dfg_terms.specs.Reading.{commas}
use Rattle.dfg_lists.specs.Lists.{symbol_at}
use Rattle.dfg_lists.proofs.symbols.entries.Given as goal

abbrev pub invariant-loop : goal.invariant-loop
invariant-loop l = commas (symbol_at l.bytes l.kind) (length l.bytes - l.counter) l.symbols l.tokens ≡ commas (symbol_at l.bytes l.kind) (length l.bytes) l.fn.symbols l.fn.tokens
