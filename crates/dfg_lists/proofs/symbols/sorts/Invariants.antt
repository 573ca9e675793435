use Rattle.std.proofs.Common.{◌≡◌, ◌-◌, length}
use Rattle.dfg_terms.specs.Reading.{commas}
use Rattle.dfg_lists.specs.Lists.{sort_at}
use Rattle.dfg_lists.proofs.symbols.sorts.Given as goal

abbrev pub invariant-loop : goal.invariant-loop
invariant-loop l = commas (sort_at l.bytes) (length l.bytes - l.counter) l.symbols l.tokens ≡ commas (sort_at l.bytes) (length l.bytes) l.fn.symbols l.fn.tokens
