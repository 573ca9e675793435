use Rattle.std.proofs.Common.{◌≡◌, ◌-◌, [], length}
use Rattle.dfg_terms.specs.Reading.{adding, commas}
use Rattle.dfg_terms.specs.Numbers.{numeral_at}
use Rattle.proof_reader.proofs.lists.some_numbers.Given as goal

abbrev pub invariant-loop : goal.invariant-loop
invariant-loop l = commas (adding (numeral_at l.bytes)) (length l.bytes - l.counter) l.items l.tokens ≡ commas (adding (numeral_at l.bytes)) (length l.bytes) [] l.fn.tokens
