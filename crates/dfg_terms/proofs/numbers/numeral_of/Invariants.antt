use Rattle.std.proofs.Common.{◌≡◌, ◌<◌, ◌^◌, drop}
use Rattle.dfg_terms.specs.Numbers.{digits_from}
use Rattle.dfg_terms.proofs.numbers.numeral_of.Given as goal

abbrev pub invariant-loop-digit : goal.invariant-loop-digit
invariant-loop-digit l = (digits_from l.number (drop l.digit-index l.text) ≡ digits_from 0 l.text) × (l.number < 10 ^ l.digit-index)
