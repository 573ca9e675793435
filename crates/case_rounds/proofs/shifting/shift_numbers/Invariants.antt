use Rattle.std.proofs.Common.{◌≡◌, ◌++◌, take, drop, map}
use Rattle.journal_laws.specs.Shifts.{shifted_number}
use Rattle.case_rounds.proofs.shifting.shift_numbers.Given as goal

-- the first ones are moved, the others as they were
abbrev pub invariant-loop-number : goal.invariant-loop-number
invariant-loop-number l = l.numbers ≡ map (shifted_number l.base l.by) (take l.number-index l.initial.numbers) ++ drop l.number-index l.initial.numbers
