use Rattle.std.proofs.Common.{arith}
use Rattle.spl_terms.specs.ChangeLaws.{changed_in_place}
use Rattle.journal_laws.specs.Shifts.{shifted_number}
use Rattle.case_rounds.proofs.shifting.shift_numbers.Goals as goal

pub loop-number-preserved : goal.loop-number-preserved
loop-number-preserved c =
    changed_in_place (shifted_number c.args.base c.args.by) c.args.numbers.now c.loop-number.numbers c.loop-number.number-index 0 c.shift_number.new.number
    (omega arith) c.loop-number.invariant c.shift_number.ensures
