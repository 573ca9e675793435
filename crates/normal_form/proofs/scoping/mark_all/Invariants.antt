use Rattle.std.proofs.Common.{take}
use Rattle.normal_form.specs.Marking.{MarksMore}
use Rattle.normal_form.proofs.scoping.mark_all.Given as goal

abbrev pub invariant-loop-number : goal.invariant-loop-number
invariant-loop-number l = MarksMore l.fn.marks l.marks (take l.number-index l.numbers)
