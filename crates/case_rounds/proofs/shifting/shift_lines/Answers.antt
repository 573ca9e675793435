use Rattle.std.proofs.Common.{get_or, ap, arith}
use Rattle.proof_steps.specs.declared.step.Statement.{Statement}
use Rattle.proof_steps.specs.declared.step.Line.{Line}
use Rattle.spl_terms.specs.ChangeLaws.{changed_in_place}
use Rattle.journal_laws.specs.Shifts.{shifted_line}
use Rattle.case_rounds.proofs.shifting.shift_lines.Goals as goal

pub loop-line-preserved : goal.loop-line-preserved
loop-line-preserved c =
    let lines = c.loop-line.lines in
    let k = c.loop-line.line-index in
    let stated : Statement = (get_or lines k c.line-item.result).stated in
    let moved : Line = record { step = c.shift_step.new.step; stated = stated } in
    changed_in_place (shifted_line c.args.base c.args.by) c.args.lines.now lines k c.line-item.result moved
    (omega arith) c.loop-line.invariant (ap (λ step. let made : Line = record { step = step; stated = stated } in made) c.shift_step.ensures)
