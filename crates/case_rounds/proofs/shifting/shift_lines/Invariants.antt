use Rattle.std.proofs.Common.{◌≡◌, ◌++◌, take, drop, map}
use Rattle.journal_laws.specs.Shifts.{shifted_line}
use Rattle.case_rounds.proofs.shifting.shift_lines.Given as goal

-- the first ones are moved, the others as they were
abbrev pub invariant-loop-line : goal.invariant-loop-line
invariant-loop-line l = l.lines ≡ map (shifted_line l.base l.by) (take l.line-index l.initial.lines) ++ drop l.line-index l.initial.lines
