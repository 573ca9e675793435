use Rattle.std.specs.Prelude.{count_by}
use Rattle.std.proofs.Common.{◌≡◌, ◌≤◌, take}
use Rattle.case_journal.specs.Journal.{is_counted}
use Rattle.case_journal.proofs.event.count_of.Given as goal

abbrev pub invariant-loop-line : goal.invariant-loop-line
invariant-loop-line l = (l.count ≡ count_by (λ x. is_counted x.step.rule) (take l.line-index l.lines)) × (l.count ≤ l.line-index)
