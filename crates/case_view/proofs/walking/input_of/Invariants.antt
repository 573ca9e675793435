use Rattle.std.proofs.Common.{◌≡◌, [], take}
use Rattle.case_journal.specs.Journal.{ledger}
use Rattle.case_journal.specs.Facts.{listed}
use Rattle.case_view.specs.Views.{kept_lines}
use Rattle.case_view.proofs.walking.input_of.Given as goal

abbrev pub invariant-loop-place : goal.invariant-loop-place
invariant-loop-place l = l.list ≡ kept_lines (listed l.table.setting [] 0) 1 (take l.place (ledger l.table.setting []))
