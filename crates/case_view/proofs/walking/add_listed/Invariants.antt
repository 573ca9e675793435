use Rattle.std.proofs.Common.{◌≡◌, ◌+◌, ◌++◌, take}
use Rattle.case_journal.specs.Journal.{lines_of}
use Rattle.case_journal.specs.Facts.{lists}
use Rattle.case_view.specs.Views.{kept_lines}
use Rattle.case_view.specs.Walks.{is_among}
use Rattle.case_view.proofs.walking.add_listed.Given as goal

abbrev pub invariant-loop-place : goal.invariant-loop-place
invariant-loop-place l = l.listed ≡ l.fn.listed ++ kept_lines (lists l.event l.count l.base (is_among l.nodes) l.node) (l.base + 1) (take l.place (lines_of l.event))
