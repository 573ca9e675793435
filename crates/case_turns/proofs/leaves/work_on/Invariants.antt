use Rattle.std.proofs.Common.{◌≡◌, ◌-◌, ◌≤◌}
use Rattle.case_journal.specs.Journal.{rounds}
use Rattle.case_turns.specs.Turns.{HoldsUnchosen}
use Rattle.case_turns.specs.Desks.{IsDesk}
use Rattle.case_turns.proofs.leaves.work_on.Given as goal

abbrev pub invariant-loop-table : goal.invariant-loop-table
invariant-loop-table l = record {
  setting : l.table.setting ≡ l.fn.table.setting;
  free : HoldsUnchosen l.table 1 l.node;
  desk : IsDesk l.table.setting l.table.past 1 l.node l.desk;
  more : rounds l.fn.table.past ≤ rounds l.table.past;
}

abbrev pub decreases-loop-table : goal.decreases-loop-table
decreases-loop-table l = l.fn.table.setting.limits.rounds - rounds l.table.past
