use Rattle.std.proofs.Common.{◌≡◌, ◌-◌, None}
use Rattle.case_journal.specs.Journal.{rounds}
use Rattle.case_journal.specs.Ending.{reason}
use Rattle.case_turns.specs.Desks.{HasTrail}
use Rattle.case_turns.specs.Working.{IsBetween}
use Rattle.case_turns.proofs.cases.work.Given as goal

abbrev pub invariant-loop-desk : goal.invariant-loop-desk
invariant-loop-desk l = record {
  setting : l.table.setting ≡ l.fn.table.setting;
  between : IsBetween l.table 1;
  trail : HasTrail l.table.setting l.table.past 1 l.desk;
  going : reason l.table.setting l.table.past ≡ None;
}

abbrev pub decreases-loop-desk : goal.decreases-loop-desk
decreases-loop-desk l = l.fn.table.setting.limits.rounds - rounds l.table.past
