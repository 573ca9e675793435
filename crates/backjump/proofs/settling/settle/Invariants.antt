use Rattle.std.proofs.Common.{◌≡◌, ◌+◌, ◌*◌, ◌<◌, ◌≤◌, ℕ, None}
use Rattle.case_journal.specs.Journal.{nodes}
use Rattle.case_journal.specs.Facts.{IsLive}
use Rattle.case_journal.specs.Ending.{first_end}
use Rattle.backjump.specs.Cases.{OnlyCloses, IsOpenOrProved, IsSettledAbove}
use Rattle.backjump.proofs.settling.settle.Given as goal

abbrev pub invariant-loop-place : goal.invariant-loop-place
invariant-loop-place l = record {
  setting : l.table.setting ≡ l.fn.table.setting;
  closes : OnlyCloses l.by l.fn.table.past l.table.past;
  few : 2 * l.place + 1 ≤ nodes l.table.past;
  unended : IsLive l.table.setting l.table.past 0 → first_end l.table.past ≡ None;
  ended : IsOpenOrProved l.table.past;
  settled : (j : ℕ) → l.place ≤ j → 2 * j + 1 < nodes l.table.past → IsSettledAbove l.table.setting l.table.past (2 * j + 1);
}

abbrev pub decreases-loop-place : goal.decreases-loop-place
decreases-loop-place l = l.place
