use Rattle.std.specs.Prelude.{reverse}
use Rattle.std.proofs.Common.{◌≡◌, length}
use Rattle.case_view.specs.Trails.{IsTrail}
use Rattle.case_view.proofs.trail.go_back_above.Given as goal

abbrev pub invariant-loop-marks : goal.invariant-loop-marks
invariant-loop-marks l = record {
  trail : IsTrail l.table.setting l.table.past (reverse l.marks) l.view;
  worker : l.view.worker ≡ l.fn.view.worker;
}

abbrev pub decreases-loop-marks : goal.decreases-loop-marks
decreases-loop-marks l = length l.marks
