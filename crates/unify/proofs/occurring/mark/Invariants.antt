use Rattle.std.proofs.Common.{◌≡◌, ℕ, ◌+◌, ◌-◌, length}
use Rattle.unify.specs.Marks.{has_mark}
use Rattle.unify.proofs.occurring.mark.Given as goal

abbrev pub invariant-loop-marks : goal.invariant-loop-marks
invariant-loop-marks l = (v : ℕ) → has_mark l.marks.items v ≡ has_mark l.initial.marks.items v

abbrev pub decreases-loop-marks : goal.decreases-loop-marks
decreases-loop-marks l = l.place + 1 - length l.marks.items
