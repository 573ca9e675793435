use Rattle.std.proofs.Common.{◌≡◌, ◌≤◌, drop, length}
use Rattle.proof_extract.specs.Extracting.{new_number, renumbered_deps}
use Rattle.proof_extract.proofs.renumbering.new_deps.Given as goal

abbrev pub invariant-loop-left : goal.invariant-loop-left
invariant-loop-left l = record { made : l.made ≡ renumbered_deps (new_number l.marks) (drop l.left l.deps); within : l.left ≤ length l.deps }

abbrev pub decreases-loop-left : goal.decreases-loop-left
decreases-loop-left l = l.left
