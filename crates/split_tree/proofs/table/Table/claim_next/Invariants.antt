use Rattle.std.proofs.Common.{◌≡◌, ◌<◌, ℕ, Some}
use Rattle.std.specs.List.{slice_get}
use Rattle.case_journal.specs.Paths.{leaves}
use Rattle.case_journal.specs.Legal.{IsClaimable}
use Rattle.split_tree.proofs.table.Table.claim_next.Given as goal

abbrev pub invariant-loop-place : goal.invariant-loop-place
invariant-loop-place l = (k n : ℕ) → k < l.place → slice_get (leaves l.self.past) k ≡ Some n → ¬ IsClaimable l.self.setting l.self.past n
