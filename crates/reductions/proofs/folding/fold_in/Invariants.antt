use Rattle.std.proofs.Common.{ℕ, ◌<◌}
use Rattle.reductions.specs.Folding.{AreRestored, Folds}
use Rattle.reductions.proofs.folding.fold_in.Given as goal

-- no earlier place serves
abbrev pub invariant-loop-place : goal.invariant-loop-place
invariant-loop-place l = AreRestored (λ g. (k : ℕ) × (k < l.place) × Folds g l.part k l.clause) l.initial.found l.found
