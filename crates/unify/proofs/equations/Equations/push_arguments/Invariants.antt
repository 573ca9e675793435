use Rattle.std.proofs.Common.{◌≡◌, ◌++◌, ◌≤◌, length, drop}
use Rattle.std.specs.List.{zip}
use Rattle.unify.proofs.equations.Equations.push_arguments.Given as goal

abbrev pub invariant-loop-place : goal.invariant-loop-place
invariant-loop-place l = (l.place ≤ length l.lefts) × (l.self ≡ zip (drop l.place l.lefts) (drop l.place l.rights) ++ l.initial.self)

abbrev pub decreases-loop-place : goal.decreases-loop-place
decreases-loop-place l = l.place
