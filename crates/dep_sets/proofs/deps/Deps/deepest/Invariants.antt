use Rattle.std.proofs.Common.{◌≡◌, drop, None}
use Rattle.dep_sets.specs.Assumptions.{deepest_place}
use Rattle.dep_sets.proofs.deps.Deps.deepest.Given as goal

abbrev pub invariant-loop-place : goal.invariant-loop-place
invariant-loop-place l = deepest_place l.self (drop l.place l.path) ≡ None
