use Rattle.std.proofs.Common.{◌≡◌, take}
use Rattle.dep_sets.specs.Assumptions.{without_assumption}
use Rattle.dep_sets.proofs.deps.Deps.without.Given as goal

abbrev pub invariant-loop-item : goal.invariant-loop-item
invariant-loop-item l = l.items.items ≡ without_assumption l.assumption (take l.item-index l.item-items)
