use Rattle.std.proofs.Common.{◌+◌, ◌*◌, max, take}
use Rattle.std.specs.List.{flat_map}
use denote.Param.Weighed.{most}
use Rattle.formulas.specs.Trees.{tree_size}
use Rattle.formulas.specs.Bindings.{bindings}
use Rattle.formulas.specs.Ascending.{AreWithin}
use Rattle.formulas.proofs.ascending.+ascending.Given as goal

abbrev pub decreases-ascending : goal.decreases-ascending
decreases-ascending l = 2 * tree_size l.formula.now + 1

abbrev pub decreases-both_ascending : goal.decreases-both_ascending
decreases-both_ascending l = 2 * max (tree_size l.left.now) (tree_size l.right.now) + 2

abbrev pub decreases-block_ascending : goal.decreases-block_ascending
decreases-block_ascending l = 2 * tree_size l.part.now + 2

abbrev pub decreases-all_ascending : goal.decreases-all_ascending
decreases-all_ascending l = 2 * most (λ t. tree_size t + 1) l.parts.now

abbrev pub invariant-all_ascending-loop-part : goal.invariant-all_ascending-loop-part
invariant-all_ascending-loop-part l = AreWithin l.fn.from l.to (flat_map bindings (take l.part-index l.parts))
