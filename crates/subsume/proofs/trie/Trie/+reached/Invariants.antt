use Rattle.std.proofs.Common.{ℕ, ◌+◌, ◌*◌, length}
use Rattle.std.specs.Prelude.{Contains}
use Rattle.subsume.proofs.Paths.{AreToCome}
use Rattle.subsume.proofs.trie.Trie.+reached.Given as goal

abbrev pub decreases-add_below : goal.decreases-add_below
decreases-add_below l = 2 * length l.rest.now + 1

abbrev pub decreases-add_reached : goal.decreases-add_reached
decreases-add_reached l = 2 * length l.limits.now

abbrev pub invariant-add_reached-loop-place : goal.invariant-add_reached-loop-place
invariant-add_reached-loop-place l =
    ((v : ℕ) → Contains l.initial.out.items v → Contains l.out.items v) × AreToCome l.self l.n l.limit l.rest l.out.items l.place

abbrev pub decreases-add_reached-loop-place : goal.decreases-add_reached-loop-place
decreases-add_reached-loop-place l = l.place
