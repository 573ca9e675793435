use Rattle.subsume.proofs.Below.{AreNotBefore}
use Rattle.subsume.proofs.slots.slot_below.Given as goal

abbrev pub invariant-loop-place : goal.invariant-loop-place
invariant-loop-place l = AreNotBefore l.trie l.slots l.leaf l.clause l.key l.place

abbrev pub decreases-loop-place : goal.decreases-loop-place
decreases-loop-place l = l.place
