use Rattle.subsume.proofs.Paths.{IsToCome}
use Rattle.subsume.proofs.trie.Trie.child.Given as goal

abbrev pub invariant-loop-place : goal.invariant-loop-place
invariant-loop-place l = IsToCome l.self l.n l.count l.place

abbrev pub decreases-loop-place : goal.decreases-loop-place
decreases-loop-place l = l.place
