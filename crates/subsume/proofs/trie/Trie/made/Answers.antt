use Rattle.subsume.proofs.Paths.{grown_down, down_more}
use Rattle.subsume.proofs.trie.Trie.made.Goals as goal

pub loop-count-preserved : goal.loop-count-preserved
loop-count-preserved c = (
  λ k x e. c.in_ok-n.ensures.grown k x (c.loop-count.invariant.0 k x e),
  down_more _ _ _ _ _ c.loop-count-test.true (grown_down _ _ _ _ _ c.in_ok-n.ensures.grown c.loop-count.invariant.1) c.in_ok-n.ensures.child.0,
  c.in_ok-n.ensures.child.1,
)
