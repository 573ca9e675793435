use Rattle.std.proofs.Common.{refl}
use Rattle.subsume.proofs.Paths.{no_node, no_child}
use Rattle.subsume.proofs.trie.Trie.child.Goals as goal

pub returns-in-None : goal.returns-in-None
returns-in-None c = no_node c.args.self.now c.args.n c.args.count _ c.first-place.ensures.ends c.in-None.ensures c.loop-place.invariant

pub returns : goal.returns
returns c = no_child c.args.self.now c.args.n c.args.count _ _ c.first-place.ensures.ends refl c.loop-place-test.false c.loop-place.invariant
