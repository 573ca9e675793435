use Rattle.subsume.proofs.Below.{none_left, none_there, not_before_more}
use Rattle.subsume.proofs.slots.slot_below.Goals as goal

pub returns-in-None : goal.returns-in-None
returns-in-None c = λ slot m child is. none_there _ _ _ c.first-place.ensures.ends c.in-None.ensures slot m child (c.loop-place.invariant slot m child is)

pub loop-place-preserved : goal.loop-place-preserved
loop-place-preserved c = not_before_more c.args.trie.now c.args.slots.now c.args.leaf c.args.clause.now c.args.key c.loop-place.place c.in-Some.node c.in-Some.ensures c.if-is_in.ensures c.loop-place.invariant

pub returns : goal.returns
returns c = λ slot m child is. none_left _ _ _ c.first-place.ensures.ends c.loop-place-test.false slot m child (c.loop-place.invariant slot m child is)
