use Rattle.std.proofs.Common.{inl, inr}
use Rattle.subsume.proofs.Below.{none_left, none_there, come_more}
use Rattle.subsume.proofs.slots.add_keys.Goals as goal

pub returns-in-None-clause-below : goal.returns-in-None-clause-below
returns-in-None-clause-below c = λ slot m d k child is. elim (c.loop-place.invariant.come slot m d k child is) [
  | inl before ↦ before
  | inr later ↦ absurd (none_there _ _ _ c.first-place.ensures.ends c.in-None.ensures slot m child later)
]

pub loop-place-preserved : goal.loop-place-preserved
loop-place-preserved c = record {
  kept = λ k h. c.in_ok-add_key-in-Some.ensures.kept k (c.loop-place.invariant.kept k h);
  come = come_more c.args.trie.now c.args.slots.now c.args.leaf c.loop-place.keys.items c.add_key.new.keys.items c.loop-place.place c.in-Some.node c.in-Some.ensures c.in_ok-add_key-in-Some.ensures.kept c.in_ok-add_key-in-Some.ensures.own c.loop-place.invariant.come;
  held = λ k h. elim (c.in_ok-add_key-in-Some.ensures.held k h) [
    | inl before ↦ c.loop-place.invariant.held k before
    | inr now ↦ inr (c.in-Some.node.count, now.0, now.1)
  ];
}

pub returns-clause-below : goal.returns-clause-below
returns-clause-below c = λ slot m d k child is. elim (c.loop-place.invariant.come slot m d k child is) [
  | inl before ↦ before
  | inr later ↦ absurd (none_left _ _ _ c.first-place.ensures.ends c.loop-place-test.false slot m child later)
]
