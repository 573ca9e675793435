use Rattle.std.proofs.Common.{inl, inr, refl, sym, subst}
use Rattle.subsume.specs.Tries.{HasReached}
use Rattle.subsume.proofs.Pairs.{have_more, all_keys}
use Rattle.subsume.proofs.index.keys_within.Goals as goal

pub loop-leaf-preserved : goal.loop-leaf-preserved
loop-leaf-preserved c = record {
  have = have_more c.args.trie.now c.args.slots.now c.deref-leaf-items.result.now c.loop-leaf.leaf-index _ c.loop-leaf.keys.items c.add_keys.new.keys.items c.loop-leaf-test.true refl c.in_ok-add_keys.ensures.kept c.in_ok-add_keys.ensures.below c.loop-leaf.invariant.have;
  held = λ k h. elim (c.in_ok-add_keys.ensures.held k h) [
    | inl before ↦ c.loop-leaf.invariant.held k before
    | inr now ↦ now
  ];
}

pub returns-clause-all : goal.returns-clause-all
returns-clause-all c =
    all_keys c.args.trie.now c.args.slots.now c.deref-leaf-items.result.now c.args.limits.now c.loop-leaf.keys.items c.loop-leaf.leaf-index c.loop-leaf-test.false
    (subst (HasReached c.args.trie.now 0 c.args.limits.now) (sym c.deref-leaf-items.ensures.value) c.in_ok-add_reached.ensures.all)
    c.loop-leaf.invariant.have
