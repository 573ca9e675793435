use Rattle.subsume.proofs.Paths.{reached_at_end, reached_at_none, reached_more, with_limits, reached_itself}
use Rattle.subsume.proofs.trie.Trie.+reached.Goals as goal

pub add_reached-returns-in-None-clause-all : goal.add_reached-returns-in-None-clause-all
add_reached-returns-in-None-clause-all t c =
    with_limits _ _ _ _ c.in-len1-up.len_at_least (reached_at_none _ _ _ _ _ _ c.loop-place.invariant.1 c.first-place.ensures.ends c.in-None.ensures)

pub add_reached-loop-place-preserved : goal.add_reached-loop-place-preserved
add_reached-loop-place-preserved t c = (
  λ v h. c.in_ok-add_below-in-Some.ensures.kept v (c.loop-place.invariant.0 v h),
  reached_more _ _ _ _ _ _ c.loop-place.invariant.1 _ _ c.in_ok-add_below-in-Some.ensures.kept c.in-Some.ensures c.in_ok-add_below-in-Some.ensures.all,
)

pub add_reached-returns-in_ok-push-in-empty-clause-all : goal.add_reached-returns-in_ok-push-in-empty-clause-all
add_reached-returns-in_ok-push-in-empty-clause-all t c = reached_itself _ _ c.args.limits.now _ _ c.in-empty.len_below c.in_ok-push-in-empty.ensures.items

pub add_reached-returns-after-loop-place-clause-all : goal.add_reached-returns-after-loop-place-clause-all
add_reached-returns-after-loop-place-clause-all t c =
    with_limits _ _ _ _ c.in-len1-up.len_at_least (reached_at_end _ _ _ _ _ _ c.loop-place.invariant.1 c.first-place.ensures.ends c.loop-place-test.false)
