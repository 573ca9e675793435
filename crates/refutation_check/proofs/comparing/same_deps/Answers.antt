use Rattle.refutation_check.proofs.SetLemmas.{next_same}
use Rattle.refutation_check.proofs.comparing.same_deps.Goals as goal

pub loop-i-preserved : goal.loop-i-preserved
loop-i-preserved c =
    next_same c.args.a.now c.args.b.now c.loop-i.i c.at.result c.at-in-loop-i.result c.loop-i.invariant c.at.ensures c.at-in-loop-i.ensures (c.same_assumption.ensures.0 c.if-not-same_assumption.false)
