use Rattle.std.proofs.Common.{arith}
use Rattle.unify.proofs.BindingsLemmas.{past_first, past_on}
use Rattle.unify.proofs.bindings.Bindings.undo.Goals as goal

pub loop-self-init : goal.loop-self-init
loop-self-init c = past_first c.args.count c.args.self.now

pub loop-self-preserved : goal.loop-self-preserved
loop-self-preserved c = past_on c.args.count c.args.self.now c.loop-self.self c.undo_newest.new.self (omega (arith, c.count.ensures, c.loop-self-test.true)) c.undo_newest.ensures c.loop-self.invariant
