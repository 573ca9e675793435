use Rattle.std.proofs.Common.{sym, arith}
use Rattle.clause_filing.proofs.Entries.{stays_below}
use Rattle.clause_filing.proofs.filing.Filing.drop_from.Goals as goal

pub loop-last-preserved : goal.loop-last-preserved
loop-last-preserved c = λ x e at small. stays_below c.loop-last.self c.pop.new.self c.args.value c.in-Some.last x e (sym c.in-Some.ensures) (omega (arith, c.if-last-value.false)) c.pop.ensures.others (c.loop-last.invariant x e at small) small
