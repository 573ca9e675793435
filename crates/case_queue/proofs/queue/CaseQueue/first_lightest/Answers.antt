use Rattle.std.proofs.Common.{sym, ap, length, arith}
use Rattle.case_journal.specs.Journal.{steps}
use Rattle.case_queue.proofs.Lightest.{top_within, lightest_is, lightest_none}
use Rattle.case_queue.proofs.Holding.{first_pops}
use Rattle.case_queue.proofs.queue.CaseQueue.first_lightest.Goals as goal

pub passive-requires-clause-there : goal.passive-requires-clause-there
passive-requires-clause-there c =
    top_within c.args.table.now.setting c.args.table.now.past c.args.node (steps c.args.table.now.setting c.args.table.now.past) c.in-Some.number c.loop-number.self c.loop-number.invariant c.in-Some.ensures

pub returns-then-passive-clause-pick : goal.returns-then-passive-clause-pick
returns-then-passive-clause-pick c =
    sym (lightest_is c.args.table.now.setting c.args.table.now.past c.args.node c.in-Some.number c.loop-number.self c.loop-number.invariant c.in-Some.ensures (sym c.if-passive.ensures))

pub loop-number-preserved : goal.loop-number-preserved
loop-number-preserved c =
    let e = c.pop.ensures in
    first_pops c.args.table.now.setting c.args.table.now.past c.args.node (steps c.args.table.now.setting c.args.table.now.past) c.in-Some.number c.loop-number.self c.pop.result c.pop.new.self c.loop-number.invariant c.in-Some.ensures
    (sym c.if-passive.ensures) (omega (arith, ap length c.in-Some.ensures.is)) e.top e.permutation e.heap_order e.none

pub returns-clause-pick : goal.returns-clause-pick
returns-clause-pick c =
    sym (lightest_none c.args.table.now.setting c.args.table.now.past c.args.node c.loop-number.self c.loop-number.invariant c.in_default.ensures)
