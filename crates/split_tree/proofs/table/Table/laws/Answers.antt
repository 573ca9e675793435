use Rattle.std.proofs.Common.{arith}
use Rattle.case_journal.specs.LedgerLaws.{ledger_concluded}
use Rattle.case_journal.specs.RootLaws.{settled_root, unended}
use Rattle.split_tree.specs.Fields.{setting_of}
use Rattle.split_tree.specs.Caches.{past_of}
use Rattle.split_tree.proofs.table.Table.laws.Goals as goal

pub returns : goal.returns
returns c =
    let i = c.self.invariant in
    let s = setting_of c.self.inside in
    let past = past_of c.self.inside.journal.items in
    rw (← c.self.view_is) (record {
      legal = i.legal;
      concluded = ledger_concluded s past i.small_input i.legal;
      few_nodes = omega (arith, i.few_nodes);
      few_steps = omega (arith, i.few_steps);
      small = i.small;
      some_workers = i.some_workers;
      few_workers = i.few_workers;
      settled = settled_root s past;
      unended = unended s past;
    })
