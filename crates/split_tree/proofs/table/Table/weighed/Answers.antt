use Rattle.std.proofs.Common.{arith, ap, length}
use Rattle.split_tree.specs.Fields.{setting_of}
use Rattle.split_tree.specs.Caches.{past_of}
use Rattle.case_journal.specs.Journal.{ledger}
use Rattle.split_tree.proofs.Lists.{length-weights}
use Rattle.split_tree.proofs.Lens.{read_weight}
use Rattle.split_tree.proofs.table.Table.weighed.Goals as goal

pub index-requires : goal.index-requires
index-requires c =
    let t = c.self.inside in
    let there = rw (← c.self.view_is) at c.requires.there in
    omega (arith, t.weights.ok.0, ap length c.self.invariant.weights_are, length-weights (ledger (setting_of t) (past_of t.journal.items)), there, c.requires.some)

pub returns : goal.returns
returns c =
    let there = rw (← c.self.view_is) at c.requires.there in
    rw (← c.self.view_is) (λ l h. let e = read_weight c.self.inside c.self.invariant c.args.clause c.index.result.now l c.requires.some there h c.index.ensures in λ i. record { number = c.args.clause; symbols = e i })
