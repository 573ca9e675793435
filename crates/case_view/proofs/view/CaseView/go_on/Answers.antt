use Rattle.case_journal.specs.Journal.{ledger}
use Rattle.case_view.proofs.Orders.{case_ordered}
use Rattle.case_view.proofs.view.CaseView.go_on.Goals as goal

pub invariant_of-self : goal.invariant_of-self
invariant_of-self c =
    let t = c.args.table.now in
    let e = c.in-Ok.ensures in
    record {
      ordered = case_ordered t.setting t.past c.walk_and_file-gone_on.new.case (c.conclusions_are_in_order.ensures t.setting.input (ledger t.setting t.past) c.laws.ensures.concluded) e.is;
      clauses = e.clauses;
      literals = e.literals;
    }
