use Rattle.std.proofs.Common.{◌∙◌, ℕ, subst}
use Rattle.std.specs.Prelude.{MatchOption}
use Rattle.case_journal.specs.Journal.{ledger}
use Rattle.case_journal.specs.Facts.{Holds}
use Rattle.case_journal.specs.PlaceLaws.{claimed_within}
use Rattle.case_journal.specs.LeafLaws.{claimer_within}
use Rattle.case_view.specs.Caches.{AreFiledClauses, AreUnderAll}
use Rattle.case_view.proofs.CaseSteps.{begins}
use Rattle.case_view.proofs.Orders.{case_ordered}
use Rattle.case_view.proofs.view.CaseView.begin.Goals as goal

pub held-requires-clause-some : goal.held-requires-clause-some
held-requires-clause-some c =
    let t = c.args.table.now in
    (claimer_within t.setting t.past c.laws.ensures.legal c.args.worker c.requires.0 c.requires.1.claims).0

pub held-requires-clause-there : goal.held-requires-clause-there
held-requires-clause-there c =
    let t = c.args.table.now in
    (claimer_within t.setting t.past c.laws.ensures.legal c.args.worker c.requires.0 c.requires.1.claims).1

pub path_to-requires : goal.path_to-requires
path_to-requires c =
    let t = c.args.table.now in
    let holds = subst (λ o. MatchOption o ((m : ℕ) → ¬ Holds t.setting t.past c.args.worker m) (Holds t.setting t.past c.args.worker)) c.unwrap-leaf.ensures c.held.ensures in
    claimed_within t.setting t.past c.laws.ensures.legal c.args.worker c.unwrap-leaf.result holds.claims

pub walk-requires-clause-there : goal.walk-requires-clause-there
walk-requires-clause-there c =
    let t = c.args.table.now in
    let holds = subst (λ o. MatchOption o ((m : ℕ) → ¬ Holds t.setting t.past c.args.worker m) (Holds t.setting t.past c.args.worker)) c.unwrap-leaf.ensures c.held.ensures in
    claimed_within t.setting t.past c.laws.ensures.legal c.args.worker c.unwrap-leaf.result holds.claims

pub walk-requires-clause-reaches : goal.walk-requires-clause-reaches
walk-requires-clause-reaches c =
    let t = c.args.table.now in
    let leaf = c.unwrap-leaf.result in
    let holds = subst (λ o. MatchOption o ((m : ℕ) → ¬ Holds t.setting t.past c.args.worker m) (Holds t.setting t.past c.args.worker)) c.unwrap-leaf.ensures c.held.ensures in
    let there = claimed_within t.setting t.past c.laws.ensures.legal c.args.worker leaf holds.claims in
    begins t.setting t.past c.laws.ensures.legal leaf there c.as_slice.result.now (c.as_slice.ensures.value ∙ c.in_ok-way.ensures) c.in_ok-case.case c.in_ok-case.ensures.is c.in_ok-case.ensures.node

pub invariant_of-result : goal.invariant_of-result
invariant_of-result c =
    let t = c.args.table.now in
    let v = c.walk.new.case in
    record {
      ordered = case_ordered t.setting t.past v (c.conclusions_are_in_order.ensures t.setting.input (ledger t.setting t.past) c.laws.ensures.concluded) c.in_ok-walk.ensures.is;
      clauses = subst (λ list. AreFiledClauses list c.file_clauses.new.filing) c.as_slice-2.ensures c.in_ok-file_clauses.ensures;
      literals = subst (λ list. AreUnderAll list c.file_under_all.new.filing) c.as_slice-3.ensures c.in_ok-file_under_all.ensures;
    }
