use Rattle.std.proofs.Common.{subst}
use Rattle.clause_filing.specs.Filings.{HoldUnder, before_arrow, after_arrow}
use Rattle.clause_filing.specs.FilingLaws.{holds_of_clause}
use Rattle.case_view.specs.Caches.{IsOther}
use Rattle.case_view.proofs.FiledSteps.{where_false}
use Rattle.case_view.proofs.filed.has_subclause.Goals as goal

pub returns : goal.returns
returns c =
    let other = IsOther c.args.clauses.now c.args.clause.now in
    let es = c.args.filing.now in
    let mask = c.clause_mask-mask.result in
    where_false _ _ _ c.is_subsumed_by-3.result (λ h. holds_of_clause other es c.args.clause.now mask c.clause_mask-mask.ensures c.if-is_subsumed_at.ensures
    (subst (λ atoms. HoldUnder other es after_arrow atoms mask) c.as_slice-succedent.ensures c.if-is_subsumed_by.ensures)
    (subst (λ atoms. HoldUnder other es before_arrow atoms mask) c.as_slice-antecedent.ensures c.if-is_subsumed_by-2.ensures)
    (subst (λ atoms. HoldUnder other es before_arrow atoms mask) c.as_slice-constraint.ensures h)) c.is_subsumed_by-3.ensures
