use Rattle.std.specs.Prelude.{MatchBool}
use Rattle.std.proofs.Common.{◌≡◌, ◌∙◌, sym, ap, subst}
use Rattle.case_view.specs.declared.kept.Kept.{Kept}
use Rattle.case_view.specs.Views.{IsIn}
use Rattle.case_view.specs.Caches.{AreFiledClauses, IsSubsumedBy}
use Rattle.case_view.proofs.FiledSteps.{told}
use Rattle.case_view.proofs.view.CaseView.is_subsumed.Goals as goal

pub returns : goal.returns
returns c =
    let same : c.self.inside.case ≡ c.args.self.now = c.self.view_is in
    let list = c.as_slice.result.now in
    let entries = c.self.inside.clauses in
    let clause = c.args.clause.now in
    let filed = subst (λ list. AreFiledClauses list entries) (sym c.as_slice.ensures) c.self.invariant.clauses in
    subst (λ list. MatchBool c.has_subclause.result (IsSubsumedBy list clause) ((k : Kept) → IsIn list k → ¬ (k.stated.clause ≡ clause))) (c.as_slice.ensures ∙ ap (λ v. v.listed) same)
    (told list entries clause c.has_subclause.result filed c.has_subclause.ensures)
