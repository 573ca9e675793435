use Rattle.std.specs.Prelude.{Contains, MatchBool}
use Rattle.std.proofs.Common.{◌≡◌, ◌∙◌, sym, subst}
use Rattle.proof_steps.specs.declared.step.Line.{Line}
use Rattle.case_view.specs.Views.{IsIn}
use Rattle.case_rounds.specs.Filed.{AreFiledLines}
use Rattle.case_rounds.proofs.Found.{IsSubsumedBy, told}
use Rattle.case_rounds.proofs.round_lines.RoundLines.is_subsumed.Goals as goal

pub returns : goal.returns
returns c =
    let same : c.self.inside.lines ≡ c.args.self.now = c.self.view_is in
    let lines = c.as_slice.result.now in
    let entries = c.self.inside.clauses in
    let clause = c.args.clause.now in
    let filed = subst (λ lines. AreFiledLines lines entries) (sym c.as_slice.ensures) c.self.invariant in
    subst (λ lines. MatchBool c.is_subclause_at.result (IsSubsumedBy lines clause) ((l : Line) → IsIn lines l → ¬ (l.stated.clause ≡ clause))) (c.as_slice.ensures ∙ same)
    (told lines entries clause c.as_slice-2.result.now c.is_subclause_at.result filed (λ v f. subst (λ places. Contains places v) (sym c.as_slice-2.ensures.value) (c.in_ok-places.ensures v f)) c.is_subclause_at.ensures)
