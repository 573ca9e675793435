use Rattle.std.proofs.Common.{◌≡◌, ◌∙◌, true, false, Some, sym}
use Rattle.spl_terms.specs.Lists.{numbered}
use Rattle.clause_filing.specs.FilingLaws.{going_back_starts, going_back_more}
use Rattle.case_view.specs.Caches.{IsOther}
use Rattle.case_view.proofs.filed.is_subsumed_at.Goals as goal
use Rattle.case_view.proofs.filed.is_subsumed_at.Goals.{else-is_within-via-then-is_within+else-is_subclause_at, else-is_within-via-else-is_within}

pub loop-entry-init : goal.loop-entry-init
loop-entry-init c = going_back_starts (IsOther c.args.clauses.now c.args.clause.now) c.args.filing.now c.args.key c.args.mask c.newest-number.result c.newest-number.ensures

pub loop-entry-preserved : goal.loop-entry-preserved
loop-entry-preserved c =
    let es = c.args.filing.now in
    let e = c.in-Some.entry.now in
    let n = c.loop-entry.number in
    let other = IsOther c.args.clauses.now c.args.clause.now in
    let at : numbered es n ≡ Some e = sym c.in-Some.ensures.is in
    let newest = c.in-Some.ensures.linked e at in
    elim c.else-is_within.branch [
      | else-is_within-via-then-is_within+else-is_subclause_at w ↦ going_back_more other other es c.args.key c.args.mask n e at newest (λ v h. h) (λ h. w.if-is_subclause_at.ensures) c.loop-entry.invariant
      | else-is_within-via-else-is_within w ↦ going_back_more other other es c.args.key c.args.mask n e at newest (λ v h. h) (λ h. absurd (let outside : true ≡ false = sym h ∙ (sym c.is_within.ensures ∙ w.if-is_within.false) in cc)) c.loop-entry.invariant
    ]
