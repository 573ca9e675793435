use Rattle.std.specs.Prelude.{MatchBool}
use Rattle.spl_truth.specs.Redundancy.{Subsumes}
use Rattle.case_rounds.proofs.Found.{IsSubsumedBy}
use Rattle.std.proofs.Common.{◌≡◌, sym, subst}
use Rattle.proof_steps.specs.declared.step.Line.{Line}
use Rattle.case_view.specs.declared.kept.Kept.{Kept}
use Rattle.case_view.specs.Views.{IsIn}
use Rattle.case_rounds.specs.Rounds.{AreLinesOf}
use Rattle.case_rounds.proofs.Lines.{kept_lines, kept_round, kept_covered, kept_last, empty_clause, full_clause}
use Rattle.case_rounds.proofs.keeping.keep_line.Goals as goal

pub returns-then-empty-clause-halt : goal.returns-then-empty-clause-halt
returns-then-empty-clause-halt c =
    let a = c.args in
    let l = a.line in
    let is = c.in_ok-push.ensures in
    let none_listed = subst (λ b. MatchBool b ((k : Kept) × IsIn a.view.now.listed k × Subsumes k.stated.clause l.stated.clause) ((k : Kept) → IsIn a.view.now.listed k → ¬ (k.stated.clause ≡ l.stated.clause))) c.if-listed.false c.in_ok-listed.ensures in
    let none_before = subst (λ b. MatchBool b (IsSubsumedBy a.lines.now l.stated.clause) ((x : Line) → IsIn a.lines.now x → ¬ (x.stated.clause ≡ l.stated.clause))) c.if-before.false c.in_ok-before.ensures in (
      subst (AreLinesOf a.view.now) (sym is) (kept_lines c.order_stays.ensures a.view.now a.lines.now l c.clauses_are_in_order.ensures c.requires.round c.requires.line none_listed none_before),
      kept_last a.lines.now c.push.new.self l is (empty_clause l.stated.clause (c.is_empty-empty.ensures.0 c.if-empty.true)),
    )

pub returns-clause-round : goal.returns-clause-round
returns-clause-round c =
    let a = c.args in
    let l = a.line in
    let is = c.in_ok-push.ensures in
    let none_listed = subst (λ b. MatchBool b ((k : Kept) × IsIn a.view.now.listed k × Subsumes k.stated.clause l.stated.clause) ((k : Kept) → IsIn a.view.now.listed k → ¬ (k.stated.clause ≡ l.stated.clause))) c.if-listed.false c.in_ok-listed.ensures in
    let none_before = subst (λ b. MatchBool b (IsSubsumedBy a.lines.now l.stated.clause) ((x : Line) → IsIn a.lines.now x → ¬ (x.stated.clause ≡ l.stated.clause))) c.if-before.false c.in_ok-before.ensures in
    let lines = subst (AreLinesOf a.view.now) (sym is) (kept_lines c.order_stays.ensures a.view.now a.lines.now l c.clauses_are_in_order.ensures c.requires.round c.requires.line none_listed none_before) in
    kept_round a.view.now a.lines.now c.push.new.self l is c.requires.round lines (full_clause c.is_empty-empty.result l.stated.clause c.is_empty-empty.ensures.1 c.if-empty.false)

pub returns-clause-covered : goal.returns-clause-covered
returns-clause-covered c = kept_covered c.args.view.now c.args.lines.now c.push.new.self c.args.line c.in_ok-push.ensures
