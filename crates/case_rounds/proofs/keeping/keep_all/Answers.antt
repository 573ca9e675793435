use Rattle.std.proofs.Common.{◌∙◌, suc, inl, inr, ap, subst}
use Rattle.std.specs.List.{slice_get}
use Rattle.proof_steps.specs.declared.step.Line.{Line}
use Rattle.case_view.specs.Views.{IsIn}
use Rattle.case_rounds.specs.Rounds.{IsCoveredIn}
use Rattle.case_rounds.proofs.Rows.{in_head}
use Rattle.case_rounds.proofs.Lines.{extends_more, covered_extends}
use Rattle.case_rounds.proofs.keeping.keep_all.Goals as goal

pub keep_line-requires-clause-line : goal.keep_line-requires-clause-line
keep_line-requires-clause-line c = c.loop-line.invariant.each c.in-Some.line (0, ap (λ xs. slice_get xs 0) c.in-Some.ensures.steps.0)

pub loop-line-preserved : goal.loop-line-preserved
loop-line-preserved c =
    let view = c.args.view.now in
    let v = c.loop-line.invariant in
    let old = c.loop-line.lines in
    let new = c.keep_line.new.lines in
    let rest = c.next.new.self.rest.items in
    let e = c.in-Some.ensures.steps.0 in
    let p = c.in_ok-keep_line.ensures in
    record {
      round = p.round;
      extends = extends_more c.args.lines.now old new v.extends p.extends;
      each = λ x h. v.each x (suc h.0, ap (λ xs. slice_get xs (suc h.0)) e ∙ h.1);
      done = λ x at. elim (v.done x at) [
        | inl covered ↦ inl (covered_extends view old new x.stated.clause p.extends covered)
        | inr left ↦ elim (in_head c.in-Some.line rest x (subst (λ xs. IsIn xs x) e left)) [
          | inl now ↦ inl (subst (λ (y : Line). IsCoveredIn view new y.stated.clause) now p.covered)
          | inr later ↦ inr later
        ]
      ];
    }
