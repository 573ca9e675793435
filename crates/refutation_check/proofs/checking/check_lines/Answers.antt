use Rattle.std.proofs.Common.{◌≡◌, ◌∙◌, ℕ, Some, take, length, refl, sym, subst, below_more, arith}
use Rattle.std.specs.List.{slice_get}
use Rattle.std.proofs.lemmas.Option.{slice_get_read, slice_get_within, same_Some}
use Rattle.std.proofs.lemmas.Result.{err_from_is_err_and}
use Rattle.proof_steps.specs.declared.step.Line.{Line}
use Rattle.proof_steps.specs.Checked.{IsConclusion, stated}
use Rattle.refutation_check.proofs.Verdicts.{first_found}
use Rattle.refutation_check.proofs.checking.check_lines.Goals as goal

pub returns-in_err-check_line : goal.returns-in_err-check_line
returns-in_err-check_line c =
    let lines = c.args.lines.now in
    let k = c.loop-k.k in
    let line = c.index-lines-k.result in
    let there : slice_get lines k ≡ Some line = slice_get_read lines (length lines) k line refl c.loop-k-test.true c.index-lines-k.is in
    let p = err_from_is_err_and c.from_residual.result c.from_residual.ensures.1 in
    rw (p.1, p.2) (first_found c.args.input.now lines k line _ there c.loop-k.invariant c.in_err-check_line.ensures)

pub loop-k-preserved : goal.loop-k-preserved
loop-k-preserved c =
    let lines = c.args.lines.now in
    let k = c.loop-k.k in
    let line = c.index-lines-k.result in
    let there : slice_get lines k ≡ Some line = slice_get_read lines (length lines) k line refl c.loop-k-test.true c.index-lines-k.is in
    let Fine : ℕ → Type 0 = λ j. (m : Line) → slice_get lines j ≡ Some m → IsConclusion c.args.input.now (stated (take j lines)) m in
    let here : Fine k = λ m e. subst (IsConclusion c.args.input.now (stated (take k lines))) (same_Some line m (sym there ∙ e)) c.in_ok-check_line.ensures in
    λ j m h e. below_more Fine k (λ j h m e. c.loop-k.invariant j m h e) here j h m e

pub returns : goal.returns
returns c = λ k l e. c.loop-k.invariant k l (omega (arith, slice_get_within c.args.lines.now k l e, c.loop-k-test.false)) e
