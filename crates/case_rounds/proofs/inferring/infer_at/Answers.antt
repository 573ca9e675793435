use Rattle.std.proofs.Common.{◌∙◌, ◌≤◌, refl, sym, subst, Err}
use Rattle.std.specs.Prelude.{IfSome}
use Rattle.spl_terms.specs.Clauses.{clause_symbols}
use Rattle.proof_steps.specs.Steps.{Sized}
use Rattle.case_view.specs.Views.{conclusion_of}
use Rattle.case_rounds.specs.Rounds.{IsLarge}
use Rattle.case_rounds.proofs.Rows.{infers_one, has_one, large_at}
use Rattle.case_rounds.proofs.inferring.infer_at.Goals as goal

pub returns-in_ok-push_line-in-Ok-Some-clause-infers : goal.returns-in_ok-push_line-in-Ok-Some-clause-infers
returns-in_ok-push_line-in-Ok-Some-clause-infers c =
    let a = c.args in
    let made = sym c.in-Ok-Some.ensures.0 ∙ c.in-Ok-Some.field-0-is in
    infers_one a.p.now a.q.now a.lines.now c.push_line.new.lines _ c.in_ok-push_line-in-Ok-Some.ensures (record {
      i = a.at.i;
      part = a.at.part;
      j = a.at.j;
      step = refl;
      concluded = made;
      small = subst (λ o. IfSome o (λ s. clause_symbols s.clause ≤ 4096)) made c.in-Ok-Some.ensures.1;
    })

pub returns-in_ok-push_line-in-Ok-Some-clause-has : goal.returns-in_ok-push_line-in-Ok-Some-clause-has
returns-in_ok-push_line-in-Ok-Some-clause-has c =
    let a = c.args in
    has_one a.p.now a.q.now a.at.i a.at.part a.at.j a.lines.now c.push_line.new.lines _ c.in_ok-push_line-in-Ok-Some.ensures (sym c.in-Ok-Some.ensures.0 ∙ c.in-Ok-Some.field-0-is)

pub returns-in-Err-Big-clause-stop : goal.returns-in-Err-Big-clause-stop
returns-in-Err-Big-clause-stop c =
    let a = c.args in
    let sized = subst (λ e. Sized (conclusion_of a.at.i a.at.part a.at.j a.p.now a.q.now) (Err e)) c.in-Err-Big.field-0-is c.in-Err-Big.ensures in
    (refl, subst (IsLarge a.p.now a.q.now) (sym c.in-Err-Big.symbols-is) (large_at a.p.now a.q.now a.at.i a.at.part a.at.j c.in-Err-Big.symbols (conclusion_of a.at.i a.at.part a.at.j a.p.now a.q.now) refl sized))
