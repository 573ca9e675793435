use Rattle.std.proofs.Common.{◌∙◌, [], None, refl, sym, subst}
use Rattle.std.specs.Prelude.{Ok}
use Rattle.proof_steps.specs.Steps.{resolution, from_two, Sized}
use Rattle.proof_steps.proofs.Steps.{from_ground, none_some}
use Rattle.proof_steps.proofs.resolving.resolve_statements.Goals as goal

pub returns-then-not-applies : goal.returns-then-not-applies
returns-then-not-applies c =
    let nothing = none_some (from_two (resolution c.args.i c.args.part c.args.j [] []) c.args.p.now c.args.q.now) (sym c.applies.ensures ∙ c.if-not-applies.true) in
    subst (λ o. Sized o (Ok None)) nothing (refl, tt)

pub returns : goal.returns
returns c = subst (λ o. Sized o c.resolved.result) (from_ground c.args.i c.args.part c.args.j c.args.p.now c.args.q.now (sym c.applies.ensures ∙ c.if-not-applies.false)) c.resolved.ensures
