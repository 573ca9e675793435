use Rattle.std.proofs.Common.{◌+◌, length, ap, ◌∙◌, arith}
use Rattle.std.proofs.lemmas.Result.{on_ok_weaker}
use Rattle.formulas.specs.Negations.{signed_form}
use Rattle.normal_form.specs.Skolem.{start}
use Rattle.normal_form.proofs.Choosing.{length-arities}
use Rattle.normal_form.proofs.forming.declare_skolems.Goals as goal

pub declare_all-requires-clause-room : goal.declare_all-requires-clause-room
declare_all-requires-clause-room c =
    omega (arith, ap length (c.as_slice.ensures ∙ c.in_ok-arities.ensures), length-arities (signed_form c.args.formula.now c.args.sign) (start c.count-next.result), c.count-next.ensures, c.requires.room)

pub returns-clause-more : goal.returns-clause-more
returns-clause-more c =
    on_ok_weaker c.declare_all.result
    (λ e. e ∙ ap (λ n. length c.args.forming.now.signature + n) (ap length (c.as_slice.ensures ∙ c.in_ok-arities.ensures) ∙ length-arities (signed_form c.args.formula.now c.args.sign) (start c.count-next.result)))
    c.declare_all.ensures.more
