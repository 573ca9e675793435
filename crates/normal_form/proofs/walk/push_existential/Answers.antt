use Rattle.std.proofs.Common.{◌++◌, ◌∷◌, [], ap, ◌∙◌}
use Rattle.std.proofs.lemmas.Result.{on_ok_weaker}
use Rattle.formulas.specs.Negations.{signed_form}
use Rattle.normal_form.specs.Blocks.{place_below, existential_block}
use Rattle.normal_form.proofs.walk.push_existential.Goals as goal

pub returns-clause-pushed : goal.returns-clause-pushed
returns-clause-pushed c =
    on_ok_weaker c.push.result
    (λ e sign. e ∙ ap (λ b. c.args.walk.now.scopes ++ b ∷ []) (c.in_ok-block.ensures sign ∙ ap (λ bs. existential_block c.args.first c.args.count (signed_form c.args.part.now sign) (place_below bs c.args.next)) c.as_slice.ensures))
    c.push.ensures.ok
