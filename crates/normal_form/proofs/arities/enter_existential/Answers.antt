use Rattle.std.proofs.Common.{◌≡◌, ◌++◌, ◌∷◌, [], length, replicate, ap, ◌∙◌}
use Rattle.std.proofs.lemmas.Result.{on_ok_weaker}
use Rattle.formulas.specs.Negations.{signed_form}
use Rattle.normal_form.specs.Skolem.{skolem_arguments}
use Rattle.normal_form.specs.Blocks.{place_below, for_any, arity_of, existential_block}
use Rattle.normal_form.proofs.arities.enter_existential.Goals as goal

pub returns-clause-pushed : goal.returns-clause-pushed
returns-clause-pushed c =
    on_ok_weaker c.push.result
    (λ e sign. e ∙ ap (λ b. c.args.listing.now.scopes ++ b ∷ []) (c.in_ok-block.ensures sign ∙ ap (λ bs. existential_block c.args.first c.args.count (signed_form c.args.part.now sign) (place_below bs c.args.next)) c.as_slice.ensures))
    c.push.ensures.ok

pub returns-clause-listed : goal.returns-clause-listed
returns-clause-listed c =
    on_ok_weaker c.push.result
    (λ e sign. (let made : c.in_ok-block.block ≡ existential_block c.args.first c.args.count (signed_form c.args.part.now sign) (place_below c.args.listing.now.scopes c.args.next) = c.in_ok-block.ensures sign ∙ ap (λ bs. existential_block c.args.first c.args.count (signed_form c.args.part.now sign) (place_below bs c.args.next)) c.as_slice.ensures in
    let arity : c.arity-arity.result ≡ length (skolem_arguments (for_any c.args.first c.args.count (signed_form c.args.part.now sign)) (place_below c.args.listing.now.scopes c.args.next)) = c.arity-arity.ensures ∙ ap (λ b. arity_of b.skolems) made in
    c.in_ok-add_copies.ensures ∙ ap (λ n. c.args.listing.now.arities ++ replicate c.args.count n) arity))
    c.push.ensures.ok
