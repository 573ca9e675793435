use Rattle.std.proofs.Common.{◌≡◌, ◌<◌, ◌∙◌, length, arith}
use Rattle.std.proofs.lemmas.Grind.{common_steps}
use Rattle.dfg_tokens.specs.TokenLaws.{own_found}
use Rattle.dfg_tokens.proofs.Skip.{goes_on, whole}
use Rattle.dfg_tokens.specs.Tokens.{tokens_from}
use Rattle.dfg_tokens.proofs.token.tokens_of.Goals as goal

pub loop-left-preserved : goal.loop-left-preserved
loop-left-preserved c =
    let some : 0 < length c.loop-left.left.now = grind (arith, common_steps) in
    (goes_on _ _ _ _ _ _ c.first_piece-next.result c.first_piece-next.ensures.is c.first_piece-next.ensures.within some (c.in_ok-push_piece.ensures) c.split_at.ensures.back c.loop-left.invariant.0, grind (arith, common_steps), rw c.split_at.ensures.back c.may_still_close-may_close.ensures)

pub returns-clause-exact : goal.returns-clause-exact
unfolding tokens_from
returns-clause-exact c =
    let none : length c.loop-left.left.now ≡ 0 = grind (arith, common_steps) in
    c.in_ok-push.ensures.items ∙ whole _ _ _ _ none c.loop-left.invariant.0

pub returns-clause-spelled : goal.returns-clause-spelled
unfolding tokens_from
returns-clause-spelled c =
    let none : length c.loop-left.left.now ≡ 0 = grind (arith, common_steps) in
    own_found c.args.bytes.now _ (c.in_ok-push.ensures.items ∙ whole _ _ _ _ none c.loop-left.invariant.0)
