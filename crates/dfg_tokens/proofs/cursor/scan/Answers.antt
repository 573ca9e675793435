use Rattle.std.proofs.Common.{◌<◌, ◌∙◌, length, arith}
use Rattle.std.proofs.lemmas.Grind.{common_steps}
use Rattle.dfg_tokens.proofs.Scans.{token_found, none_found}
use Rattle.dfg_tokens.proofs.cursor.scan.Goals as goal

pub returns-in-Some : goal.returns-in-Some
returns-in-Some c =
    let some : 0 < length c.loop-next.left.now = grind (arith, common_steps) in
    let found = token_found c.loop-next.at c.loop-next.left.now c.first_piece-next.result c.in-Some.kind c.first_piece-next.ensures.is c.first_piece-next.ensures.within some c.in-Some.is in
    rw c.split_at.ensures.back (found ∙ c.loop-next.invariant.0)

pub loop-next-preserved : goal.loop-next-preserved
loop-next-preserved c =
    let some : 0 < length c.loop-next.left.now = grind (arith, common_steps) in
    let found = none_found c.loop-next.at c.loop-next.left.now c.first_piece-next.result c.first_piece-next.ensures.is c.first_piece-next.ensures.within some c.in_default.is in
    (rw c.split_at.ensures.back (found ∙ c.loop-next.invariant.0), grind (arith, common_steps), rw c.split_at.ensures.back c.may_still_close-may_close.ensures)
