use Rattle.std.proofs.Common.{◌∙◌, ◌<◌, length, sym, arith}
use Rattle.dfg_formulas.proofs.Bound.{still_bound, next_item}
use Rattle.dfg_formulas.proofs.items.items.Goals as goal

pub loop-i-preserved : goal.loop-i-preserved
loop-i-preserved c =
    let k = c.args.text.now in
    let lt : c.loop-i.i < length k.bytes.now = omega arith in
    let adds = c.in_ok-add_item.ensures in
    let comma = sym c.next_is_mark.ensures ∙ c.if-not-next_is_mark.false in
    let round = next_item k.bytes.now k.symbols.now c.args.first (length k.bytes.now) c.loop-i.i c.loop-i.scope c.add_item.new.scope c.loop-i.sorts c.add_item.new.sorts c.loop-i.tokens c.item.new.tokens c.advance.new.self c.in_ok-item.item lt c.in_ok-item.ensures adds comma c.advance.ensures in
    let bound = still_bound c.args.scope.now c.loop-i.scope _ c.add_item.new.scope adds.0 c.loop-i.invariant.1 c.loop-i.invariant.2 in
    (round ∙ c.loop-i.invariant.0, bound.0, bound.1)
