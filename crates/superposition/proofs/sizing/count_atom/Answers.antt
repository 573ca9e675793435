use Rattle.std.proofs.Common.{sym, ◌∙◌}
use Rattle.superposition.proofs.Sized.{counted_again, counted_new}
use Rattle.superposition.proofs.sizing.count_atom.Goals as goal

pub returns-then-contains_same : goal.returns-then-contains_same
returns-then-contains_same c = λ atoms low h.
    counted_again c.args.count c.args.kept.now c.as_slice.result.now atoms c.args.atom low h c.as_slice.ensures (sym c.contains_same.ensures ∙ c.if-contains_same.true)

pub returns : goal.returns
returns c = λ atoms low h.
    counted_new c.args.count c.saturating_add.result c.symbols-symbols.result c.args.kept.now c.as_slice.result.now c.push.new.self atoms c.args.atom low h c.as_slice.ensures
    (sym c.contains_same.ensures ∙ c.if-contains_same.false)
    c.in_ok-push.ensures.ok c.symbols-symbols.ensures c.saturating_add.ensures
