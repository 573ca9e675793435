use Rattle.std.proofs.Common.{subst}
use Rattle.spl_terms.specs.Clauses.{distinct}
use Rattle.superposition.specs.Sizes.{Counts}
use Rattle.superposition.proofs.sizing.refuse_big.Goals as goal

pub returns : goal.returns
returns c = λ whole a b d.
    c.refuse.ensures whole
    (subst (λ l. Counts c.in_ok-sorts.sorts (distinct l)) a c.in_ok-sorts.ensures)
    (subst (λ l. Counts c.in_ok-negative.negative (distinct l)) b c.in_ok-negative.ensures)
    (subst (λ l. Counts c.in_ok-positive.positive (distinct l)) d c.in_ok-positive.ensures)
