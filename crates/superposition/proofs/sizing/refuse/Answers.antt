use Rattle.std.proofs.Common.{◌+◌, min, ◌∙◌, sym, ap, subst}
use Rattle.superposition.specs.Sizes.{IsTooBig}
use Rattle.superposition.proofs.Sized.{counted_whole}
use Rattle.superposition.proofs.sizing.refuse.Goals as goal

pub returns-then-symbols-gt4096 : goal.returns-then-symbols-gt4096
returns-then-symbols-gt4096 c = λ whole a b d.
    subst (λ n. IsTooBig n whole) (sym c.min.ensures)
    (counted_whole c.args.constraint c.args.antecedent c.args.succedent c.saturating_add-symbols.result whole a b d
    (c.saturating_add-symbols.ensures ∙ ap (λ n. min (n + c.args.succedent) 18446744073709551615) c.saturating_add.ensures)
    c.if-symbols-gt4096.true)
