use Rattle.std.proofs.Common.{true, false, sym, ap, ◌∙◌}
use Rattle.formulas.specs.declared.tree.Tree as tree
use Rattle.formulas.specs.Negations.{both, either, signed_form}
use Rattle.formulas.specs.FormLaws.{form-Implies, form-not_Implies}
use Rattle.formulas.proofs.Counted.{counts_by}
use Rattle.formulas.proofs.counts.Counts.implies.Goals as goal

pub returns : goal.returns
returns c = λ t u e h.
    (let p = c.either.ensures (signed_form t false) (signed_form u true) (ap (λ x. x.negative) e) (ap (λ x. x.positive) h) in
    let q = c.both.ensures (signed_form t true) (signed_form u false) (ap (λ x. x.positive) e) (ap (λ x. x.negative) h) in
    (λ i. record { positive = p i; negative = q i }) ∙ sym (counts_by (tree.Implies t u) (either (signed_form t false) (signed_form u true)) (both (signed_form t true) (signed_form u false)) (form-Implies t u) (form-not_Implies t u)))
