use Rattle.std.proofs.Common.{true, false, sym, ap, ◌∙◌}
use Rattle.formulas.specs.declared.tree.Tree as tree
use Rattle.formulas.specs.Negations.{Form, both, either, signed_form}
use Rattle.formulas.specs.FormLaws.{form-Equiv, form-not_Equiv}
use Rattle.formulas.proofs.Counted.{counts_by}
use Rattle.formulas.proofs.counts.Counts.equals.Goals as goal

pub returns : goal.returns
returns c = λ t u e h.
    (let a : Form = signed_form t true in
    let b : Form = signed_form u true in
    let no_a : Form = signed_form t false in
    let no_b : Form = signed_form u false in
    let forth = c.either-forth.ensures no_a b (ap (λ x. x.negative) e) (ap (λ x. x.positive) h) in
    let back = c.either-back.ensures no_b a (ap (λ x. x.negative) h) (ap (λ x. x.positive) e) in
    let one = c.either-one.ensures a b (ap (λ x. x.positive) e) (ap (λ x. x.positive) h) in
    let not_both = c.either-not_both.ensures no_a no_b (ap (λ x. x.negative) e) (ap (λ x. x.negative) h) in
    let p = c.both.ensures (either no_a b) (either no_b a) forth back in
    let q = c.both-2.ensures (either a b) (either no_a no_b) one not_both in
    (λ i. record { positive = p i; negative = q i }) ∙ sym (counts_by (tree.Equiv t u) (both (either no_a b) (either no_b a)) (both (either a b) (either no_a no_b)) (form-Equiv t u) (form-not_Equiv t u)))
