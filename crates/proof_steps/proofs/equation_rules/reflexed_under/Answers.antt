use Rattle.std.proofs.Common.{◌∙◌, true, Some, sym, ap}
use Rattle.std.specs.Prelude.{slice_get}
use Rattle.spl_terms.specs.declared.clause.Part.TheVariants.{Antecedent}
use Rattle.spl_terms.specs.Clauses.{in_order}
use Rattle.spl_truth.specs.Truth.{apply}
use Rattle.proof_steps.specs.Steps.{without}
use Rattle.proof_steps.proofs.Under.{reflexed-there}
use Rattle.proof_steps.proofs.equation_rules.reflexed_under.Goals as goal

pub returns : goal.returns
returns c =
    let a = c.args in
    let there = ap (λ xs. slice_get xs a.j) (sym c.as_slice.ensures) ∙ sym c.in-Some.ensures in
    ap (λ d. Some (in_order (apply a.entries.now d))) (c.without_antecedent.ensures ∙ ap (without Antecedent a.j) c.in_ok-copy.ensures)
    ∙ sym (reflexed-there a.entries.now a.j a.p.now c.in-Some.atom.now true there (sym c.if-not-has_equal_instances.false ∙ c.has_equal_instances.ensures))
