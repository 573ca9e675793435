use Rattle.std.proofs.Common.{subst}
use Rattle.spl_terms.specs.declared.clause.Part.TheVariants.{Antecedent}
use Rattle.calculus.specs.Inferences.{resolutions, superpositions}
use Rattle.superposition.specs.Appending.{Appended}
use Rattle.superposition.specs.AppendingLaws.{then_more, then_none}
use Rattle.superposition.proofs.inferring.from_to.Goals as goal

pub returns-in-Err : goal.returns-in-Err
returns-in-Err c =
    let a = c.args in
    let first = resolutions Antecedent a.p.now.kept.now a.q.now.kept.now in
    let second = superpositions a.p.now.kept.now a.q.now.kept.now in
    then_none first second a.out.now.items c.resolve_premises.new.out.items c.in-Err.error (subst (λ r. Appended first a.out.now.items c.resolve_premises.new.out.items r) c.in-Err.is c.resolve_premises.ensures)

pub returns : goal.returns
returns c =
    let a = c.args in
    let first = resolutions Antecedent a.p.now.kept.now a.q.now.kept.now in
    let second = superpositions a.p.now.kept.now a.q.now.kept.now in
    then_more first second a.out.now.items c.resolve_premises.new.out.items c.superpose_premises.new.out.items c.in_default.field-0 c.superpose_premises.result
    (subst (λ r. Appended first a.out.now.items c.resolve_premises.new.out.items r) c.in_default.is c.resolve_premises.ensures)
    c.superpose_premises.ensures
