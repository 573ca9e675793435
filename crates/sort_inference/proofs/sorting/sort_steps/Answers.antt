use Rattle.std.proofs.Common.{subst}
use Rattle.spl_terms.specs.declared.clause.Part.TheVariants.{Constraint}
use Rattle.calculus.specs.Inferences.{resolutions}
use Rattle.superposition.specs.Appending.{Appended}
use Rattle.superposition.specs.AppendingLaws.{then_more, then_none}
use Rattle.sort_inference.proofs.sorting.sort_steps.Goals as goal

pub returns-in-Err : goal.returns-in-Err
returns-in-Err c =
    let a = c.args in
    let first = resolutions Constraint a.given.now a.other.now in
    let second = resolutions Constraint a.other.now a.given.now in
    then_none first second a.out.now.items c.resolutions.new.out.items c.in-Err.error (subst (λ r. Appended first a.out.now.items c.resolutions.new.out.items r) c.in-Err.is c.resolutions.ensures)

pub returns : goal.returns
returns c =
    let a = c.args in
    let first = resolutions Constraint a.given.now a.other.now in
    let second = resolutions Constraint a.other.now a.given.now in
    then_more first second a.out.now.items c.resolutions.new.out.items c.resolutions-2.new.out.items c.in_default.field-0 c.resolutions-2.result
    (subst (λ r. Appended first a.out.now.items c.resolutions.new.out.items r) c.in_default.is c.resolutions.ensures)
    c.resolutions-2.ensures
