use Rattle.std.proofs.Common.{subst}
use Rattle.calculus.specs.Inferences.{from_to}
use Rattle.superposition.specs.Appending.{Appended}
use Rattle.superposition.specs.AppendingLaws.{then_more, then_none}
use Rattle.superposition.proofs.inferring.infer_from_both.Goals as goal

pub returns-in-Err : goal.returns-in-Err
returns-in-Err c =
    let a = c.args in
    let first = from_to a.p.now.kept.now a.q.now.kept.now in
    let second = from_to a.q.now.kept.now a.p.now.kept.now in
    then_none first second a.out.now.items c.from_to.new.out.items c.in-Err.error (subst (λ r. Appended first a.out.now.items c.from_to.new.out.items r) c.in-Err.is c.from_to.ensures)

pub returns : goal.returns
returns c =
    let a = c.args in
    let first = from_to a.p.now.kept.now a.q.now.kept.now in
    let second = from_to a.q.now.kept.now a.p.now.kept.now in
    then_more first second a.out.now.items c.from_to.new.out.items c.from_to-2.new.out.items c.in_default.field-0 c.from_to-2.result
    (subst (λ r. Appended first a.out.now.items c.from_to.new.out.items r) c.in_default.is c.from_to.ensures)
    c.from_to-2.ensures
