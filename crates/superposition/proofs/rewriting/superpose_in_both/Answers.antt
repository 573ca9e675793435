use Rattle.std.proofs.Common.{Ok, subst}
use Rattle.std.specs.List.{flat_map}
use Rattle.spl_terms.specs.declared.clause.Part.TheVariants.{Antecedent, Succedent}
use Rattle.superposition.specs.Appending.{Appended}
use Rattle.superposition.specs.AppendingLaws.{nothing, then_more, then_none}
use Rattle.superposition.specs.Readings.{reading_of}
use Rattle.superposition.specs.Standings.{IsStanding}
use Rattle.superposition.specs.Walks.{superpose_lent}
use Rattle.superposition.proofs.Skipped.{equation_skipped}
use Rattle.superposition.proofs.rewriting.superpose_in_both.Goals as goal

pub returns-in-Err : goal.returns-in-Err
returns-in-Err c =
    let a = c.args in
    let first = flat_map (superpose_lent a.pair.p.now a.pair.q.now (reading_of a.equation) Antecedent) a.antecedent.now in
    let second = flat_map (superpose_lent a.pair.p.now a.pair.q.now (reading_of a.equation) Succedent) a.succedent.now in
    then_none first second a.out.now.items c.superpose_in_atoms.new.out.items c.in-Err.error (subst (λ r. Appended first a.out.now.items c.superpose_in_atoms.new.out.items r) c.in-Err.is c.superpose_in_atoms.ensures)

pub returns : goal.returns
returns c =
    let a = c.args in
    let first = flat_map (superpose_lent a.pair.p.now a.pair.q.now (reading_of a.equation) Antecedent) a.antecedent.now in
    let second = flat_map (superpose_lent a.pair.p.now a.pair.q.now (reading_of a.equation) Succedent) a.succedent.now in
    then_more first second a.out.now.items c.superpose_in_atoms.new.out.items c.superpose_in_atoms-2.new.out.items c.in_default-superpose_in_atoms.field-0 c.superpose_in_atoms-2.result
    (subst (λ r. Appended first a.out.now.items c.superpose_in_atoms.new.out.items r) c.in_default-superpose_in_atoms.is c.superpose_in_atoms.ensures)
    c.superpose_in_atoms-2.ensures

pub returns-in-Lower : goal.returns-in-Lower
returns-in-Lower c =
    let a = c.args in
    subst (λ l. Appended l a.out.now.items a.out.now.items (Ok (tt {0})))
    (equation_skipped a.pair.p.now a.pair.q.now a.antecedent.now a.succedent.now (reading_of a.equation) (subst (λ x. IsStanding x a.equation.left_side.now a.equation.right_side.now) c.in-Lower.is c.requires.equation.judged))
    (nothing a.out.now.items (tt {0}))
