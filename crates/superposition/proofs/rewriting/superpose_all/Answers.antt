use Rattle.std.proofs.Common.{arith, subst, List}
use Rattle.std.specs.List.{flat_map}
use Rattle.proof_steps.specs.declared.step.Line.{Line}
use Rattle.superposition.specs.declared.equations.Equation.{Equation}
use Rattle.superposition.specs.Readings.{reading_of}
use Rattle.superposition.specs.Walks.{IsUsable, superpose_in_parts}
use Rattle.superposition.specs.Appending.{Appended}
use Rattle.superposition.proofs.Lists.{each_at}
use Rattle.superposition.proofs.Composing.{loop_goes_on, loop_stops, loop_ends}
use Rattle.superposition.proofs.rewriting.superpose_all.Goals as goal

pub superpose_in_both-requires-clause-equation : goal.superpose_in_both-requires-clause-equation
superpose_in_both-requires-clause-equation c = each_at (IsUsable c.args.pair) c.args.equations.now c.loop-k.k c.index-equations-k.result c.requires.equations c.loop-k-test.true c.index-equations-k.is

pub loop-k-preserved : goal.loop-k-preserved
loop-k-preserved c =
    let a = c.args in
    let f : Equation → List Line = λ e. superpose_in_parts a.pair.p.now a.pair.q.now a.antecedent.now a.succedent.now (reading_of e) in
    loop_goes_on f a.equations.now c.loop-k.k c.index-equations-k.result (flat_map f a.equations.now) a.out.now.items c.loop-k.out.items c.loop-k-test.true c.index-equations-k.is c.loop-k.invariant c.superpose_in_both.new.out.items (subst (λ r. Appended (f c.index-equations-k.result) c.loop-k.out.items c.superpose_in_both.new.out.items r) c.in_default.is c.superpose_in_both.ensures)

pub returns : goal.returns
returns c =
    let a = c.args in
    let f : Equation → List Line = λ e. superpose_in_parts a.pair.p.now a.pair.q.now a.antecedent.now a.succedent.now (reading_of e) in
    loop_ends f a.equations.now c.loop-k.k (flat_map f a.equations.now) a.out.now.items c.loop-k.out.items (omega (arith, c.loop-k-test.false)) c.loop-k.invariant

pub returns-in-Err : goal.returns-in-Err
returns-in-Err c =
    let a = c.args in
    let f : Equation → List Line = λ e. superpose_in_parts a.pair.p.now a.pair.q.now a.antecedent.now a.succedent.now (reading_of e) in
    loop_stops f a.equations.now c.loop-k.k c.index-equations-k.result (flat_map f a.equations.now) a.out.now.items c.loop-k.out.items c.loop-k-test.true c.index-equations-k.is c.loop-k.invariant c.superpose_in_both.new.out.items c.in-Err.error
    (subst (λ r. Appended (f c.index-equations-k.result) c.loop-k.out.items c.superpose_in_both.new.out.items r) c.in-Err.is c.superpose_in_both.ensures)
