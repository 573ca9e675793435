use Rattle.std.proofs.Common.{Ok, arith, subst, List}
use Rattle.std.specs.List.{flat_map}
use Rattle.spl_truth.specs.Unifiers.{HasVariablesBelow}
use Rattle.proof_steps.specs.declared.step.Line.{Line}
use Rattle.superposition.specs.declared.equations.Equation.{Equation}
use Rattle.superposition.specs.Readings.{reading_of, IsReadIn, factor_apart}
use Rattle.calculus.specs.Inferences.{clause_of}
use Rattle.superposition.specs.Appending.{Appended}
use Rattle.superposition.specs.Standings.{IsStanding}
use Rattle.superposition.proofs.Lists.{each_at}
use Rattle.superposition.proofs.Skipped.{factoring_skipped}
use Rattle.superposition.specs.AppendingLaws.{nothing}
use Rattle.superposition.proofs.Composing.{loop_goes_on, loop_stops, loop_ends}
use Rattle.superposition.proofs.own.factor_equation_with_each.Goals as goal

pub factor_equation-requires-clause-d_below : goal.factor_equation-requires-clause-d_below
factor_equation-requires-clause-d_below c = each_at (λ d. HasVariablesBelow c.args.vars d.left_side.now) c.args.others.now c.loop-k.k c.index-others-k.result c.requires.others_below c.loop-k-test.true c.index-others-k.is

pub loop-k-preserved : goal.loop-k-preserved
loop-k-preserved c =
    let a = c.args in
    let f : Equation → List Line = λ d. factor_apart a.p.now (reading_of a.e) (reading_of d) in
    loop_goes_on f a.others.now c.loop-k.k c.index-others-k.result (flat_map f a.others.now) a.out.now.items c.loop-k.out.items c.loop-k-test.true c.index-others-k.is c.loop-k.invariant c.factor_equation.new.out.items (subst (λ r. Appended (f c.index-others-k.result) c.loop-k.out.items c.factor_equation.new.out.items r) c.in_default-factor_equation.is c.factor_equation.ensures)

pub returns : goal.returns
returns c =
    let a = c.args in
    let f : Equation → List Line = λ d. factor_apart a.p.now (reading_of a.e) (reading_of d) in
    loop_ends f a.others.now c.loop-k.k (flat_map f a.others.now) a.out.now.items c.loop-k.out.items (omega (arith, c.loop-k-test.false)) c.loop-k.invariant

pub returns-in-Err : goal.returns-in-Err
returns-in-Err c =
    let a = c.args in
    let f : Equation → List Line = λ d. factor_apart a.p.now (reading_of a.e) (reading_of d) in
    loop_stops f a.others.now c.loop-k.k c.index-others-k.result (flat_map f a.others.now) a.out.now.items c.loop-k.out.items c.loop-k-test.true c.index-others-k.is c.loop-k.invariant c.factor_equation.new.out.items c.in-Err.error
    (subst (λ r. Appended (f c.index-others-k.result) c.loop-k.out.items c.factor_equation.new.out.items r) c.in-Err.is c.factor_equation.ensures)

pub returns-in-Lower : goal.returns-in-Lower
returns-in-Lower c =
    let a = c.args in
    subst (λ l. Appended l a.out.now.items a.out.now.items (Ok (tt {0}))) (factoring_skipped a.p.now (reading_of a.e) a.others.now (subst (λ x. IsStanding x a.e.left_side.now a.e.right_side.now) c.in-Lower.is c.requires.judged)) (nothing a.out.now.items (tt {0}))

pub factor_equation-requires-clause-d_there : goal.factor_equation-requires-clause-d_there
factor_equation-requires-clause-d_there c = each_at (IsReadIn (clause_of c.args.p.now)) c.args.others.now c.loop-k.k c.index-others-k.result c.requires.others_there c.loop-k-test.true c.index-others-k.is
