use Rattle.std.proofs.Common.{arith, subst, List}
use Rattle.std.specs.List.{flat_map}
use Rattle.spl_truth.specs.Unifiers.{HasVariablesBelow}
use Rattle.proof_steps.specs.declared.step.Line.{Line}
use Rattle.superposition.specs.declared.equations.Equation.{Equation}
use Rattle.superposition.specs.Readings.{reading_of, IsReadIn, factor_apart}
use Rattle.calculus.specs.Inferences.{clause_of}
use Rattle.superposition.specs.Standings.{IsStanding}
use Rattle.superposition.specs.Appending.{Appended}
use Rattle.superposition.proofs.Lists.{each_at}
use Rattle.superposition.proofs.Composing.{loop_goes_on, loop_stops, loop_ends}
use Rattle.superposition.proofs.own.factor_equations.Goals as goal

pub factor_equation_with_each-requires-clause-e_below : goal.factor_equation_with_each-requires-clause-e_below
factor_equation_with_each-requires-clause-e_below c = each_at (λ e. HasVariablesBelow c.args.vars e.left_side.now) c.args.equations.now c.loop-k.k c.index-equations-k.result c.requires.equations_below c.loop-k-test.true c.index-equations-k.is

pub factor_equation_with_each-requires-clause-judged : goal.factor_equation_with_each-requires-clause-judged
factor_equation_with_each-requires-clause-judged c = each_at (λ e. IsStanding e.standing e.left_side.now e.right_side.now) c.args.equations.now c.loop-k.k c.index-equations-k.result c.requires.judged c.loop-k-test.true c.index-equations-k.is

pub loop-k-preserved : goal.loop-k-preserved
loop-k-preserved c =
    let a = c.args in
    let f : Equation → List Line = λ e. flat_map (λ d. factor_apart a.p.now (reading_of e) (reading_of d)) a.others.now in
    loop_goes_on f a.equations.now c.loop-k.k c.index-equations-k.result (flat_map f a.equations.now) a.out.now.items c.loop-k.out.items c.loop-k-test.true c.index-equations-k.is c.loop-k.invariant c.factor_equation_with_each.new.out.items (subst (λ r. Appended (f c.index-equations-k.result) c.loop-k.out.items c.factor_equation_with_each.new.out.items r) c.in_default.is c.factor_equation_with_each.ensures)

pub returns : goal.returns
returns c =
    let a = c.args in
    let f : Equation → List Line = λ e. flat_map (λ d. factor_apart a.p.now (reading_of e) (reading_of d)) a.others.now in
    loop_ends f a.equations.now c.loop-k.k (flat_map f a.equations.now) a.out.now.items c.loop-k.out.items (omega (arith, c.loop-k-test.false)) c.loop-k.invariant

pub returns-in-Err : goal.returns-in-Err
returns-in-Err c =
    let a = c.args in
    let f : Equation → List Line = λ e. flat_map (λ d. factor_apart a.p.now (reading_of e) (reading_of d)) a.others.now in
    loop_stops f a.equations.now c.loop-k.k c.index-equations-k.result (flat_map f a.equations.now) a.out.now.items c.loop-k.out.items c.loop-k-test.true c.index-equations-k.is c.loop-k.invariant c.factor_equation_with_each.new.out.items c.in-Err.error
    (subst (λ r. Appended (f c.index-equations-k.result) c.loop-k.out.items c.factor_equation_with_each.new.out.items r) c.in-Err.is c.factor_equation_with_each.ensures)

pub factor_equation_with_each-requires-clause-e_there : goal.factor_equation_with_each-requires-clause-e_there
factor_equation_with_each-requires-clause-e_there c = each_at (IsReadIn (clause_of c.args.p.now)) c.args.equations.now c.loop-k.k c.index-equations-k.result c.requires.equations_there c.loop-k-test.true c.index-equations-k.is
