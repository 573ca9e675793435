use Rattle.std.proofs.Common.{Ok, sym, subst}
use Rattle.std.specs.List.{enumerate_from}
use Rattle.spl_terms.specs.declared.clause.Part.TheVariants.{Succedent}
use Rattle.calculus.specs.Inferences.{clause_of, eligible_in}
use Rattle.superposition.specs.Appending.{Appended}
use Rattle.superposition.specs.AppendingLaws.{nothing}
use Rattle.superposition.specs.Readings.{AreJudged}
use Rattle.superposition.proofs.Alone.{read_are, own_equations_below, all_equations_below, equality_factorings_are, no_equality_factorings}
use Rattle.superposition.proofs.Resolving.{eligible_there, all_there}
use Rattle.superposition.proofs.Walked.{read_in}
use Rattle.superposition.proofs.own.factor_equations_of.Goals as goal

pub factor_equations-requires-clause-equations_below : goal.factor_equations-requires-clause-equations_below
factor_equations-requires-clause-equations_below c =
    let x = c.args.p.now in
    own_equations_below x.kept.now x.variables x.equations.items c.as_slice-equations.result.now c.requires.in_order c.requires.variables c.requires.equations c.as_slice-equations.ensures.value

pub factor_equations-requires-clause-others_below : goal.factor_equations-requires-clause-others_below
factor_equations-requires-clause-others_below c =
    let x = c.args.p.now in
    all_equations_below x.kept.now x.variables c.in_ok-others.others.items c.as_slice-2.result.now c.requires.in_order c.requires.variables
    (read_are (enumerate_from 0 (clause_of x.kept.now).succedent) c.in_ok-atoms.atoms.items c.as_slice.result.now c.in_ok-others.others.items c.in_ok-atoms.ensures c.as_slice.ensures.value c.in_ok-others.ensures.readings)
    c.as_slice-2.ensures.value

pub factor_equations-requires-clause-judged : goal.factor_equations-requires-clause-judged
factor_equations-requires-clause-judged c = subst AreJudged (sym c.as_slice-equations.ensures.value) c.requires.judged

pub returns-then-equations-eq0 : goal.returns-then-equations-eq0
returns-then-equations-eq0 c =
    let x = c.args.p.now in
    subst (λ l. Appended l c.args.out.now.items c.args.out.now.items (Ok (tt {0})))
    (no_equality_factorings x.kept.now x.equations.items c.as_slice-equations.result.now c.requires.equations c.as_slice-equations.ensures.value c.if-equations-eq0.true)
    (nothing c.args.out.now.items (tt {0}))

pub returns : goal.returns
returns c =
    let x = c.args.p.now in
    subst (λ l. Appended l c.args.out.now.items c.factor_equations.new.out.items c.factor_equations.result)
    (equality_factorings_are x.kept.now x.equations.items c.as_slice-equations.result.now c.in_ok-others.others.items c.as_slice-2.result.now
    c.requires.equations
    c.as_slice-equations.ensures.value
    (read_are (enumerate_from 0 (clause_of x.kept.now).succedent) c.in_ok-atoms.atoms.items c.as_slice.result.now c.in_ok-others.others.items c.in_ok-atoms.ensures c.as_slice.ensures.value c.in_ok-others.ensures.readings)
    c.as_slice-2.ensures.value)
    c.factor_equations.ensures

pub factor_equations-requires-clause-equations_there : goal.factor_equations-requires-clause-equations_there
factor_equations-requires-clause-equations_there c =
    let x = c.args.p.now in
    read_in x.kept.now (eligible_in x.kept.now Succedent) x.equations.items c.as_slice-equations.result.now (eligible_there x.kept.now Succedent) c.requires.equations c.as_slice-equations.ensures.value

pub factor_equations-requires-clause-others_there : goal.factor_equations-requires-clause-others_there
factor_equations-requires-clause-others_there c =
    let x = c.args.p.now in
    let all = enumerate_from 0 (clause_of x.kept.now).succedent in
    read_in x.kept.now all c.in_ok-others.others.items c.as_slice-2.result.now (all_there x.kept.now Succedent)
    (read_are all c.in_ok-atoms.atoms.items c.as_slice.result.now c.in_ok-others.others.items c.in_ok-atoms.ensures c.as_slice.ensures.value c.in_ok-others.ensures.readings)
    c.as_slice-2.ensures.value
