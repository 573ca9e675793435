use Rattle.std.proofs.Common.{subst}
use Rattle.spl_terms.specs.declared.clause.Part.TheVariants.{Antecedent, Succedent}
use Rattle.superposition.specs.Appending.{Appended}
use Rattle.superposition.proofs.Resolving.{in_place}
use Rattle.superposition.proofs.Walked.{usable_equations, superpositions_are}
use Rattle.superposition.proofs.rewriting.superpose_premises.Goals as goal

pub superpose_all-requires-clause-equations : goal.superpose_all-requires-clause-equations
superpose_all-requires-clause-equations c =
    let x = c.args.p.now in
    usable_equations c.in-Some.pair c.in-Some.ensures.2 x.kept.now c.in-Some.ensures.0 x.equations.items c.as_slice.result.now c.requires.p_found.equations c.requires.p_found.judged c.as_slice.ensures.value

pub superpose_all-requires-clause-antecedent : goal.superpose_all-requires-clause-antecedent
superpose_all-requires-clause-antecedent c =
    let y = c.args.q.now in
    in_place y.kept.now c.in-Some.pair.q.now Antecedent y.antecedent.items c.as_slice-2.result.now c.in-Some.ensures.1 c.requires.q_found.antecedent c.as_slice-2.ensures.value

pub superpose_all-requires-clause-succedent : goal.superpose_all-requires-clause-succedent
superpose_all-requires-clause-succedent c =
    let y = c.args.q.now in
    in_place y.kept.now c.in-Some.pair.q.now Succedent y.succedent.items c.as_slice-3.result.now c.in-Some.ensures.1 c.requires.q_found.succedent c.as_slice-3.ensures.value

pub returns : goal.returns
returns c =
    let x = c.args.p.now in
    let y = c.args.q.now in
    subst (λ l. Appended l c.args.out.now.items c.superpose_all.new.out.items c.superpose_all.result)
    (superpositions_are x.kept.now y.kept.now c.in-Some.pair.p.now c.in-Some.pair.q.now x.equations.items c.as_slice.result.now y.antecedent.items c.as_slice-2.result.now y.succedent.items c.as_slice-3.result.now c.in-Some.ensures.0 c.in-Some.ensures.1 c.requires.p_found.equations c.as_slice.ensures.value c.requires.q_found.antecedent c.as_slice-2.ensures.value c.requires.q_found.succedent c.as_slice-3.ensures.value)
    c.superpose_all.ensures
