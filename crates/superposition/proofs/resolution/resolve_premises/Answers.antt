use Rattle.std.proofs.Common.{subst}
use Rattle.spl_terms.specs.declared.clause.Part.TheVariants.{Antecedent, Succedent}
use Rattle.superposition.specs.Appending.{Appended}
use Rattle.superposition.proofs.Resolving.{in_place, resolutions_are}
use Rattle.superposition.proofs.resolution.resolve_premises.Goals as goal

pub resolve_all-requires-clause-places : goal.resolve_all-requires-clause-places
resolve_all-requires-clause-places c =
    let x = c.args.p.now in
    in_place x.kept.now c.in-Some.pair.p.now Succedent x.succedent.items c.as_slice.result.now c.in-Some.ensures.0 c.requires.p_found.succedent c.as_slice.ensures.value

pub resolve_all-requires-clause-atoms : goal.resolve_all-requires-clause-atoms
resolve_all-requires-clause-atoms c =
    let x = c.args.q.now in
    in_place x.kept.now c.in-Some.pair.q.now Antecedent x.antecedent.items c.as_slice-2.result.now c.in-Some.ensures.1 c.requires.q_found.antecedent c.as_slice-2.ensures.value

pub returns : goal.returns
returns c =
    let x = c.args.p.now in
    let y = c.args.q.now in
    subst (λ l. Appended l c.args.out.now.items c.resolve_all.new.out.items c.resolve_all.result)
    (resolutions_are Antecedent x.kept.now y.kept.now c.in-Some.pair.p.now c.in-Some.pair.q.now x.succedent.items c.as_slice.result.now y.antecedent.items c.as_slice-2.result.now c.in-Some.ensures.0 c.in-Some.ensures.1 c.requires.p_found.succedent c.as_slice.ensures.value c.requires.q_found.antecedent c.as_slice-2.ensures.value)
    c.resolve_all.ensures
