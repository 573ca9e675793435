use Rattle.std.proofs.Common.{subst}
use Rattle.spl_terms.specs.declared.clause.Part.TheVariants.{Succedent}
use Rattle.superposition.specs.Appending.{Appended}
use Rattle.superposition.proofs.Resolving.{in_place, resolutions_are}
use Rattle.superposition.proofs.resolution.resolutions.Goals as goal

pub resolve_all-requires-clause-places : goal.resolve_all-requires-clause-places
resolve_all-requires-clause-places c = in_place c.args.p.now c.in-Some.pair.p.now Succedent c.in_ok-places.places.items c.as_slice.result.now c.in-Some.ensures.0 c.in_ok-places.ensures c.as_slice.ensures.value

pub resolve_all-requires-clause-atoms : goal.resolve_all-requires-clause-atoms
resolve_all-requires-clause-atoms c = in_place c.args.q.now c.in-Some.pair.q.now c.args.part c.in_ok-atoms.atoms.items c.as_slice-2.result.now c.in-Some.ensures.1 c.in_ok-atoms.ensures c.as_slice-2.ensures.value

pub returns : goal.returns
returns c =
    let a = c.args in
    subst (λ l. Appended l a.out.now.items c.resolve_all.new.out.items c.resolve_all.result)
    (resolutions_are a.part a.p.now a.q.now c.in-Some.pair.p.now c.in-Some.pair.q.now c.in_ok-places.places.items c.as_slice.result.now c.in_ok-atoms.atoms.items c.as_slice-2.result.now c.in-Some.ensures.0 c.in-Some.ensures.1 c.in_ok-places.ensures c.as_slice.ensures.value c.in_ok-atoms.ensures c.as_slice-2.ensures.value)
    c.resolve_all.ensures
