use Rattle.std.proofs.Common.{refl, subst}
use Rattle.spl_terms.specs.declared.clause.Part.TheVariants.{Antecedent}
use Rattle.superposition.specs.Appending.{Appended}
use Rattle.superposition.proofs.Alone.{own_places_below, reflections_are}
use Rattle.superposition.proofs.Resolving.{in_place}
use Rattle.superposition.proofs.own.reflect_premise.Goals as goal

pub reflect_all-requires-clause-below : goal.reflect_all-requires-clause-below
reflect_all-requires-clause-below c =
    let x = c.args.p.now in
    own_places_below x.kept.now Antecedent x.variables x.antecedent.items c.as_slice.result.now c.requires.in_order c.requires.variables c.requires.antecedent c.as_slice.ensures.value

pub returns : goal.returns
returns c =
    let x = c.args.p.now in
    subst (λ l. Appended l c.args.out.now.items c.reflect_all.new.out.items c.reflect_all.result)
    (reflections_are x.kept.now x.antecedent.items c.as_slice.result.now c.requires.antecedent c.as_slice.ensures.value)
    c.reflect_all.ensures

pub reflect_all-requires-clause-there : goal.reflect_all-requires-clause-there
reflect_all-requires-clause-there c =
    let x = c.args.p.now in
    in_place x.kept.now x.kept.now Antecedent x.antecedent.items c.as_slice.result.now refl c.requires.antecedent c.as_slice.ensures.value
