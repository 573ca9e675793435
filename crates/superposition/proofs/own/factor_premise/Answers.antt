use Rattle.std.proofs.Common.{subst}
use Rattle.spl_terms.specs.declared.clause.Part.TheVariants.{Succedent}
use Rattle.superposition.specs.Appending.{Appended}
use Rattle.superposition.proofs.Alone.{own_places_below, own_atoms_below, factorings_are}
use Rattle.superposition.proofs.own.factor_premise.Goals as goal

pub factor_all-requires-clause-places_below : goal.factor_all-requires-clause-places_below
factor_all-requires-clause-places_below c =
    let x = c.args.p.now in
    own_places_below x.kept.now Succedent x.variables x.succedent.items c.as_slice-places.result.now c.requires.in_order c.requires.variables c.requires.succedent c.as_slice-places.ensures.value

pub factor_all-requires-clause-atoms_below : goal.factor_all-requires-clause-atoms_below
factor_all-requires-clause-atoms_below c =
    let x = c.args.p.now in
    own_atoms_below x.kept.now Succedent x.variables c.in_ok-atoms.atoms.items c.as_slice.result.now c.requires.in_order c.requires.variables c.in_ok-atoms.ensures c.as_slice.ensures.value

pub returns : goal.returns
returns c =
    let x = c.args.p.now in
    subst (λ l. Appended l c.args.out.now.items c.factor_all.new.out.items c.factor_all.result)
    (factorings_are x.kept.now x.succedent.items c.as_slice-places.result.now c.in_ok-atoms.atoms.items c.as_slice.result.now c.requires.succedent c.as_slice-places.ensures.value c.in_ok-atoms.ensures c.as_slice.ensures.value)
    c.factor_all.ensures
