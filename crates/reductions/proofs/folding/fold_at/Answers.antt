use Rattle.spl_terms.specs.Clauses.{part_of}
use Rattle.reductions.specs.Folding.{AreMapped, Folds, plain, remainder}
use Rattle.reductions.proofs.Searching.{Among, same_search}
use Rattle.reductions.proofs.Mapping.{atom_below, atom_there, mapped_folds, folds_mapped}
use Rattle.reductions.proofs.folding.fold_at.Goals as goal

pub map_first-requires-clause-below : goal.map_first-requires-clause-below
map_first-requires-clause-below c =
    atom_below _ c.args.into.clause.now (plain c.args.atoms.now) c.requires.atoms c.requires.below c.args.into.part c.args.into.place c.index-part-into.result
    (atom_there _ _ _ _ c.requires.there c.part.ensures c.index-part-into.is)

pub returns : goal.returns
returns c =
    let e = c.args.into.clause.now in
    let part = c.args.into.part in
    let place = c.args.into.place in
    same_search (Among (λ g. AreMapped g (remainder c.args.into) (plain c.args.atoms.now)) c.index-part-into.result (part_of (remainder c.args.into) part)) (λ g. Folds g part place e) c.args.found.now c.map_first.new.found _
    (λ g x. mapped_folds e part place (plain c.args.atoms.now) c.requires.atoms c.requires.there g x.1)
    (λ g f. (f.maps part place c.index-part-into.result (atom_there _ _ _ _ c.requires.there c.part.ensures c.index-part-into.is), folds_mapped e part place (plain c.args.atoms.now) c.requires.atoms c.requires.there g f))
    c.in_ok-mapped.ensures
