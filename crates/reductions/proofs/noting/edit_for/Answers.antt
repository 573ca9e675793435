use Rattle.std.proofs.Common.{map, ap, subst, ◌∙◌}
use Rattle.spl_terms.specs.Terms.{replace}
use Rattle.spl_terms.specs.Clauses.{replace_in_atom}
use Rattle.spl_truth.specs.Truth.{entry}
use Rattle.reductions.specs.Chains.{IsMovedPath}
use Rattle.reductions.proofs.Imaged.{image_place, image_low, image_same, image_edit}
use Rattle.reductions.proofs.Stating.{given_some}
use Rattle.reductions.proofs.noting.edit_for.Goals as goal

pub unwrap-place-requires : goal.unwrap-place-requires
unwrap-place-requires c =
    image_place c.args.current.now c.args.now.now c.unwrap-by.result c.args.rewriting.spot.now.part c.args.rewriting.spot.now.place c.requires.there c.part.result.now c.part-atoms.result.now c.index-part-spot.result c.in_ok-image.image
    (given_some _ _ _ _ c.unwrap-by.ensures c.in_ok-subsumes.ensures) c.part.ensures c.index-part-spot.is (c.in_ok-image.ensures ∙ ap (λ l. replace_in_atom (entry l) c.index-part-spot.result) c.as_slice.ensures) c.part-atoms.ensures c.place_of.result c.place_of.ensures

pub bounds-atoms-place : goal.bounds-atoms-place
bounds-atoms-place c =
    image_low c.args.current.now c.args.now.now c.unwrap-by.result c.args.rewriting.spot.now.part c.args.rewriting.spot.now.place c.requires.there c.part.result.now c.part-atoms.result.now c.index-part-spot.result c.in_ok-image.image
    (given_some _ _ _ _ c.unwrap-by.ensures c.in_ok-subsumes.ensures) c.part.ensures c.index-part-spot.is (c.in_ok-image.ensures ∙ ap (λ l. replace_in_atom (entry l) c.index-part-spot.result) c.as_slice.ensures) c.part-atoms.ensures c.place_of.result c.unwrap-place.result c.place_of.ensures c.unwrap-place.ensures

pub moved_path-requires : goal.moved_path-requires
moved_path-requires c =
    image_same c.args.current.now c.args.now.now c.unwrap-by.result c.args.rewriting.spot.now.part c.args.rewriting.spot.now.place c.requires.there c.part.result.now c.part-atoms.result.now c.index-part-spot.result c.in_ok-image.image
    (given_some _ _ _ _ c.unwrap-by.ensures c.in_ok-subsumes.ensures) c.part.ensures c.index-part-spot.is (c.in_ok-image.ensures ∙ ap (λ l. replace_in_atom (entry l) c.index-part-spot.result) c.as_slice.ensures) c.part-atoms.ensures c.place_of.result c.unwrap-place.result c.place_of.ensures c.unwrap-place.ensures
    c.index-atoms-place.result c.index-atoms-place.is

pub returns : goal.returns
returns c =
    image_edit c.args.current.now c.args.now.now c.unwrap-by.result c.args.rewriting.spot.now.part c.args.rewriting.spot.now.place c.requires.there c.part.result.now c.part-atoms.result.now c.index-part-spot.result c.in_ok-image.image
    (given_some _ _ _ _ c.unwrap-by.ensures c.in_ok-subsumes.ensures) c.part.ensures c.index-part-spot.is (c.in_ok-image.ensures ∙ ap (λ l. replace_in_atom (entry l) c.index-part-spot.result) c.as_slice.ensures) c.part-atoms.ensures c.place_of.result c.unwrap-place.result c.place_of.ensures c.unwrap-place.ensures
    c.index-atoms-place.result c.index-atoms-place.is c.args.rewriting.equation c.args.rewriting.right_to_left c.args.rewriting.spot.now.path c.args.rewriting.s.now c.in_ok-path.path c.in_ok-terms.terms
    (subst (λ l. IsMovedPath c.in_ok-image.image c.index-atoms-place.result l c.in_ok-path.path) c.as_slice-2.ensures c.in_ok-path.ensures)
    (c.in_ok-terms.ensures ∙ (λ i. map (replace (entry (c.as_slice-3.ensures i))) (c.as_slice-4.ensures i)))
