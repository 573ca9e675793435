use Rattle.std.proofs.Common.{◌∙◌, ◌++◌, List, map, sym, ap}
use Rattle.std.proofs.lemmas.List.{map-append}
use Rattle.spl_terms.specs.declared.atom.Atom.{Atom}
use Rattle.spl_terms.specs.Clauses.{part_of, replace_in_atom}
use Rattle.spl_truth.specs.Truth.{entry}
use Rattle.proof_steps.specs.Spots.{changed_at, with_term_under}
use Rattle.superposition.proofs.building.rewritten_part.Goals as goal

pub returns : goal.returns
returns c =
    let a = c.args in
    let spot = a.spot.now in
    let f : Atom → Atom = with_term_under spot.path a.new in
    let g : Atom → Atom = replace_in_atom (entry a.p.1.now.terms) in
    let before : List Atom = c.left_of.result.0.now in
    let behind : List Atom = c.left_of.result.1.now in
    let rest : List Atom = changed_at spot.place f (map (replace_in_atom (entry a.q.1.now.terms)) (part_of a.q.0.now spot.part)) in
    c.in_ok-add_with.ensures
    ∙ (λ i. c.in_ok-add_instances-2.ensures i ++ changed_at spot.place f (map (replace_in_atom (entry (c.as_slice-3.ensures i))) (c.part-atoms.ensures i)))
    ∙ (λ i. (c.in_ok-add_instances.ensures i ++ map (replace_in_atom (entry (c.as_slice-2.ensures i))) behind) ++ rest)
    ∙ (λ i. ((c.in_ok-made.ensures i ++ map (replace_in_atom (entry (c.as_slice.ensures i))) before) ++ map g behind) ++ rest)
    ∙ ap (λ l. l ++ rest) (sym (map-append g before behind) ∙ ap (map g) c.left_of.ensures)
