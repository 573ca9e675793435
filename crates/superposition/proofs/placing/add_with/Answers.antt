use Rattle.std.proofs.Common.{◌≡◌, ◌∙◌, ◌+◌, ◌++◌, ◌∷◌, [], ℕ, List, OnOk, map, take, drop, ap, subst, append_assoc}
use Rattle.spl_terms.specs.declared.atom.Atom.{Atom}
use Rattle.spl_terms.specs.Clauses.{replace_in_atom}
use Rattle.spl_truth.specs.Truth.{entry}
use Rattle.proof_steps.specs.Spots.{term_under, with_term_under}
use Rattle.superposition.proofs.Instances.{take_rest, place_within, changed_instances}
use Rattle.superposition.proofs.placing.add_with.Goals as goal

pub returns : goal.returns
returns c =
    let atoms = c.args.atoms.now in
    let k : ℕ = c.args.spot.now.place in
    let x : Atom = c.index-atoms-k.result in
    let g : Atom → Atom = replace_in_atom (entry c.args.entries.now) in
    let f : Atom → Atom = with_term_under c.args.spot.now.path c.args.new in
    let old : List Atom = c.args.made.now in
    let behind : List Atom = drop (k + 1) atoms in
    let changed : c.in_ok-atom_with.field-0 ≡ f (g x) = c.in_ok-atom_with.ensures ∙ ap (λ p. with_term_under p c.args.new (g x)) c.as_slice.ensures in
    subst (λ l. OnOk c.add_instances-2.result (c.add_instances-2.new.made ≡ l))
    (ap (λ l. c.push.new.self ++ map g l) (take_rest (k + 1) atoms)
    ∙ ap (λ l. l ++ map g behind) c.in_ok-push.ensures.ok
    ∙ (λ i. (c.in_ok-add_instances.ensures i ++ changed i ∷ []) ++ map g behind)
    ∙ append_assoc (old ++ map g (take k atoms)) (f (g x) ∷ []) (map g behind)
    ∙ append_assoc old (map g (take k atoms)) (f (g x) ∷ map g behind)
    ∙ ap (λ l. old ++ l) (changed_instances k f g atoms x (place_within (term_under c.args.spot.now.path) atoms k c.requires) c.index-atoms-k.is))
    c.add_instances-2.ensures
