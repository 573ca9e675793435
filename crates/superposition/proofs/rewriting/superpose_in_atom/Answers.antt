use Rattle.std.proofs.Common.{[], ◌++◌, ◌∷◌, ◌∙◌, map, sym, ap, subst}
use Rattle.std.specs.Prelude.{slice_get}
use Rattle.std.specs.List.{flat_map, enumerate_from}
use Rattle.spl_truth.specs.Unifiers.{HaveVariablesBelow}
use Rattle.proof_steps.specs.Spots.{term_under}
use Rattle.superposition.specs.Appending.{Appended}
use Rattle.superposition.specs.Pairs.{raised}
use Rattle.superposition.specs.Walks.{raised_atom, IsUpperAt, rewrite_argument}
use Rattle.superposition.proofs.Walked.{walk_predicate, arguments_there, arguments_below, holds_upper}
use Rattle.superposition.proofs.rewriting.superpose_in_atom.Goals as goal

pub superpose_in_arguments-requires-clause-stand : goal.superpose_in_arguments-requires-clause-stand
superpose_in_arguments-requires-clause-stand c = λ k t there.
    ap (λ p. term_under (p ++ k ∷ []) (raised_atom c.args.r)) c.new-path.ensures.items
    ∙ arguments_there c.args.r c.requires c.in-Holds.field-0 c.in-Holds.args c.in-Holds.is k t (ap (λ l. slice_get l k) (sym c.as_slice.ensures) ∙ there)

pub superpose_in_arguments-requires-clause-below : goal.superpose_in_arguments-requires-clause-below
superpose_in_arguments-requires-clause-below c =
    let pair = c.args.r.pair in
    subst (λ l. HaveVariablesBelow pair.both (map (raised pair.first) l)) (sym c.as_slice.ensures) (arguments_below c.args.r c.requires c.in-Holds.field-0 c.in-Holds.args c.in-Holds.is)

pub superpose_in_arguments-requires-clause-upper : goal.superpose_in_arguments-requires-clause-upper
superpose_in_arguments-requires-clause-upper c = λ k.
    subst (λ p. IsUpperAt c.args.r (p ++ k ∷ [])) (sym c.new-path.ensures.items) (holds_upper c.args.r c.requires c.in-Holds.field-0 c.in-Holds.args c.in-Holds.is k)

pub returns-in-Holds : goal.returns-in-Holds
returns-in-Holds c =
    let r = c.args.r in
    subst (λ l. Appended l c.args.out.now.items c.superpose_in_arguments.new.out.items c.superpose_in_arguments.result)
    ((λ k. flat_map (rewrite_argument r (c.new-path.ensures.items k)) (enumerate_from 0 (c.as_slice.ensures k))) ∙ walk_predicate r r.atom.now c.in-Holds.field-0 c.in-Holds.args c.in-Holds.is)
    c.superpose_in_arguments.ensures.appended
