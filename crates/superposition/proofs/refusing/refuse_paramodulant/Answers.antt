use Rattle.std.proofs.Common.{◌≡◌, ◌∙◌, ◌∷◌, [], true}
use Rattle.std.specs.Prelude.{is_some}
use Rattle.spl_terms.specs.InOrder.{variables}
use Rattle.spl_terms.specs.declared.clause.Spot.{Spot}
use Rattle.spl_truth.specs.Unifiers.{entries_below}
use Rattle.proof_steps.specs.Spots.{term_under, with_term_under}
use Rattle.calculus.specs.Inferences.{clause_of}
use Rattle.unify.specs.Bindings.{substitution}
use Rattle.superposition.specs.Walks.{raised_atom}
use Rattle.superposition.specs.Sizes.{paramodulant_by}
use Rattle.superposition.proofs.Instances.{leads_under}
use Rattle.superposition.proofs.Refused.{held_alone}
use Rattle.superposition.proofs.refusing.refuse_paramodulant.Goals as goal

pub returns : goal.returns
returns c =
    let r = c.args.r in
    let made = c.args.bindings.now.1 in
    let path = c.args.path.now in
    let by = r.equation.right_side.now in
    let spot : Spot = record { part = r.part; place = r.place; path = path } in
    let one : c.as_slice-atoms.result.now ≡ with_term_under path by (raised_atom r) ∷ [] = held_alone _ _ _ _ (with_term_under path by (raised_atom r)) c.as_slice-atoms.ensures c.in_ok-push.ensures.ok c.in_ok-changed.ensures c.in_ok-changed_atom.ensures in
    let leads : is_some (term_under path (raised_atom r)) ≡ true = leads_under (variables (clause_of r.pair.p.now)) path r.atom.now ∙ c.requires.leads in
    c.refuse_big.ensures (paramodulant_by r.pair r.equation.place spot by (entries_below r.pair.both (substitution made)))
    (c.rewritten.ensures path made one leads) (c.rewritten-2.ensures path made one leads) (c.rewritten-3.ensures path made one leads)
