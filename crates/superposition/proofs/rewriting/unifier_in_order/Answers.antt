use Rattle.std.proofs.Common.{◌∙◌, ℕ, Bool, List, Some, ◌&&◌, sym, ap, subst}
use Rattle.spl_terms.specs.declared.term.Term.{Term}
use Rattle.spl_truth.specs.Orders.{is_not_below}
use Rattle.spl_truth.specs.Unifiers.{HasVariablesBelow, unifier}
use Rattle.calculus.specs.Inferences.{is_upper_side}
use Rattle.superposition.specs.declared.rewriting.Rewriting.{Rewriting}
use Rattle.superposition.specs.Pairs.{raised}
use Rattle.superposition.specs.Readings.{reading_of}
use Rattle.superposition.specs.Walks.{raised_atom}
use Rattle.superposition.proofs.Unified.{terms_apart}
use Rattle.superposition.proofs.Bound.{none_left}
use Rattle.superposition.proofs.Walked.{rewriting_of}
use Rattle.superposition.proofs.rewriting.unifier_in_order.Goals as goal

-- the order's test
abbrev kept : Rewriting → List ℕ → List Term → Bool
kept r path u = is_not_below u r.equation.left_side.now r.equation.right_side.now && is_upper_side u (raised_atom r) path

pub returns-then-not-fits-clause-ok : goal.returns-then-not-fits-clause-ok
returns-then-not-fits-clause-ok c =
    let r = c.args.r in
    let left = r.equation.left_side.now in
    rewriting_of r.pair.both (reading_of r.equation) (raised_atom r) c.args.path.now (raised r.pair.first c.args.term.now) c.requires.stands
    ∙ none_left (kept r c.args.path.now) (unifier r.pair.both left (raised r.pair.first c.args.term.now)) (sym (terms_apart c.unifier_is_most_general.ensures r.pair.both r.pair.first left c.args.term.now c.requires.ready.equation.left_below c.requires.below (sym c.fits.ensures ∙ c.if-not-fits.true)))

pub unifier_of_raised-requires-clause-stands : goal.unifier_of_raised-requires-clause-stands
unifier_of_raised-requires-clause-stands c = c.requires.stands ∙ ap Some (sym c.in_ok-higher.ensures)

pub unifier_of_raised-requires-clause-below : goal.unifier_of_raised-requires-clause-below
unifier_of_raised-requires-clause-below c = subst (HasVariablesBelow c.args.r.pair.both) (sym c.in_ok-higher.ensures) c.requires.below
