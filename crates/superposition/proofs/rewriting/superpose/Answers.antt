use Rattle.std.proofs.Common.{Ok, IfOk, subst, refl, Some, take, drop}
use Rattle.std.specs.Prelude.{IfErr}
use Rattle.spl_terms.specs.declared.clause.Spot.{Spot}
use Rattle.proof_steps.specs.declared.step.Rule.TheVariants.{Paramodulate}
use Rattle.superposition.specs.Words.{line_of_both}
use Rattle.superposition.specs.Sizes.{RefusesBy, paramodulant_by}
use Rattle.superposition.proofs.Sized.{stopped_early}
use Rattle.calculus.specs.Inferences.{by_entries, rewriting_unifier}
use Rattle.superposition.specs.Appending.{Appended}
use Rattle.superposition.specs.AppendingLaws.{nothing}
use Rattle.superposition.specs.Pairs.{AreRestrictions, raised}
use Rattle.superposition.specs.Readings.{reading_of}
use Rattle.superposition.specs.Walks.{raised_atom}
use Rattle.superposition.proofs.Walked.{equation_within, spot_there, no_superposed_line, paramodulation_is, superposed_line}
use Rattle.superposition.proofs.rewriting.superpose.Goals as goal

pub paramodulant_of-requires-clause-i : goal.paramodulant_of-requires-clause-i
paramodulant_of-requires-clause-i c = equation_within c.args.r c.requires.ready

pub paramodulant_of-requires-clause-spot : goal.paramodulant_of-requires-clause-spot
paramodulant_of-requires-clause-spot c = spot_there c.args.r c.requires.ready c.args.path.now c.in_ok-held.held (raised c.args.r.pair.first c.args.term.now) c.in_ok-held.ensures c.requires.stands

pub returns : goal.returns
returns c =
    let r = c.args.r in
    let pair = r.pair in
    let o = rewriting_unifier pair.both (reading_of r.equation) (raised_atom r) c.args.path.now in
    let parts = subst (AreRestrictions pair.first o) c.in-Some.is (subst (λ x. IfOk x (AreRestrictions pair.first o)) c.in-Ok.is c.unifier_in_order.ensures.ok) in
    subst (λ l. Appended l c.args.out.now.items c.append_from_both.new.out.items c.append_from_both.result)
    (superposed_line r c.requires.ready c.args.path.now parts.0 _ _ c.in_ok-held.held (Some c.in_ok-made.made) parts.1 parts.2 parts.3 c.in_ok-held.ensures
    (paramodulation_is r c.requires.ready c.args.path.now c.no_unifier_is_lost.ensures.superposition (raised pair.first c.args.term.now) c.requires.stands parts.0 _ _ c.in_ok-held.held c.in_ok-made.made parts.1 parts.2 parts.3 c.in_ok-held.ensures c.in_ok-made.ensures))
    c.append_from_both.ensures

pub returns-in_default : goal.returns-in_default
returns-in_default c =
    let r = c.args.r in
    let o = rewriting_unifier r.pair.both (reading_of r.equation) (raised_atom r) c.args.path.now in
    subst (λ l. Appended l c.args.out.now.items c.args.out.now.items (Ok (tt {0})))
    (no_superposed_line r c.requires.ready c.args.path.now (subst (AreRestrictions r.pair.first o) c.in_default.is (subst (λ x. IfOk x (AreRestrictions r.pair.first o)) c.in-Ok.is c.unifier_in_order.ensures.ok)))
    (nothing c.args.out.now.items (tt {0}))

pub returns-in-Err : goal.returns-in-Err
returns-in-Err c =
    let r = c.args.r in
    let pair = r.pair in
    let e = reading_of r.equation in
    let path = c.args.path.now in
    let spot : Spot = record { part = r.part; place = r.place; path = path } in
    let o = rewriting_unifier pair.both e (raised_atom r) path in
    stopped_early o (paramodulant_by pair e.place spot e.right_side) _ c.args.out.now.items c.in-Err.error (subst (λ x. IfErr x (RefusesBy o (paramodulant_by pair e.place spot e.right_side))) c.in-Err.is c.unifier_in_order.ensures.err)
    (λ u unified.
    let s = by_entries (take pair.first u) in
    let t = by_entries (drop pair.first u) in
    let made = paramodulant_by pair e.place spot e.right_side u in
    let built = paramodulation_is r c.requires.ready path c.no_unifier_is_lost.ensures.superposition (raised pair.first c.args.term.now) c.requires.stands u s t path made unified refl refl refl refl in
    (line_of_both pair.p.now pair.q.now (Paramodulate e.place e.right spot s t) made, superposed_line r c.requires.ready path u s t path (Some made) unified refl refl refl built, refl))
