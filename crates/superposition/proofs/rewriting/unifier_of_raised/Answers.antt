use Rattle.std.proofs.Common.{◌≡◌, ◌∙◌, ℕ, Some, None, Bool, List, false, true, ◌&&◌, sym, ap, subst}
use Rattle.std.proofs.Math.Bool.{and-false}
use Rattle.std.specs.Prelude.{is_some, IfErr}
use Rattle.spl_terms.specs.InOrder.{variables}
use Rattle.spl_terms.specs.declared.clause.Spot.{Spot}
use Rattle.spl_terms.specs.declared.clause.Clause.{Clause}
use Rattle.spl_terms.specs.declared.term.Term.{Term}
use Rattle.spl_truth.specs.Truth.{entry}
use Rattle.spl_truth.specs.Orders.{is_not_below}
use Rattle.spl_truth.specs.Unifiers.{entries_below, unifier}
use Rattle.calculus.specs.Inferences.{clause_of, is_upper_side, rewriting_unifier}
use Rattle.unify.specs.Bindings.{substitution}
use Rattle.superposition.specs.declared.rewriting.Rewriting.{Rewriting}
use Rattle.superposition.specs.Pairs.{AreRestrictions}
use Rattle.superposition.specs.Readings.{reading_of}
use Rattle.superposition.specs.Walks.{raised_atom}
use Rattle.superposition.proofs.Bound.{bound_none, bound_triangular, bound_is, bound_entries, upper_there, none_left, one_left}
use Rattle.superposition.specs.Sizes.{paramodulant_by, Refuses}
use Rattle.superposition.proofs.Instances.{leads_under}
use Rattle.superposition.proofs.Sized.{refused_by}
use Rattle.superposition.proofs.Walked.{rewriting_of}
use Rattle.superposition.proofs.rewriting.unifier_of_raised.Goals as goal

-- the order's test
abbrev kept : Rewriting → List ℕ → List Term → Bool
kept r path u = is_not_below u r.equation.left_side.now r.equation.right_side.now && is_upper_side u (raised_atom r) path

pub is_left_upper-requires-clause-triangular : goal.is_left_upper-requires-clause-triangular
is_left_upper-requires-clause-triangular c = bound_triangular c.args.r.pair.both c.args.r.equation.left_side.now c.args.term.now _ c.in_ok-bindings.ensures.exact _ c.in-Some.is

pub is_path_upper-requires-clause-triangular : goal.is_path_upper-requires-clause-triangular
is_path_upper-requires-clause-triangular c = bound_triangular c.args.r.pair.both c.args.r.equation.left_side.now c.args.term.now _ c.in_ok-bindings.ensures.exact _ c.in-Some.is

pub restrictions-requires-clause-triangular : goal.restrictions-requires-clause-triangular
restrictions-requires-clause-triangular c = bound_triangular c.args.r.pair.both c.args.r.equation.left_side.now c.args.term.now _ c.in_ok-bindings.ensures.exact _ c.in-Some.is

pub returns-in_default-clause-ok : goal.returns-in_default-clause-ok
returns-in_default-clause-ok c =
    let r = c.args.r in
    let left = r.equation.left_side.now in
    let none : None ≡ unifier r.pair.both left c.args.term.now = bound_none r.pair.both left c.args.term.now _ c.in_ok-bindings.ensures.exact c.in_default.is in
    rewriting_of r.pair.both (reading_of r.equation) (raised_atom r) c.args.path.now c.args.term.now c.requires.stands
    ∙ none_left (kept r c.args.path.now) (unifier r.pair.both left c.args.term.now) (sym (none))

pub returns-then-not-high-clause-ok : goal.returns-then-not-high-clause-ok
returns-then-not-high-clause-ok c =
    let r = c.args.r in
    let bs = c.in-Some.bindings in
    let left = r.equation.left_side.now in
    let u : List Term = entries_below r.pair.both (substitution bs.1) in
    let unified : unifier r.pair.both left c.args.term.now ≡ Some u = bound_is r.pair.both left c.args.term.now _ c.in_ok-bindings.ensures.exact bs c.in-Some.is in
    let entries : entry u ≡ substitution bs.1 = bound_entries r.pair.both left c.args.term.now _ c.in_ok-bindings.ensures.exact bs c.in-Some.is c.requires.ready.equation.left_below c.requires.below c.in_ok-bindings.ensures.general in
    let low : is_not_below u left r.equation.right_side.now ≡ false = sym (upper_there u (substitution bs.1) left r.equation.right_side.now _ entries c.in_ok-high.ensures) ∙ c.if-not-high.true in
    rewriting_of r.pair.both (reading_of r.equation) (raised_atom r) c.args.path.now c.args.term.now c.requires.stands
    ∙ one_left (kept r c.args.path.now) (unifier r.pair.both left c.args.term.now) u false unified (ap (λ x. x && is_upper_side u (raised_atom r) c.args.path.now) low)

pub returns-then-not-upper-clause-ok : goal.returns-then-not-upper-clause-ok
returns-then-not-upper-clause-ok c =
    let r = c.args.r in
    let bs = c.in-Some.bindings in
    let left = r.equation.left_side.now in
    let u : List Term = entries_below r.pair.both (substitution bs.1) in
    let unified : unifier r.pair.both left c.args.term.now ≡ Some u = bound_is r.pair.both left c.args.term.now _ c.in_ok-bindings.ensures.exact bs c.in-Some.is in
    let entries : entry u ≡ substitution bs.1 = bound_entries r.pair.both left c.args.term.now _ c.in_ok-bindings.ensures.exact bs c.in-Some.is c.requires.ready.equation.left_below c.requires.below c.in_ok-bindings.ensures.general in
    let low : is_upper_side u (raised_atom r) c.args.path.now ≡ false = sym (c.in_ok-upper.ensures u entries) ∙ c.if-not-upper.true in
    rewriting_of r.pair.both (reading_of r.equation) (raised_atom r) c.args.path.now c.args.term.now c.requires.stands
    ∙ one_left (kept r c.args.path.now) (unifier r.pair.both left c.args.term.now) u false unified (ap (λ x. is_not_below u left r.equation.right_side.now && x) low ∙ and-false _)

pub refuse_paramodulant-requires-clause-triangular : goal.refuse_paramodulant-requires-clause-triangular
refuse_paramodulant-requires-clause-triangular c = bound_triangular c.args.r.pair.both c.args.r.equation.left_side.now c.args.term.now _ c.in_ok-bindings.ensures.exact _ c.in-Some.is

pub refuse_paramodulant-requires-clause-leads : goal.refuse_paramodulant-requires-clause-leads
refuse_paramodulant-requires-clause-leads c = sym (leads_under (variables (clause_of c.args.r.pair.p.now)) c.args.path.now c.args.r.atom.now) ∙ ap is_some c.requires.stands

pub returns-in-Err-clause-err : goal.returns-in-Err-clause-err
returns-in-Err-clause-err c =
    let r = c.args.r in
    let bs = c.in-Some.bindings in
    let left = r.equation.left_side.now in
    let u : List Term = entries_below r.pair.both (substitution bs.1) in
    let unified : unifier r.pair.both left c.args.term.now ≡ Some u = bound_is r.pair.both left c.args.term.now _ c.in_ok-bindings.ensures.exact bs c.in-Some.is in
    let entries : entry u ≡ substitution bs.1 = bound_entries r.pair.both left c.args.term.now _ c.in_ok-bindings.ensures.exact bs c.in-Some.is c.requires.ready.equation.left_below c.requires.below c.in_ok-bindings.ensures.general in
    let high : is_not_below u left r.equation.right_side.now ≡ true = sym (upper_there u (substitution bs.1) left r.equation.right_side.now _ entries c.in_ok-high.ensures) ∙ c.if-not-high.false in
    let upper : is_upper_side u (raised_atom r) c.args.path.now ≡ true = sym (c.in_ok-upper.ensures u entries) ∙ c.if-not-upper.false in
    let is : rewriting_unifier r.pair.both (reading_of r.equation) (raised_atom r) c.args.path.now ≡ Some u =
    rewriting_of r.pair.both (reading_of r.equation) (raised_atom r) c.args.path.now c.args.term.now c.requires.stands
    ∙ one_left (kept r c.args.path.now) (unifier r.pair.both left c.args.term.now) u true unified (λ k. high k && upper k) in
    let spot : Spot = record { part = r.part; place = r.place; path = c.args.path.now } in
    let conclusion : List Term → Clause = paramodulant_by r.pair r.equation.place spot r.equation.right_side.now in
    refused_by (rewriting_unifier r.pair.both (reading_of r.equation) (raised_atom r) c.args.path.now) conclusion u c.in-Err.error is (subst (λ x. IfErr x (Refuses (conclusion u))) c.in-Err.is c.refuse_paramodulant.ensures)

pub returns-clause-ok : goal.returns-clause-ok
returns-clause-ok c =
    let r = c.args.r in
    let bs = c.in-Some.bindings in
    let left = r.equation.left_side.now in
    let u : List Term = entries_below r.pair.both (substitution bs.1) in
    let unified : unifier r.pair.both left c.args.term.now ≡ Some u = bound_is r.pair.both left c.args.term.now _ c.in_ok-bindings.ensures.exact bs c.in-Some.is in
    let entries : entry u ≡ substitution bs.1 = bound_entries r.pair.both left c.args.term.now _ c.in_ok-bindings.ensures.exact bs c.in-Some.is c.requires.ready.equation.left_below c.requires.below c.in_ok-bindings.ensures.general in
    let high : is_not_below u left r.equation.right_side.now ≡ true = sym (upper_there u (substitution bs.1) left r.equation.right_side.now _ entries c.in_ok-high.ensures) ∙ c.if-not-high.false in
    let upper : is_upper_side u (raised_atom r) c.args.path.now ≡ true = sym (c.in_ok-upper.ensures u entries) ∙ c.if-not-upper.false in
    let is : rewriting_unifier r.pair.both (reading_of r.equation) (raised_atom r) c.args.path.now ≡ Some u =
    rewriting_of r.pair.both (reading_of r.equation) (raised_atom r) c.args.path.now c.args.term.now c.requires.stands
    ∙ one_left (kept r c.args.path.now) (unifier r.pair.both left c.args.term.now) u true unified (λ k. high k && upper k) in
    subst (λ o. AreRestrictions r.pair.first o (Some c.in_ok-both.both)) (sym is) c.in_ok-both.ensures
