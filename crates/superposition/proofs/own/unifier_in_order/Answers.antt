use Rattle.std.proofs.Common.{◌≡◌, ◌∙◌, Some, Bool, List, false, true, sym, ap, subst}
use Rattle.std.specs.Prelude.{IfErr}
use Rattle.spl_truth.specs.Truth.{apply}
use Rattle.calculus.specs.Inferences.{factoring_unifier}
use Rattle.superposition.specs.Readings.{reading_of}
use Rattle.superposition.specs.Sizes.{Refuses, compared}
use Rattle.superposition.proofs.Sized.{refused_by}
use Rattle.spl_terms.specs.declared.term.Term.{Term}
use Rattle.spl_truth.specs.Orders.{is_not_below}
use Rattle.spl_truth.specs.Unifiers.{entries_below, unifier}
use Rattle.unify.specs.Bindings.{substitution}
use Rattle.superposition.proofs.Bound.{bound_none, bound_triangular, bound_is, bound_entries, upper_there, none_left, one_left}
use Rattle.superposition.proofs.own.unifier_in_order.Goals as goal

pub is_left_upper-requires-clause-triangular : goal.is_left_upper-requires-clause-triangular
is_left_upper-requires-clause-triangular c = bound_triangular c.args.vars c.args.e.left_side.now c.args.d.left_side.now _ c.in_ok-bindings.ensures.exact _ c.in-Some.is

pub written-requires : goal.written-requires
written-requires c = bound_triangular c.args.vars c.args.e.left_side.now c.args.d.left_side.now _ c.in_ok-bindings.ensures.exact _ c.in-Some.is

pub returns-in_default-clause-ok : goal.returns-in_default-clause-ok
returns-in_default-clause-ok c =
    let a = c.args in
    sym (none_left (λ u. is_not_below u a.e.left_side.now a.e.right_side.now) (unifier a.vars a.e.left_side.now a.d.left_side.now) (sym (bound_none a.vars a.e.left_side.now a.d.left_side.now _ c.in_ok-bindings.ensures.exact c.in_default.is)))

pub returns-then-not-high-clause-ok : goal.returns-then-not-high-clause-ok
returns-then-not-high-clause-ok c =
    let a = c.args in
    let bs = c.in-Some.bindings in
    let f : List Term → Bool = λ u. is_not_below u a.e.left_side.now a.e.right_side.now in
    let u : List Term = entries_below a.vars (substitution bs.1) in
    let test : f u ≡ false =
    sym (upper_there u (substitution bs.1) a.e.left_side.now a.e.right_side.now _ (bound_entries a.vars a.e.left_side.now a.d.left_side.now _ c.in_ok-bindings.ensures.exact bs c.in-Some.is c.requires.e_below c.requires.d_below c.in_ok-bindings.ensures.general) c.in_ok-high.ensures)
    ∙ c.if-not-high.true in
    sym (one_left f (unifier a.vars a.e.left_side.now a.d.left_side.now) u false (bound_is a.vars a.e.left_side.now a.d.left_side.now _ c.in_ok-bindings.ensures.exact bs c.in-Some.is) test)

pub returns-clause-ok : goal.returns-clause-ok
returns-clause-ok c =
    let a = c.args in
    let bs = c.in-Some.bindings in
    let f : List Term → Bool = λ u. is_not_below u a.e.left_side.now a.e.right_side.now in
    let u : List Term = entries_below a.vars (substitution bs.1) in
    let test : f u ≡ true =
    sym (upper_there u (substitution bs.1) a.e.left_side.now a.e.right_side.now _ (bound_entries a.vars a.e.left_side.now a.d.left_side.now _ c.in_ok-bindings.ensures.exact bs c.in-Some.is c.requires.e_below c.requires.d_below c.in_ok-bindings.ensures.general) c.in_ok-high.ensures)
    ∙ c.if-not-high.false in
    ap Some c.in_ok-s.ensures ∙ sym (one_left f (unifier a.vars a.e.left_side.now a.d.left_side.now) u true (bound_is a.vars a.e.left_side.now a.d.left_side.now _ c.in_ok-bindings.ensures.exact bs c.in-Some.is) test)

pub refuse_compared-requires-clause-triangular : goal.refuse_compared-requires-clause-triangular
refuse_compared-requires-clause-triangular c = bound_triangular c.args.vars c.args.e.left_side.now c.args.d.left_side.now _ c.in_ok-bindings.ensures.exact _ c.in-Some.is

pub returns-in-Err-clause-err : goal.returns-in-Err-clause-err
returns-in-Err-clause-err c =
    let a = c.args in
    let bs = c.in-Some.bindings in
    let f : List Term → Bool = λ u. is_not_below u a.e.left_side.now a.e.right_side.now in
    let u : List Term = entries_below a.vars (substitution bs.1) in
    let test : f u ≡ true =
    sym (upper_there u (substitution bs.1) a.e.left_side.now a.e.right_side.now _ (bound_entries a.vars a.e.left_side.now a.d.left_side.now _ c.in_ok-bindings.ensures.exact bs c.in-Some.is c.requires.e_below c.requires.d_below c.in_ok-bindings.ensures.general) c.in_ok-high.ensures)
    ∙ c.if-not-high.false in
    let whole = compared a.p.now a.e.place a.e.right_side.now a.d.right_side.now in
    refused_by (factoring_unifier a.vars (reading_of a.e) (reading_of a.d)) (λ u. apply u whole) u c.in-Err.error
    (one_left f (unifier a.vars a.e.left_side.now a.d.left_side.now) u true (bound_is a.vars a.e.left_side.now a.d.left_side.now _ c.in_ok-bindings.ensures.exact bs c.in-Some.is) test)
    (subst (λ x. IfErr x (Refuses (apply u whole))) c.in-Err.is c.refuse_compared.ensures)
