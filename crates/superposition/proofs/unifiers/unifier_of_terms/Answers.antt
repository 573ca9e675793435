use Rattle.std.proofs.Common.{◌∙◌, List, Some, sym, ap, subst}
use Rattle.std.specs.Prelude.{IfErr}
use Rattle.spl_terms.specs.declared.term.Term.{Term}
use Rattle.spl_truth.specs.Unifiers.{entries_below, unifier}
use Rattle.unify.specs.Bindings.{substitution}
use Rattle.superposition.specs.Sizes.{Refuses, reflected_by}
use Rattle.superposition.proofs.Sized.{refused_by}
use Rattle.superposition.proofs.Bound.{bound_none, bound_triangular, bound_is}
use Rattle.superposition.proofs.unifiers.unifier_of_terms.Goals as goal

pub refuse_reflected-requires-clause-triangular : goal.refuse_reflected-requires-clause-triangular
refuse_reflected-requires-clause-triangular c = bound_triangular c.args.vars c.args.left.now c.args.right.now _ c.in_ok-bindings.ensures.exact _ c.in-Some.is

pub written-requires : goal.written-requires
written-requires c = bound_triangular c.args.vars c.args.left.now c.args.right.now _ c.in_ok-bindings.ensures.exact _ c.in-Some.is

pub returns-in_default-clause-ok : goal.returns-in_default-clause-ok
returns-in_default-clause-ok c = bound_none c.args.vars c.args.left.now c.args.right.now _ c.in_ok-bindings.ensures.exact c.in_default.is

pub returns-in-Err-clause-err : goal.returns-in-Err-clause-err
returns-in-Err-clause-err c =
    let a = c.args in
    let bs = c.in-Some.bindings in
    let u : List Term = entries_below a.vars (substitution bs.1) in
    refused_by (unifier a.vars a.left.now a.right.now) (reflected_by a.p.now a.j) u c.in-Err.error
    (bound_is a.vars a.left.now a.right.now _ c.in_ok-bindings.ensures.exact bs c.in-Some.is)
    (subst (λ x. IfErr x (Refuses (reflected_by a.p.now a.j u))) c.in-Err.is c.refuse_reflected.ensures)

pub returns-clause-ok : goal.returns-clause-ok
returns-clause-ok c = ap Some c.in_ok-s.ensures ∙ sym (bound_is c.args.vars c.args.left.now c.args.right.now _ c.in_ok-bindings.ensures.exact c.in-Some.bindings c.in-Some.is)
