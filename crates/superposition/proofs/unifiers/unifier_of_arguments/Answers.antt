use Rattle.std.proofs.Common.{◌∙◌, List, Some, sym, ap, subst}
use Rattle.std.specs.Prelude.{IfErr}
use Rattle.spl_terms.specs.declared.term.Kind.TheVariants.{Function}
use Rattle.spl_terms.specs.declared.term.Symbol.{Symbol}
use Rattle.spl_terms.specs.declared.term.Term.{Term, App}
use Rattle.spl_truth.specs.Truth.{apply}
use Rattle.spl_truth.specs.Unifiers.{entries_below, unifier}
use Rattle.unify.specs.Bindings.{substitution}
use Rattle.superposition.specs.Sizes.{Refuses}
use Rattle.superposition.proofs.Sized.{refused_by}
use Rattle.superposition.proofs.Bound.{bound_none, bound_triangular, bound_is}
use Rattle.superposition.proofs.unifiers.unifier_of_arguments.Goals as goal

any_symbol : Symbol
any_symbol = record { number = 0; kind = Function }

pub refuse_instance-requires : goal.refuse_instance-requires
refuse_instance-requires c = bound_triangular c.args.vars (App any_symbol c.args.args.now) (App any_symbol c.args.others.now) _ (c.in_ok-bindings.ensures.exact any_symbol) _ c.in-Some.is

pub written-requires : goal.written-requires
written-requires c = bound_triangular c.args.vars (App any_symbol c.args.args.now) (App any_symbol c.args.others.now) _ (c.in_ok-bindings.ensures.exact any_symbol) _ c.in-Some.is

pub returns-in_default-clause-ok : goal.returns-in_default-clause-ok
returns-in_default-clause-ok c = λ head. bound_none c.args.vars (App head c.args.args.now) (App head c.args.others.now) _ (c.in_ok-bindings.ensures.exact head) c.in_default.is

pub returns-in-Err-clause-err : goal.returns-in-Err-clause-err
returns-in-Err-clause-err c = λ head.
    let a = c.args in
    let bs = c.in-Some.bindings in
    let u : List Term = entries_below a.vars (substitution bs.1) in
    refused_by (unifier a.vars (App head a.args.now) (App head a.others.now)) (λ u. apply u a.p.now) u c.in-Err.error
    (bound_is a.vars (App head a.args.now) (App head a.others.now) _ (c.in_ok-bindings.ensures.exact head) bs c.in-Some.is)
    (subst (λ x. IfErr x (Refuses (apply u a.p.now))) c.in-Err.is c.refuse_instance.ensures)

pub returns-clause-ok : goal.returns-clause-ok
returns-clause-ok c = λ head.
    let a = c.args in
    ap Some c.in_ok-s.ensures ∙ sym (bound_is a.vars (App head a.args.now) (App head a.others.now) _ (c.in_ok-bindings.ensures.exact head) c.in-Some.bindings c.in-Some.is)
