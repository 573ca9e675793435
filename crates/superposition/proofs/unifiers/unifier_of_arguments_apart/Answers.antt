use Rattle.std.proofs.Common.{◌≡◌, ◌∙◌, List, map, Some, None, sym, subst}
use Rattle.std.specs.Prelude.{IfErr}
use Rattle.spl_terms.specs.declared.clause.Clause.{Clause}
use Rattle.spl_terms.specs.declared.term.Kind.TheVariants.{Function}
use Rattle.spl_terms.specs.declared.term.Symbol.{Symbol}
use Rattle.spl_terms.specs.declared.term.Term.{Term, App}
use Rattle.spl_truth.specs.Unifiers.{HaveVariablesBelow, entries_below, unifier}
use Rattle.unify.specs.Bindings.{substitution}
use Rattle.superposition.specs.Pairs.{AreRestrictions, raised}
use Rattle.superposition.specs.Sizes.{resolvent_by, Refuses}
use Rattle.superposition.proofs.Sized.{refused_by}
use Rattle.superposition.proofs.Bound.{bound_none, bound_triangular, bound_is}
use Rattle.superposition.proofs.Unified.{arguments_apart}
use Rattle.superposition.proofs.unifiers.unifier_of_arguments_apart.Goals as goal

any_symbol : Symbol
any_symbol = record { number = 0; kind = Function }

pub returns-then-not-all_fit-clause-ok : goal.returns-then-not-all_fit-clause-ok
returns-then-not-all_fit-clause-ok c = λ head. sym (arguments_apart c.unifier_is_most_general.ensures c.args.pair.both c.args.pair.first c.args.args.now c.args.others.now c.requires.args_below c.requires.others_below (sym c.all_fit.ensures ∙ c.if-not-all_fit.true) head)

pub unify_arguments_bound-requires-clause-right_below : goal.unify_arguments_bound-requires-clause-right_below
unify_arguments_bound-requires-clause-right_below c = subst (HaveVariablesBelow c.args.pair.both) (sym (c.as_slice.ensures ∙ c.in_ok-higher.ensures)) c.requires.others_below

pub restrictions-requires-clause-triangular : goal.restrictions-requires-clause-triangular
restrictions-requires-clause-triangular c = bound_triangular c.args.pair.both (App any_symbol c.args.args.now) (App any_symbol c.as_slice.result.now) _ (c.in_ok-bindings.ensures.exact any_symbol) _ c.in-Some.is

pub returns-in_default-clause-ok : goal.returns-in_default-clause-ok
returns-in_default-clause-ok c = λ head.
    let all : c.as_slice.result.now ≡ map (raised c.args.pair.first) c.args.others.now = c.as_slice.ensures ∙ c.in_ok-higher.ensures in
    subst (λ l. unifier c.args.pair.both (App head c.args.args.now) (App head l) ≡ None) all
    (sym (bound_none c.args.pair.both (App head c.args.args.now) (App head c.as_slice.result.now) _ (c.in_ok-bindings.ensures.exact head) c.in_default.is))

pub returns-clause-ok : goal.returns-clause-ok
returns-clause-ok c = λ head.
    let all : c.as_slice.result.now ≡ map (raised c.args.pair.first) c.args.others.now = c.as_slice.ensures ∙ c.in_ok-higher.ensures in
    subst (λ l. AreRestrictions c.args.pair.first (unifier c.args.pair.both (App head c.args.args.now) (App head l)) (Some c.in_ok-both.both)) all
    (subst (λ o. AreRestrictions c.args.pair.first o (Some c.in_ok-both.both)) (sym (bound_is c.args.pair.both (App head c.args.args.now) (App head c.as_slice.result.now) _ (c.in_ok-bindings.ensures.exact head) c.in-Some.bindings c.in-Some.is)) c.in_ok-both.ensures)

pub refuse_resolvent-requires-clause-triangular : goal.refuse_resolvent-requires-clause-triangular
refuse_resolvent-requires-clause-triangular c = bound_triangular c.args.pair.both (App any_symbol c.args.args.now) (App any_symbol c.as_slice.result.now) _ (c.in_ok-bindings.ensures.exact any_symbol) _ c.in-Some.is

pub returns-in-Err-clause-err : goal.returns-in-Err-clause-err
returns-in-Err-clause-err c = λ head.
    let bs = c.in-Some.bindings in
    let u : List Term = entries_below c.args.pair.both (substitution bs.1) in
    let all : c.as_slice.result.now ≡ map (raised c.args.pair.first) c.args.others.now = c.as_slice.ensures ∙ c.in_ok-higher.ensures in
    let unified : unifier c.args.pair.both (App head c.args.args.now) (App head (map (raised c.args.pair.first) c.args.others.now)) ≡ Some u =
    subst (λ l. unifier c.args.pair.both (App head c.args.args.now) (App head l) ≡ Some u) all (bound_is c.args.pair.both (App head c.args.args.now) (App head c.as_slice.result.now) _ (c.in_ok-bindings.ensures.exact head) bs c.in-Some.is) in
    let conclusion : List Term → Clause = resolvent_by c.args.pair c.args.literals in
    refused_by (unifier c.args.pair.both (App head c.args.args.now) (App head (map (raised c.args.pair.first) c.args.others.now))) conclusion u c.in-Err.error unified (subst (λ x. IfErr x (Refuses (conclusion u))) c.in-Err.is c.refuse_resolvent.ensures)
