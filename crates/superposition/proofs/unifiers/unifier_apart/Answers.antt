use Rattle.std.proofs.Common.{◌∙◌, map, IfOk, sym, ap, subst}
use Rattle.std.specs.Prelude.{IfErr}
use Rattle.spl_truth.specs.Unifiers.{HaveVariablesBelow}
use Rattle.calculus.specs.Inferences.{renamed_apart}
use Rattle.superposition.specs.Words.{IsAtomBelow}
use Rattle.superposition.specs.Pairs.{AreRestrictions, raised}
use Rattle.superposition.specs.Sizes.{RefusesBy, resolvent_by}
use Rattle.superposition.proofs.Unified.{heads_apart, heads_alike}
use Rattle.superposition.proofs.unifiers.unifier_apart.Goals as goal

pub returns-then-not-same-clause-ok : goal.returns-then-not-same-clause-ok
returns-then-not-same-clause-ok c =
    let w = c.in-Holds-Holds in
    let p = c.args.pair.p.now in
    sym (heads_apart c.unifier_is_most_general.ensures c.args.pair.both c.args.a.now (renamed_apart p c.args.b.now) w.head w.other w.args _ w.is-0 (ap (renamed_apart p) w.is-1) c.requires.a_below c.requires.b_below (sym c.same.ensures ∙ c.if-not-same.true))

pub unifier_of_arguments_apart-requires-clause-args_below : goal.unifier_of_arguments_apart-requires-clause-args_below
unifier_of_arguments_apart-requires-clause-args_below c =
    let w = c.in-Holds-Holds in
    subst (HaveVariablesBelow c.args.pair.both) (sym c.as_slice.ensures) (subst (IsAtomBelow c.args.pair.both) w.is-0 c.requires.a_below)

pub unifier_of_arguments_apart-requires-clause-others_below : goal.unifier_of_arguments_apart-requires-clause-others_below
unifier_of_arguments_apart-requires-clause-others_below c =
    let w = c.in-Holds-Holds in
    let pair = c.args.pair in
    subst (HaveVariablesBelow pair.both) (sym (λ k. map (raised (c.requires.pair.first k)) (c.as_slice-in-Holds-Holds.ensures k))) (subst (IsAtomBelow pair.both) (ap (renamed_apart pair.p.now) w.is-1) c.requires.b_below)

pub returns-else-not-same-clause-ok : goal.returns-else-not-same-clause-ok
returns-else-not-same-clause-ok c =
    let w = c.in-Holds-Holds in
    let pair = c.args.pair in
    subst (λ o. IfOk c.unifier_of_arguments_apart.result (AreRestrictions pair.first o))
    (heads_alike pair.both c.args.a.now (renamed_apart pair.p.now c.args.b.now) w.head w.other w.args _ _ _ w.is-0 (ap (renamed_apart pair.p.now) w.is-1) (sym c.same.ensures ∙ c.if-not-same.false) c.as_slice.ensures (λ k. map (raised (c.requires.pair.first k)) (c.as_slice-in-Holds-Holds.ensures k)))
    (c.unifier_of_arguments_apart.ensures.ok w.head)

pub returns-else-not-same-clause-err : goal.returns-else-not-same-clause-err
returns-else-not-same-clause-err c =
    let w = c.in-Holds-Holds in
    let pair = c.args.pair in
    subst (λ o. IfErr c.unifier_of_arguments_apart.result (RefusesBy o (resolvent_by pair c.args.literals)))
    (heads_alike pair.both c.args.a.now (renamed_apart pair.p.now c.args.b.now) w.head w.other w.args _ _ _ w.is-0 (ap (renamed_apart pair.p.now) w.is-1) (sym c.same.ensures ∙ c.if-not-same.false) c.as_slice.ensures (λ k. map (raised (c.requires.pair.first k)) (c.as_slice-in-Holds-Holds.ensures k)))
    (c.unifier_of_arguments_apart.ensures.err w.head)
