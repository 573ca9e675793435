use Rattle.std.proofs.Common.{◌≡◌, ◌∙◌, option_map, IfOk, sym, subst}
use Rattle.std.specs.Prelude.{IfErr}
use Rattle.spl_truth.specs.Truth.{apply}
use Rattle.superposition.specs.Sizes.{RefusesBy}
use Rattle.superposition.proofs.Unified.{heads_apart, heads_alike}
use Rattle.superposition.proofs.unifiers.unifier_of_atoms.Goals as goal

pub returns-then-not-same-clause-ok : goal.returns-then-not-same-clause-ok
returns-then-not-same-clause-ok c =
    let w = c.in-Holds-Holds in
    heads_apart c.unifier_is_most_general.ensures c.args.vars c.args.a.now c.args.b.now w.predicate w.other w.args w.others w.is-0 w.is-1 c.requires.a_below c.requires.b_below (sym c.same.ensures ∙ c.if-not-same.true)

pub returns-else-not-same-clause-ok : goal.returns-else-not-same-clause-ok
returns-else-not-same-clause-ok c =
    let w = c.in-Holds-Holds in
    subst (λ o. IfOk c.unifier_of_arguments.result (λ found. option_map (λ s. s.terms) found ≡ o))
    (heads_alike c.args.vars c.args.a.now c.args.b.now w.predicate w.other w.args w.others _ _ w.is-0 w.is-1 (sym c.same.ensures ∙ c.if-not-same.false) c.as_slice.ensures c.as_slice-in-Holds-Holds.ensures)
    (c.unifier_of_arguments.ensures.ok w.predicate)

pub returns-else-not-same-clause-err : goal.returns-else-not-same-clause-err
returns-else-not-same-clause-err c =
    let w = c.in-Holds-Holds in
    subst (λ o. IfErr c.unifier_of_arguments.result (RefusesBy o (λ u. apply u c.args.p.now)))
    (heads_alike c.args.vars c.args.a.now c.args.b.now w.predicate w.other w.args w.others _ _ w.is-0 w.is-1 (sym c.same.ensures ∙ c.if-not-same.false) c.as_slice.ensures c.as_slice-in-Holds-Holds.ensures)
    (c.unifier_of_arguments.ensures.err w.predicate)
