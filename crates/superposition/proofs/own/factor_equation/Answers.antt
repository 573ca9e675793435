use Rattle.std.proofs.Common.{◌≡◌, ◌∙◌, Some, IfOk, option_map, refl, sym, ap, subst}
use Rattle.std.specs.Prelude.{IfErr}
use Rattle.spl_truth.specs.Truth.{apply}
use Rattle.proof_steps.specs.declared.step.Rule.TheVariants.{EqFactor}
use Rattle.calculus.specs.Inferences.{clause_of, by_entries, factoring_unifier}
use Rattle.superposition.specs.Words.{line_of}
use Rattle.superposition.specs.Appending.{Appended}
use Rattle.superposition.specs.Readings.{reading_of}
use Rattle.superposition.specs.Sizes.{RefusesBy, compared}
use Rattle.superposition.proofs.Alone.{equation_fits, equation_line}
use Rattle.superposition.proofs.OwnLines.{read_within, equality_factoring_is}
use Rattle.superposition.proofs.Sized.{stopped_early}
use Rattle.superposition.proofs.own.factor_equation.Goals as goal

pub unifier_in_order-requires-clause-place : goal.unifier_in_order-requires-clause-place
unifier_in_order-requires-clause-place c = read_within (clause_of c.args.p.now) c.args.e c.requires.e_there

pub factored-requires : goal.factored-requires
factored-requires c =
    let a = c.args in
    let o = factoring_unifier a.vars (reading_of a.e) (reading_of a.d) in
    let known : o ≡ Some c.in-Some.s.terms = sym (subst (λ x. IfOk x (λ found. option_map (λ s. s.terms) found ≡ o)) c.in-Ok.is c.unifier_in_order.ensures.ok) ∙ ap (option_map (λ s. s.terms)) c.in-Some.is in
    equation_fits a.p.now (reading_of a.e) (reading_of a.d) a.vars c.requires.vars c.in-Some.s.terms known

pub returns : goal.returns
returns c =
    let a = c.args in
    let o = factoring_unifier a.vars (reading_of a.e) (reading_of a.d) in
    let known : o ≡ Some c.in-Some.s.terms = sym (subst (λ x. IfOk x (λ found. option_map (λ s. s.terms) found ≡ o)) c.in-Ok.is c.unifier_in_order.ensures.ok) ∙ ap (option_map (λ s. s.terms)) c.in-Some.is in
    subst (λ l. Appended l a.out.now.items c.append_from.new.out.items c.append_from.result)
    (equation_line a.p.now (reading_of a.e) (reading_of a.d) a.vars c.requires.vars c.in-Some.s c.in_ok-made.made c.if-e-d.false known c.in_ok-made.ensures)
    c.append_from.ensures

pub returns-in-Err : goal.returns-in-Err
returns-in-Err c =
    let a = c.args in
    let p = a.p.now in
    let e = a.e in
    let d = a.d in
    let o = factoring_unifier a.vars (reading_of e) (reading_of d) in
    let whole = compared (clause_of p) e.place e.right_side.now d.right_side.now in
    stopped_early o (λ u. apply u whole) _ a.out.now.items c.in-Err.error (subst (λ x. IfErr x (RefusesBy o (λ u. apply u whole))) c.in-Err.is c.unifier_in_order.ensures.err)
    (λ u unified.
    let made = apply u whole in
    (line_of p (EqFactor e.place e.right d.place d.right (by_entries u)) made, equation_line p (reading_of e) (reading_of d) a.vars c.requires.vars (by_entries u) (Some made) c.if-e-d.false unified (equality_factoring_is p e d c.if-e-d.false u c.no_unifier_is_lost.ensures.equality_factoring c.requires.in_order a.vars c.requires.vars c.requires.e_there c.requires.d_there unified), refl))
