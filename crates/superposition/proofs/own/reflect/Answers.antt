use Rattle.std.proofs.Common.{◌≡◌, ◌∙◌, Some, IfOk, option_map, refl, sym, ap, subst}
use Rattle.std.specs.Prelude.{IfErr}
use Rattle.std.proofs.lemmas.Option.{slice_get_within}
use Rattle.proof_steps.specs.declared.step.Rule.TheVariants.{Reflex}
use Rattle.calculus.specs.Inferences.{clause_of, by_entries, sides_unifier}
use Rattle.superposition.specs.Words.{line_of}
use Rattle.superposition.specs.Appending.{Appended}
use Rattle.superposition.specs.Sizes.{RefusesBy, reflected_by}
use Rattle.superposition.proofs.Alone.{reflection_fits, reflected_line}
use Rattle.superposition.proofs.OwnLines.{reflection_is}
use Rattle.superposition.proofs.Sized.{stopped_early}
use Rattle.superposition.proofs.own.reflect.Goals as goal

pub unifier_of_sides-requires-clause-j : goal.unifier_of_sides-requires-clause-j
unifier_of_sides-requires-clause-j c = slice_get_within (clause_of c.args.p.now).antecedent c.args.place.0 c.args.place.1.now c.requires.there

pub reflected-requires : goal.reflected-requires
reflected-requires c =
    let a = c.args in
    let o = sides_unifier a.vars a.place.1.now in
    let known : o ≡ Some c.in-Some.s.terms = sym (subst (λ x. IfOk x (λ found. option_map (λ s. s.terms) found ≡ o)) c.in-Ok.is c.unifier_of_sides.ensures.ok) ∙ ap (option_map (λ s. s.terms)) c.in-Some.is in
    reflection_fits a.p.now a.place.1.now a.vars c.in-Some.s.terms c.requires.vars known

pub returns : goal.returns
returns c =
    let a = c.args in
    let o = sides_unifier a.vars a.place.1.now in
    let known : o ≡ Some c.in-Some.s.terms = sym (subst (λ x. IfOk x (λ found. option_map (λ s. s.terms) found ≡ o)) c.in-Ok.is c.unifier_of_sides.ensures.ok) ∙ ap (option_map (λ s. s.terms)) c.in-Some.is in
    subst (λ l. Appended l a.out.now.items c.append_from.new.out.items c.append_from.result)
    (reflected_line a.p.now a.place.0 a.place.1.now a.vars c.in-Some.s c.in_ok-made.made c.requires.vars known c.in_ok-made.ensures)
    c.append_from.ensures

pub returns-in-Err : goal.returns-in-Err
returns-in-Err c =
    let a = c.args in
    let p = a.p.now in
    let j = a.place.0 in
    let atom = a.place.1.now in
    let o = sides_unifier a.vars atom in
    stopped_early o (reflected_by (clause_of p) j) _ a.out.now.items c.in-Err.error (subst (λ x. IfErr x (RefusesBy o (reflected_by (clause_of p) j))) c.in-Err.is c.unifier_of_sides.ensures.err)
    (λ u unified.
    let made = reflected_by (clause_of p) j u in
    (line_of p (Reflex j (by_entries u)) made, reflected_line p j atom a.vars (by_entries u) (Some made) c.requires.vars unified (reflection_is c.no_unifier_is_lost.ensures.reflection p j atom a.vars u c.requires.in_order c.requires.vars c.requires.there unified), refl))
