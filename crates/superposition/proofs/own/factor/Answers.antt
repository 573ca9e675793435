use Rattle.std.proofs.Common.{◌≡◌, ◌∙◌, Some, IfOk, option_map, refl, sym, ap, subst}
use Rattle.std.specs.Prelude.{IfErr}
use Rattle.spl_truth.specs.Truth.{apply}
use Rattle.proof_steps.specs.declared.step.Rule.TheVariants.{Factor}
use Rattle.calculus.specs.Inferences.{clause_of, by_entries, atom_unifier}
use Rattle.superposition.specs.Words.{line_of}
use Rattle.superposition.specs.Appending.{Appended}
use Rattle.superposition.specs.Sizes.{RefusesBy}
use Rattle.superposition.proofs.Alone.{factored_line}
use Rattle.superposition.proofs.Sized.{stopped_early}
use Rattle.superposition.proofs.own.factor.Goals as goal

pub returns : goal.returns
returns c =
    let a = c.args in
    let o = atom_unifier a.vars a.first.1.now a.second.1.now in
    let known : o ≡ Some c.in-Some.s.terms = sym (subst (λ x. IfOk x (λ found. option_map (λ s. s.terms) found ≡ o)) c.in-Ok.is c.unifier_of_atoms.ensures.ok) ∙ ap (option_map (λ s. s.terms)) c.in-Some.is in
    subst (λ l. Appended l a.out.now.items c.append_from.new.out.items c.append_from.result)
    (factored_line a.p.now a.first.0 a.second.0 a.first.1.now a.second.1.now a.vars c.in-Some.s c.in_ok-made.made c.if-i-j.false c.requires.vars known c.in_ok-made.ensures)
    c.append_from.ensures

pub returns-in-Err : goal.returns-in-Err
returns-in-Err c =
    let a = c.args in
    let p = a.p.now in
    let o = atom_unifier a.vars a.first.1.now a.second.1.now in
    stopped_early o (λ u. apply u (clause_of p)) _ a.out.now.items c.in-Err.error (subst (λ x. IfErr x (RefusesBy o (λ u. apply u (clause_of p)))) c.in-Err.is c.unifier_of_atoms.ensures.err)
    (λ u unified.
    let made = apply u (clause_of p) in
    (line_of p (Factor (by_entries u)) made, factored_line p a.first.0 a.second.0 a.first.1.now a.second.1.now a.vars (by_entries u) made c.if-i-j.false c.requires.vars unified refl, refl))
