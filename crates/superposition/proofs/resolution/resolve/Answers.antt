use Rattle.std.proofs.Common.{Ok, IfOk, subst, refl, sym, Some, take, drop, ◌∙◌}
use Rattle.std.specs.Prelude.{IfErr}
use Rattle.proof_steps.specs.declared.step.Rule.TheVariants.{Resolve}
use Rattle.superposition.specs.declared.building.Literals.{Literals}
use Rattle.superposition.specs.Words.{line_of_both}
use Rattle.superposition.specs.Sizes.{RefusesBy, resolvent_by}
use Rattle.superposition.proofs.Sized.{stopped_early}
use Rattle.calculus.specs.Inferences.{clause_of, by_entries, atom_unifier, renamed_apart}
use Rattle.superposition.specs.Appending.{Appended}
use Rattle.superposition.specs.AppendingLaws.{nothing}
use Rattle.superposition.specs.Pairs.{AreRestrictions}
use Rattle.std.proofs.lemmas.Option.{slice_get_within}
use Rattle.spl_terms.specs.Clauses.{part_of}
use Rattle.superposition.proofs.Resolving.{first_below, second_below, no_line, not_negative, resolution_is, resolved_line}
use Rattle.superposition.proofs.resolution.resolve.Goals as goal

pub unifier_apart-requires-clause-a_below : goal.unifier_apart-requires-clause-a_below
unifier_apart-requires-clause-a_below c = first_below c.args.pair c.requires.pair c.args.first.0 c.args.first.1.now c.requires.first

pub unifier_apart-requires-clause-b_below : goal.unifier_apart-requires-clause-b_below
unifier_apart-requires-clause-b_below c = second_below c.args.pair c.requires.pair c.args.part c.args.second.0 c.args.second.1.now c.requires.second

pub resolvent_of-requires-clause-i : goal.resolvent_of-requires-clause-i
resolvent_of-requires-clause-i c = slice_get_within (clause_of c.args.pair.p.now).succedent c.args.first.0 c.args.first.1.now c.requires.first

pub resolvent_of-requires-clause-j : goal.resolvent_of-requires-clause-j
resolvent_of-requires-clause-j c = slice_get_within (part_of (clause_of c.args.pair.q.now) c.args.part) c.args.second.0 c.args.second.1.now c.requires.second

pub returns-then-not-is_negative : goal.returns-then-not-is_negative
returns-then-not-is_negative c =
    subst (λ l. Appended l c.args.out.now.items c.args.out.now.items (Ok (tt {0})))
    (not_negative c.args.pair c.requires.pair c.args.part c.args.first.0 c.args.second.0 c.args.first.1.now c.args.second.1.now (sym c.is_negative.ensures ∙ c.if-not-is_negative.true))
    (nothing c.args.out.now.items (tt {0}))

pub returns : goal.returns
returns c =
    let pair = c.args.pair in
    let b = renamed_apart pair.p.now c.args.second.1.now in
    let o = atom_unifier pair.both c.args.first.1.now b in
    let parts = subst (AreRestrictions pair.first o) c.in-Some.is (subst (λ r. IfOk r (AreRestrictions pair.first o)) c.in-Ok.is c.unifier_apart.ensures.ok) in
    subst (λ l. Appended l c.args.out.now.items c.append_from_both.new.out.items c.append_from_both.result)
    (resolved_line pair c.requires.pair c.args.part c.args.first.0 c.args.second.0 c.args.first.1.now c.args.second.1.now parts.0 _ _ (Some c.in_ok-made.made) parts.1 parts.2 parts.3
    (resolution_is pair c.requires.pair c.args.part c.args.first.0 c.args.second.0 c.args.first.1.now c.args.second.1.now c.no_unifier_is_lost.ensures.resolution (sym c.is_negative.ensures ∙ c.if-not-is_negative.false) c.requires.first c.requires.second parts.0 _ _ c.in_ok-made.made parts.1 parts.2 parts.3 c.in_ok-made.ensures))
    c.append_from_both.ensures

pub returns-in_default : goal.returns-in_default
returns-in_default c =
    let pair = c.args.pair in
    let b = renamed_apart pair.p.now c.args.second.1.now in
    let o = atom_unifier pair.both c.args.first.1.now b in
    subst (λ l. Appended l c.args.out.now.items c.args.out.now.items (Ok (tt {0})))
    (no_line pair c.requires.pair c.args.part c.args.first.0 c.args.second.0 c.args.first.1.now c.args.second.1.now (subst (AreRestrictions pair.first o) c.in_default.is (subst (λ r. IfOk r (AreRestrictions pair.first o)) c.in-Ok.is c.unifier_apart.ensures.ok)))
    (nothing c.args.out.now.items (tt {0}))

pub unifier_apart-requires-clause-literals : goal.unifier_apart-requires-clause-literals
unifier_apart-requires-clause-literals c = record {
  i = slice_get_within (clause_of c.args.pair.p.now).succedent c.args.first.0 c.args.first.1.now c.requires.first;
  j = slice_get_within (part_of (clause_of c.args.pair.q.now) c.args.part) c.args.second.0 c.args.second.1.now c.requires.second;
}

pub returns-in-Err : goal.returns-in-Err
returns-in-Err c =
    let pair = c.args.pair in
    let part = c.args.part in
    let i = c.args.first.0 in
    let a = c.args.first.1.now in
    let j = c.args.second.0 in
    let b = c.args.second.1.now in
    let literals : Literals = record { i = i; part = part; j = j } in
    let o = atom_unifier pair.both a (renamed_apart pair.p.now b) in
    stopped_early o (resolvent_by pair literals) _ c.args.out.now.items c.in-Err.error (subst (λ r. IfErr r (RefusesBy o (resolvent_by pair literals))) c.in-Err.is c.unifier_apart.ensures.err)
    (λ u unified.
    let s = by_entries (take pair.first u) in
    let t = by_entries (drop pair.first u) in
    let made = resolvent_by pair literals u in
    let built = resolution_is pair c.requires.pair part i j a b c.no_unifier_is_lost.ensures.resolution (sym c.is_negative.ensures ∙ c.if-not-is_negative.false) c.requires.first c.requires.second u s t made unified refl refl refl in
    (line_of_both pair.p.now pair.q.now (Resolve i part j s t) made, resolved_line pair c.requires.pair part i j a b u s t (Some made) unified refl refl built, refl))
