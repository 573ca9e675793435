use Rattle.std.proofs.Common.{Ok, Err, ◌++◌, subst}
use Rattle.calculus.specs.Inferences.{from_to, factorings, reflections, equality_factorings}
use Rattle.superposition.specs.Appending.{Appended}
use Rattle.superposition.specs.AppendingLaws.{then_more, then_none}
use Rattle.superposition.proofs.inferring.infer_from_one.Goals as goal

pub returns-in-Err : goal.returns-in-Err
returns-in-Err c =
    let p = c.args.p.now.kept.now in
    let old = c.args.out.now.items in
    let e = c.in-Err.error in
    then_none (from_to p p ++ factorings p ++ reflections p) (equality_factorings p) old c.from_to.new.out.items e
    (then_none (from_to p p ++ factorings p) (reflections p) old c.from_to.new.out.items e
    (then_none (from_to p p) (factorings p) old c.from_to.new.out.items e
    (subst (λ r. Appended (from_to p p) old c.from_to.new.out.items r) c.in-Err.is c.from_to.ensures)))

pub returns-in-Err-factor_premise : goal.returns-in-Err-factor_premise
returns-in-Err-factor_premise c =
    let p = c.args.p.now.kept.now in
    let old = c.args.out.now.items in
    let e = c.in-Err-factor_premise.error in
    then_none (from_to p p ++ factorings p ++ reflections p) (equality_factorings p) old c.factor_premise.new.out.items e
    (then_none (from_to p p ++ factorings p) (reflections p) old c.factor_premise.new.out.items e
    (then_more {T = Unit {0}} (from_to p p) (factorings p) old c.from_to.new.out.items c.factor_premise.new.out.items c.in_default.field-0 (Err e)
    (subst (λ r. Appended (from_to p p) old c.from_to.new.out.items r) c.in_default.is c.from_to.ensures)
    (subst (λ r. Appended (factorings p) c.from_to.new.out.items c.factor_premise.new.out.items r) c.in-Err-factor_premise.is c.factor_premise.ensures)))

pub returns-in-Err-reflect_premise : goal.returns-in-Err-reflect_premise
returns-in-Err-reflect_premise c =
    let p = c.args.p.now.kept.now in
    let old = c.args.out.now.items in
    let e = c.in-Err-reflect_premise.error in
    then_none (from_to p p ++ factorings p ++ reflections p) (equality_factorings p) old c.reflect_premise.new.out.items e
    (then_more {T = Unit {0}} (from_to p p ++ factorings p) (reflections p) old c.factor_premise.new.out.items c.reflect_premise.new.out.items c.in_default-factor_premise.field-0 (Err e)
    (then_more (from_to p p) (factorings p) old c.from_to.new.out.items c.factor_premise.new.out.items c.in_default.field-0 (Ok c.in_default-factor_premise.field-0)
    (subst (λ r. Appended (from_to p p) old c.from_to.new.out.items r) c.in_default.is c.from_to.ensures)
    (subst (λ r. Appended (factorings p) c.from_to.new.out.items c.factor_premise.new.out.items r) c.in_default-factor_premise.is c.factor_premise.ensures))
    (subst (λ r. Appended (reflections p) c.factor_premise.new.out.items c.reflect_premise.new.out.items r) c.in-Err-reflect_premise.is c.reflect_premise.ensures))

pub returns : goal.returns
returns c =
    let p = c.args.p.now.kept.now in
    let old = c.args.out.now.items in
    then_more (from_to p p ++ factorings p ++ reflections p) (equality_factorings p) old c.reflect_premise.new.out.items c.factor_equations_of.new.out.items c.in_default-reflect_premise.field-0 c.factor_equations_of.result
    (then_more (from_to p p ++ factorings p) (reflections p) old c.factor_premise.new.out.items c.reflect_premise.new.out.items c.in_default-factor_premise.field-0 (Ok c.in_default-reflect_premise.field-0)
    (then_more (from_to p p) (factorings p) old c.from_to.new.out.items c.factor_premise.new.out.items c.in_default.field-0 (Ok c.in_default-factor_premise.field-0)
    (subst (λ r. Appended (from_to p p) old c.from_to.new.out.items r) c.in_default.is c.from_to.ensures)
    (subst (λ r. Appended (factorings p) c.from_to.new.out.items c.factor_premise.new.out.items r) c.in_default-factor_premise.is c.factor_premise.ensures))
    (subst (λ r. Appended (reflections p) c.factor_premise.new.out.items c.reflect_premise.new.out.items r) c.in_default-reflect_premise.is c.reflect_premise.ensures))
    c.factor_equations_of.ensures
