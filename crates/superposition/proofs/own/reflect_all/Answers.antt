use Rattle.std.proofs.Common.{◌≡◌, Some, arith, subst, List}
use Rattle.std.specs.List.{flat_map}
use Rattle.std.proofs.Common.{ℕ}
use Rattle.std.specs.Borrow.{Bor}
use Rattle.spl_terms.specs.declared.atom.Atom.{Atom}
use Rattle.proof_steps.specs.declared.step.Line.{Line}
use Rattle.spl_terms.specs.declared.clause.Part.TheVariants.{Antecedent}
use Rattle.proof_steps.specs.Spots.{atom_at}
use Rattle.spl_terms.specs.InOrder.{variables}
use Rattle.proof_steps.specs.declared.step.Rule.TheVariants.{Reflex}
use Rattle.calculus.specs.Inferences.{clause_of, by_unifier, sides_unifier}
use Rattle.superposition.specs.Words.{IsAtomBelow}
use Rattle.superposition.specs.Appending.{Appended}
use Rattle.superposition.proofs.Lists.{each_at}
use Rattle.superposition.proofs.Composing.{loop_goes_on, loop_stops, loop_ends}
use Rattle.superposition.proofs.own.reflect_all.Goals as goal

pub reflect-requires-clause-below : goal.reflect-requires-clause-below
reflect-requires-clause-below c = each_at (λ x. IsAtomBelow c.args.vars x.1.now) c.args.places.now c.loop-k.k c.index-places-k.result c.requires.below c.loop-k-test.true c.index-places-k.is

pub loop-k-preserved : goal.loop-k-preserved
loop-k-preserved c =
    let a = c.args in
    let f : ℕ × Bor Atom → List Line = λ x. by_unifier a.p.now (Reflex x.0) (sides_unifier (variables (clause_of a.p.now)) x.1.now) in
    loop_goes_on f a.places.now c.loop-k.k c.index-places-k.result (flat_map f a.places.now) a.out.now.items c.loop-k.out.items c.loop-k-test.true c.index-places-k.is c.loop-k.invariant c.reflect.new.out.items (subst (λ r. Appended (f c.index-places-k.result) c.loop-k.out.items c.reflect.new.out.items r) c.in_default.is c.reflect.ensures)

pub returns : goal.returns
returns c =
    let a = c.args in
    let f : ℕ × Bor Atom → List Line = λ x. by_unifier a.p.now (Reflex x.0) (sides_unifier (variables (clause_of a.p.now)) x.1.now) in
    loop_ends f a.places.now c.loop-k.k (flat_map f a.places.now) a.out.now.items c.loop-k.out.items (omega (arith, c.loop-k-test.false)) c.loop-k.invariant

pub returns-in-Err : goal.returns-in-Err
returns-in-Err c =
    let a = c.args in
    let f : ℕ × Bor Atom → List Line = λ x. by_unifier a.p.now (Reflex x.0) (sides_unifier (variables (clause_of a.p.now)) x.1.now) in
    loop_stops f a.places.now c.loop-k.k c.index-places-k.result (flat_map f a.places.now) a.out.now.items c.loop-k.out.items c.loop-k-test.true c.index-places-k.is c.loop-k.invariant c.reflect.new.out.items c.in-Err.error
    (subst (λ r. Appended (f c.index-places-k.result) c.loop-k.out.items c.reflect.new.out.items r) c.in-Err.is c.reflect.ensures)

pub reflect-requires-clause-there : goal.reflect-requires-clause-there
reflect-requires-clause-there c = each_at (λ x. atom_at Antecedent x.0 (clause_of c.args.p.now) ≡ Some x.1.now) c.args.places.now c.loop-k.k c.index-places-k.result c.requires.there c.loop-k-test.true c.index-places-k.is
