use Rattle.std.proofs.Common.{◌≡◌, ℕ, List, Some, arith, subst}
use Rattle.std.specs.Borrow.{Bor}
use Rattle.std.specs.List.{flat_map}
use Rattle.spl_terms.specs.declared.atom.Atom.{Atom}
use Rattle.spl_terms.specs.declared.clause.Part.TheVariants.{Succedent}
use Rattle.proof_steps.specs.Spots.{atom_at}
use Rattle.proof_steps.specs.declared.step.Line.{Line}
use Rattle.calculus.specs.Inferences.{clause_of, resolve}
use Rattle.superposition.specs.Appending.{Appended}
use Rattle.superposition.proofs.Lists.{each_at}
use Rattle.superposition.proofs.Composing.{loop_goes_on, loop_stops, loop_ends}
use Rattle.superposition.proofs.resolution.resolve_all.Goals as goal

pub resolve_each-requires-clause-first : goal.resolve_each-requires-clause-first
resolve_each-requires-clause-first c = each_at (λ x. atom_at Succedent x.0 (clause_of c.args.pair.p.now) ≡ Some x.1.now) c.args.places.now c.loop-k.k c.index-places-k.result c.requires.places c.loop-k-test.true c.index-places-k.is

pub loop-k-preserved : goal.loop-k-preserved
loop-k-preserved c =
    let a = c.args in
    let f : ℕ × Bor Atom → List Line = λ x. flat_map (λ y. resolve a.part a.pair.p.now a.pair.q.now (x.0, x.1.now) (y.0, y.1.now)) a.atoms.now in
    loop_goes_on f a.places.now c.loop-k.k c.index-places-k.result (flat_map f a.places.now) a.out.now.items c.loop-k.out.items c.loop-k-test.true c.index-places-k.is c.loop-k.invariant c.resolve_each.new.out.items (subst (λ r. Appended (f c.index-places-k.result) c.loop-k.out.items c.resolve_each.new.out.items r) c.in_default.is c.resolve_each.ensures)

pub returns : goal.returns
returns c =
    let a = c.args in
    let f : ℕ × Bor Atom → List Line = λ x. flat_map (λ y. resolve a.part a.pair.p.now a.pair.q.now (x.0, x.1.now) (y.0, y.1.now)) a.atoms.now in
    loop_ends f a.places.now c.loop-k.k (flat_map f a.places.now) a.out.now.items c.loop-k.out.items (omega (arith, c.loop-k-test.false)) c.loop-k.invariant

pub returns-in-Err : goal.returns-in-Err
returns-in-Err c =
    let a = c.args in
    let f : ℕ × Bor Atom → List Line = λ x. flat_map (λ y. resolve a.part a.pair.p.now a.pair.q.now (x.0, x.1.now) (y.0, y.1.now)) a.atoms.now in
    loop_stops f a.places.now c.loop-k.k c.index-places-k.result (flat_map f a.places.now) a.out.now.items c.loop-k.out.items c.loop-k-test.true c.index-places-k.is c.loop-k.invariant c.resolve_each.new.out.items c.in-Err.error
    (subst (λ r. Appended (f c.index-places-k.result) c.loop-k.out.items c.resolve_each.new.out.items r) c.in-Err.is c.resolve_each.ensures)
