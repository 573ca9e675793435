use Rattle.std.proofs.Common.{◌≡◌, ℕ, List, Some, arith, subst}
use Rattle.std.specs.Borrow.{Bor}
use Rattle.std.specs.List.{flat_map}
use Rattle.spl_terms.specs.declared.atom.Atom.{Atom}
use Rattle.proof_steps.specs.Spots.{atom_at}
use Rattle.proof_steps.specs.declared.step.Line.{Line}
use Rattle.calculus.specs.Inferences.{clause_of, resolve}
use Rattle.superposition.specs.Appending.{Appended}
use Rattle.superposition.proofs.Lists.{each_at}
use Rattle.superposition.proofs.Composing.{loop_goes_on, loop_stops, loop_ends}
use Rattle.superposition.proofs.resolution.resolve_each.Goals as goal

pub resolve-requires-clause-second : goal.resolve-requires-clause-second
resolve-requires-clause-second c = each_at (λ x. atom_at c.args.part x.0 (clause_of c.args.pair.q.now) ≡ Some x.1.now) c.args.atoms.now c.loop-k.k c.index-atoms-k.result c.requires.atoms c.loop-k-test.true c.index-atoms-k.is

pub loop-k-preserved : goal.loop-k-preserved
loop-k-preserved c =
    let a = c.args in
    let f : ℕ × Bor Atom → List Line = λ y. resolve a.part a.pair.p.now a.pair.q.now (a.first.0, a.first.1.now) (y.0, y.1.now) in
    loop_goes_on f a.atoms.now c.loop-k.k c.index-atoms-k.result (flat_map f a.atoms.now) a.out.now.items c.loop-k.out.items c.loop-k-test.true c.index-atoms-k.is c.loop-k.invariant c.resolve.new.out.items (subst (λ r. Appended (f c.index-atoms-k.result) c.loop-k.out.items c.resolve.new.out.items r) c.in_default.is c.resolve.ensures)

pub returns : goal.returns
returns c =
    let a = c.args in
    let f : ℕ × Bor Atom → List Line = λ y. resolve a.part a.pair.p.now a.pair.q.now (a.first.0, a.first.1.now) (y.0, y.1.now) in
    loop_ends f a.atoms.now c.loop-k.k (flat_map f a.atoms.now) a.out.now.items c.loop-k.out.items (omega (arith, c.loop-k-test.false)) c.loop-k.invariant

pub returns-in-Err : goal.returns-in-Err
returns-in-Err c =
    let a = c.args in
    let f : ℕ × Bor Atom → List Line = λ y. resolve a.part a.pair.p.now a.pair.q.now (a.first.0, a.first.1.now) (y.0, y.1.now) in
    loop_stops f a.atoms.now c.loop-k.k c.index-atoms-k.result (flat_map f a.atoms.now) a.out.now.items c.loop-k.out.items c.loop-k-test.true c.index-atoms-k.is c.loop-k.invariant c.resolve.new.out.items c.in-Err.error
    (subst (λ r. Appended (f c.index-atoms-k.result) c.loop-k.out.items c.resolve.new.out.items r) c.in-Err.is c.resolve.ensures)
