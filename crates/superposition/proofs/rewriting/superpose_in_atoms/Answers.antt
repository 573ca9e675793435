use Rattle.std.proofs.Common.{◌≡◌, Some, arith, subst, List}
use Rattle.std.specs.Borrow.{Bor}
use Rattle.std.specs.List.{flat_map}
use Rattle.std.proofs.Common.{ℕ}
use Rattle.spl_terms.specs.declared.atom.Atom.{Atom}
use Rattle.proof_steps.specs.declared.step.Line.{Line}
use Rattle.proof_steps.specs.Spots.{atom_at}
use Rattle.calculus.specs.Inferences.{clause_of}
use Rattle.superposition.specs.Readings.{reading_of}
use Rattle.superposition.specs.Walks.{superpose_lent}
use Rattle.superposition.specs.Appending.{Appended}
use Rattle.superposition.proofs.Lists.{each_at}
use Rattle.superposition.proofs.Composing.{loop_goes_on, loop_stops, loop_ends}
use Rattle.superposition.proofs.rewriting.superpose_in_atoms.Goals as goal

pub loop-k-preserved : goal.loop-k-preserved
loop-k-preserved c =
    let a = c.args in
    let f : ℕ × Bor Atom → List Line = superpose_lent a.pair.p.now a.pair.q.now (reading_of a.equation) a.part in
    loop_goes_on f a.atoms.now c.loop-k.k c.index-atoms-k.result (flat_map f a.atoms.now) a.out.now.items c.loop-k.out.items c.loop-k-test.true c.index-atoms-k.is c.loop-k.invariant c.superpose_in_atom.new.out.items (subst (λ r. Appended (f c.index-atoms-k.result) c.loop-k.out.items c.superpose_in_atom.new.out.items r) c.in_default.is c.superpose_in_atom.ensures)

pub returns : goal.returns
returns c =
    let a = c.args in
    let f : ℕ × Bor Atom → List Line = superpose_lent a.pair.p.now a.pair.q.now (reading_of a.equation) a.part in
    loop_ends f a.atoms.now c.loop-k.k (flat_map f a.atoms.now) a.out.now.items c.loop-k.out.items (omega (arith, c.loop-k-test.false)) c.loop-k.invariant

pub returns-in-Err : goal.returns-in-Err
returns-in-Err c =
    let a = c.args in
    let f : ℕ × Bor Atom → List Line = superpose_lent a.pair.p.now a.pair.q.now (reading_of a.equation) a.part in
    loop_stops f a.atoms.now c.loop-k.k c.index-atoms-k.result (flat_map f a.atoms.now) a.out.now.items c.loop-k.out.items c.loop-k-test.true c.index-atoms-k.is c.loop-k.invariant c.superpose_in_atom.new.out.items c.in-Err.error
    (subst (λ r. Appended (f c.index-atoms-k.result) c.loop-k.out.items c.superpose_in_atom.new.out.items r) c.in-Err.is c.superpose_in_atom.ensures)

pub superpose_in_atom-requires : goal.superpose_in_atom-requires
superpose_in_atom-requires c = record {
  pair = c.requires.pair;
  equation = c.requires.equation;
  atom = each_at (λ x. atom_at c.args.part x.0 (clause_of c.args.pair.q.now) ≡ Some x.1.now) c.args.atoms.now c.loop-k.k c.index-atoms-k.result c.requires.atoms c.loop-k-test.true c.index-atoms-k.is;
}
