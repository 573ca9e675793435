use Rattle.reductions.specs.Rewriting.{IsIrreducibleAtom}
use Rattle.reductions.proofs.Stating.{given_none}
use Rattle.reductions.proofs.Walked.{here, one_more, at_each}
use Rattle.reductions.proofs.walking.find_in_atoms.Goals as goal

pub loop-place-preserved : goal.loop-place-preserved
loop-place-preserved c = (
  given_none _ _ _ c.in_default.is c.in_ok-found.ensures.path,
  one_more (IsIrreducibleAtom c.args.r) c.args.atoms.now c.loop-place.place c.index-atoms-place.result (here c.args.atoms.now c.loop-place.place c.index-atoms-place.result c.loop-place-test.true c.index-atoms-place.is) (given_none _ _ _ c.in_default.is c.in_ok-found.ensures.found) c.loop-place.invariant.1,
)

pub returns-clause-found : goal.returns-clause-found
returns-clause-found c = at_each (IsIrreducibleAtom c.args.r) c.args.atoms.now c.loop-place.place c.loop-place-test.false c.loop-place.invariant.1
