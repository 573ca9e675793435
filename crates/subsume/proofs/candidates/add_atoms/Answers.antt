use Rattle.subsume.proofs.Covered.{no_candidate}
use Rattle.subsume.proofs.candidates.add_atoms.Goals as goal

pub returns-then-candidates-eq0-clause-none : goal.returns-then-candidates-eq0-clause-none
returns-then-candidates-eq0-clause-none c = λ _. no_candidate c.args.atoms.now c.args.targets.now c.loop-atom.atom-index c.atom-item.result _ c.loop-atom-test.true c.atom-item.is c.candidates-candidates.ensures c.if-candidates-eq0.true
