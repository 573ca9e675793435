use Rattle.spl_terms.specs.Clauses.{replace_in_atom}
use Rattle.spl_truth.specs.Truth.{entry}
use Rattle.proof_steps.proofs.Distinct.{kept-large}
use Rattle.proof_steps.proofs.instances.KeptAtoms.add_instances.Goals as goal

pub returns-then-not-branch : goal.returns-then-not-branch
returns-then-not-branch c =
    let large = rw c.if-not-branch.true at c.in_ok-add_instance.ensures in
    kept-large (replace_in_atom (entry c.args.entries.now)) c.args.atoms.now c.loop-atom.self _ c.loop-atom.atom-index c.atom-item.result c.loop-atom-test.true c.atom-item.is c.loop-atom.invariant large
