use Rattle.std.proofs.Common.{◌++◌, map, take, subst}
use Rattle.spl_terms.specs.Clauses.{replace_in_atom}
use Rattle.spl_truth.specs.Truth.{entry}
use Rattle.superposition.specs.Sizes.{entries_from, AreCounted}
use Rattle.superposition.proofs.Sized.{instances_next}
use Rattle.superposition.proofs.sizing.count_instances.Goals as goal

pub loop-atom-preserved : goal.loop-atom-preserved
loop-atom-preserved c = λ earlier h.
    let a = c.args in
    let f = replace_in_atom (entry (entries_from a.from a.past a.bindings.now.1)) in
    subst (AreCounted c.in_ok-total.total c.count_instance.new.kept) (instances_next f earlier a.atoms.now c.loop-atom.atom-index c.atom-item.result c.loop-atom-test.true c.atom-item.is)
    (c.in_ok-total.ensures (earlier ++ map f (take c.loop-atom.atom-index a.atoms.now)) (c.loop-atom.invariant earlier h))
