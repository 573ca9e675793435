use Rattle.spl_truth.specs.Unifiers.{entries_below}
use Rattle.unify.specs.Bindings.{substitution}
use Rattle.superposition.specs.Sizes.{resolvent_by}
use Rattle.superposition.proofs.refusing.refuse_resolvent.Goals as goal

pub returns : goal.returns
returns c =
    let a = c.args in
    let made = a.bindings.now.1 in
    c.refuse_big.ensures (resolvent_by a.pair a.literals (entries_below a.pair.both (substitution made))) (c.resolved.ensures made) (c.resolved-2.ensures made) (c.resolved-3.ensures made)
