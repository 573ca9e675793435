use Rattle.std.proofs.Common.{◌≡◌, ◌++◌, take}
use Rattle.proof_steps.proofs.resolving.copy_to.Given as goal

abbrev pub invariant-loop-atom : goal.invariant-loop-atom
invariant-loop-atom l = l.made ≡ l.initial.made ++ take l.atom-index l.atoms
