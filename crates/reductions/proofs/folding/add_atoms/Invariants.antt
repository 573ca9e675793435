use Rattle.std.proofs.Common.{◌≡◌, ◌++◌, take}
use Rattle.reductions.specs.Folding.{plain, in_part}
use Rattle.reductions.proofs.folding.add_atoms.Given as goal

abbrev pub invariant-loop-atom : goal.invariant-loop-atom
invariant-loop-atom l = plain l.list.items ≡ plain l.initial.list.items ++ in_part l.part (take l.atom-index l.atoms)
