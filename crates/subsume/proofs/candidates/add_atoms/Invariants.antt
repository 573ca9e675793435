use Rattle.std.proofs.Common.{◌≡◌, ◌++◌, take}
use Rattle.subsume.specs.Placing.{plain, to_map}
use Rattle.subsume.proofs.candidates.add_atoms.Given as goal

abbrev pub invariant-loop-atom : goal.invariant-loop-atom
invariant-loop-atom l = plain l.list.items ≡ plain l.initial.list.items ++ to_map (take l.atom-index l.atoms) l.targets l.first
