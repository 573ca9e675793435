use Rattle.std.proofs.Common.{take}
use Rattle.reductions.specs.Chains.{HasNumber}
use Rattle.reductions.proofs.noting.listed_as.Given as goal

-- none of those before has the number
abbrev pub invariant-loop-kept : goal.invariant-loop-kept
invariant-loop-kept l = HasNumber (take l.kept-index l.listed) l.number → ⊥
