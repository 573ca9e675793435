use Rattle.std.proofs.Common.{take}
use Rattle.reductions.proofs.Instances.{MatchesNone}
use Rattle.reductions.proofs.matching.first_match.Given as goal

abbrev pub invariant-loop-place : goal.invariant-loop-place
invariant-loop-place l = MatchesNone l.pattern (take l.place l.targets)
