use Rattle.std.proofs.Common.{◌≡◌, take}
use Rattle.refutation_check.proofs.comparing.same_deps.Given as goal

-- the assumptions before this one are the same
abbrev pub invariant-loop-i : goal.invariant-loop-i
invariant-loop-i l = take l.i l.a ≡ take l.i l.b
