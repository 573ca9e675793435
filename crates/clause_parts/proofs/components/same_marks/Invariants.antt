use Rattle.std.proofs.Common.{◌≡◌, take}
use Rattle.clause_parts.proofs.components.same_marks.Given as goal

-- the marks before this one are the same
abbrev pub invariant-loop-k : goal.invariant-loop-k
invariant-loop-k l = take l.k l.a ≡ take l.k l.b
