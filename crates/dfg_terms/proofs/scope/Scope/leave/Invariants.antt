use Rattle.std.proofs.Common.{◌≡◌, ◌≤◌, length, take}
use Rattle.dfg_terms.proofs.scope.Scope.leave.Given as goal

abbrev pub invariant-loop-self : goal.invariant-loop-self
invariant-loop-self l = (take l.count l.self ≡ take l.count l.fn.self) × (l.count ≤ length l.self)

abbrev pub decreases-loop-self : goal.decreases-loop-self
decreases-loop-self l = length l.self
