use Rattle.std.proofs.Common.{ℕ}
use Rattle.case_queue.proofs.Holding.{HasThese}
use Rattle.case_queue.proofs.queue.CaseQueue.fill.Given as goal

abbrev pub invariant-loop-k : goal.invariant-loop-k
invariant-loop-k l = (m : ℕ) → HasThese l.table.setting l.table.past m l.numbers l.k l.self
