use Rattle.std.proofs.Common.{heap_len}
use Rattle.case_queue.specs.Queues.{HasQueue}
use Rattle.case_queue.proofs.queue.CaseQueue.first_lightest.Given as goal

abbrev pub invariant-loop-number : goal.invariant-loop-number
invariant-loop-number l = HasQueue l.table.setting l.table.past l.node l.self

abbrev pub decreases-loop-number : goal.decreases-loop-number
decreases-loop-number l = heap_len l.self.lightest
