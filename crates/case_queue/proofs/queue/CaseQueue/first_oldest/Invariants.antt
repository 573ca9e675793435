use Rattle.std.proofs.Common.{◌≡◌, ℕ, ◌<◌, ◌≤◌, false}
use Rattle.case_journal.specs.Picking.{is_passive}
use Rattle.case_queue.specs.Queues.{HasQueue}
use Rattle.case_queue.proofs.queue.CaseQueue.first_oldest.Given as goal

abbrev pub invariant-loop-number : goal.invariant-loop-number
invariant-loop-number l = record {
  queue : HasQueue l.table.setting l.table.past l.node l.self;
  some : 1 ≤ l.number;
  older : (i : ℕ) → 1 ≤ i → i < l.number → is_passive l.table.setting l.table.past l.node i ≡ false;
}
