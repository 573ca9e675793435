use Rattle.case_queue.specs.Queues.{HasFirst}
use Rattle.case_turns.proofs.desk.add_lines.Given as goal

abbrev pub invariant-loop-place : goal.invariant-loop-place
invariant-loop-place l = HasFirst l.table.setting l.table.past l.node l.place l.queue
