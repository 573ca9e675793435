use Rattle.case_journal.specs.Paths.{on_path}
use Rattle.split_tree.specs.Caches.{past_of, retired}
use Rattle.split_tree.proofs.Retired.{AreLeft, places_left}
use Rattle.split_tree.proofs.table.Table.is_retired.Given as goal

abbrev pub invariant-loop-next : goal.invariant-loop-next
invariant-loop-next l = AreLeft (on_path (past_of l.self-inside.journal.items) l.node) l.clause (retired (past_of l.self-inside.journal.items)) l.next

abbrev pub decreases-loop-next : goal.decreases-loop-next
decreases-loop-next l = places_left l.next
