use Rattle.std.proofs.Common.{◌≡◌, map, ◌++◌, drop}
use Rattle.case_journal.specs.Journal.{ledger}
use Rattle.proof_extract.specs.Extracting.{new_number, renumbered_line, pick_marked, extracted}
use Rattle.proof_extract.proofs.extracting.marked_lines.Given as goal

abbrev pub invariant-loop-k : goal.invariant-loop-k
invariant-loop-k l = l.out ++ map (renumbered_line (new_number l.marks)) (pick_marked (drop l.k l.marks) (drop l.k (ledger l.table.setting l.table.past))) ≡ extracted l.marks (ledger l.table.setting l.table.past)
