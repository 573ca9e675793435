use Rattle.std.proofs.Common.{◌≡◌, take}
use Rattle.case_journal.specs.Journal.{input_lines, AreSmall}
use Rattle.split_tree.proofs.table.input_lines.Given as goal

abbrev pub invariant-loop-k : goal.invariant-loop-k
invariant-loop-k l = record { is : l.lines ≡ input_lines 1 (take l.k l.input); small : AreSmall l.lines }
