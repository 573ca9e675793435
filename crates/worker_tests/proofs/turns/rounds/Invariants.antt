use Rattle.std.proofs.Common.{◌≡◌}
use Rattle.case_turns.specs.Turns.{Continues}
use Rattle.worker_tests.proofs.turns.rounds.Given as goal

abbrev pub invariant-loop : goal.invariant-loop
invariant-loop l = record {
  setting : l.table.setting ≡ l.fn.table.setting;
  more : Continues l.by l.fn.table.past l.table.past;
}
