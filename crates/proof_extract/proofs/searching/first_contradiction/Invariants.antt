use Rattle.std.proofs.Common.{◌≤◌, ℕ}
use Rattle.case_journal.specs.Journal.{ledger}
use Rattle.proof_extract.specs.Contradictions.{IsContradictory}
use Rattle.proof_extract.proofs.searching.first_contradiction.Given as goal

abbrev pub invariant-loop-k : goal.invariant-loop-k
invariant-loop-k l = (n : ℕ) → n ≤ l.k → ¬ IsContradictory (ledger l.table.setting l.table.past) n
