use Rattle.std.proofs.Common.{◌≡◌, ◌≤◌}
use Rattle.prover_top.specs.Endings.{kept_among}
use Rattle.prover_top.proofs.proving.kept_count.Given as goal

abbrev pub invariant-loop-k : goal.invariant-loop-k
invariant-loop-k l = (l.count ≡ kept_among l.table.setting l.table.past l.node l.k) × (l.count ≤ l.k)
