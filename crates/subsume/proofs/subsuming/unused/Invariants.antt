use Rattle.std.proofs.Common.{◌≡◌, ℕ, false, length, get_or}
use Rattle.subsume.proofs.subsuming.unused.Given as goal

abbrev pub invariant-loop : goal.invariant-loop
invariant-loop l = (length l.used.items ≡ l.counter) × ((q : ℕ) → get_or l.used.items q false ≡ false)
