use Rattle.std.proofs.Common.{ℕ, drop}
use Rattle.std.specs.Prelude.{◌↔◌}
use Rattle.subsume.specs.Tries.{Down}
use Rattle.subsume.proofs.trie.Trie.leaf.Given as goal

abbrev pub invariant-loop-count : goal.invariant-loop-count
invariant-loop-count l = (k : ℕ) → Down l.self l.counts 0 k ↔ Down l.self (drop l.count-index l.counts) l.n k
