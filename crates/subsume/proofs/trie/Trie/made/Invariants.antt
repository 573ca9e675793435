use Rattle.std.proofs.Common.{◌<◌, length, take}
use Rattle.subsume.specs.Tries.{Down, Grows}
use Rattle.subsume.proofs.trie.Trie.made.Given as goal

abbrev pub invariant-loop-count : goal.invariant-loop-count
invariant-loop-count l = Grows l.initial.self l.self × Down l.self (take l.count-index l.counts) 0 l.n × (l.n < length l.self)
