use Rattle.std.proofs.Common.{ℕ}
use Rattle.std.specs.Prelude.{Contains}
use Rattle.spl_terms.specs.declared.clause.Clause.{Clause}
use Rattle.subsume.specs.Held.{IsInSlot}
use Rattle.subsume.proofs.Pairs.{HaveKeys}
use Rattle.subsume.proofs.index.keys_within.Given as goal

abbrev pub invariant-loop-leaf : goal.invariant-loop-leaf
invariant-loop-leaf l = record {
  have : HaveKeys l.trie l.slots l.leaf-items l.leaf-index l.keys.items;
  held : (k : ℕ) → Contains l.keys.items k → (slot : ℕ) × (c : Clause) × IsInSlot l.slots slot c k;
}
