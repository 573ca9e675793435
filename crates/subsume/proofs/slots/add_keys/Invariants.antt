use Rattle.std.proofs.Common.{ℕ, ◌⊎◌}
use Rattle.std.specs.Prelude.{Contains}
use Rattle.spl_terms.specs.declared.clause.Clause.{Clause}
use Rattle.subsume.specs.Held.{IsInSlot}
use Rattle.subsume.proofs.Below.{AreStillToCome}
use Rattle.subsume.proofs.slots.add_keys.Given as goal

abbrev pub invariant-loop-place : goal.invariant-loop-place
invariant-loop-place l = record {
  kept : (k : ℕ) → Contains l.initial.keys.items k → Contains l.keys.items k;
  come : AreStillToCome l.trie l.slots l.leaf l.keys.items l.place;
  held : (k : ℕ) → Contains l.keys.items k → Contains l.initial.keys.items k ⊎ ((slot : ℕ) × (c : Clause) × IsInSlot l.slots slot c k);
}

abbrev pub decreases-loop-place : goal.decreases-loop-place
decreases-loop-place l = l.place
