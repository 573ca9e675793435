-- Clauses that are held with their keys, each in a slot, and how their slots are found.
use Rattle.std.specs.Prelude.{◌≡◌, ◌↔◌, ◌⊎◌, ℕ, List, [], ◌∷◌, Option, Some, None, Contains, slice_get}
use Rattle.spl_terms.specs.declared.clause.Clause.{Clause}
use Rattle.subsume.specs.declared.slots.HeldClause.{HeldClause}
use Rattle.subsume.specs.declared.trie.Node.{Node}
use Rattle.subsume.specs.Features.{features}
use Rattle.subsume.specs.Tries.{IsChildFor, Down}

-- ---- pairs

-- the pairs of a clause and its key that are held, by the order of their slots
abbrev pub held_pairs : List (Option HeldClause) → List (Clause × ℕ)
held_pairs [] = []
held_pairs (None ∷ slots) = held_pairs slots
held_pairs (Some h ∷ slots) = (h.clause, h.key) ∷ held_pairs slots

-- the pair is held now, besides those that were
abbrev pub IsAlsoHeld : List (Clause × ℕ) → List (Clause × ℕ) → Clause → ℕ → Type 0
IsAlsoHeld old new c key = (p : Clause × ℕ) → Contains new p ↔ (Contains old p ⊎ (p ≡ (c, key)))

-- the pair was held, and all others still are
pub record IsNoLongerHeld (old new : List (Clause × ℕ)) (c : Clause) (key : ℕ) : Type 0 where
  pub was : Contains old (c, key)
  pub others : (p : Clause × ℕ) → Contains new p ↔ (Contains old p × (p ≡ (c, key) → ⊥))

-- the pair was not held, and nothing changed
pub record IsStillNotHeld (old new : List (Clause × ℕ)) (c : Clause) (key : ℕ) : Type 0 where
  pub was_not : Contains old (c, key) → ⊥
  pub same : new ≡ old

-- ---- slots

-- the slot has this clause with this key
abbrev pub IsInSlot : List (Option HeldClause) → ℕ → Clause → ℕ → Type 0
IsInSlot slots slot c key = (h : HeldClause) × (slice_get slots slot ≡ Some (Some h)) × (h.clause ≡ c) × (h.key ≡ key)

-- the features lead to a node that has a child for the slot
abbrev pub IsUnder : List Node → List ℕ → ℕ → Type 0
IsUnder nodes fs slot = (l : ℕ) × (m : ℕ) × Down nodes fs 0 l × IsChildFor nodes l slot m

-- each clause is found by its features, and no pair has two slots
pub record AreFound (nodes : List Node) (slots : List (Option HeldClause)) : Type 0 where
  pub under : (slot : ℕ) (c : Clause) (key : ℕ) → IsInSlot slots slot c key → IsUnder nodes (features c) slot
  pub apart : (slot other : ℕ) (c : Clause) (key : ℕ) → IsInSlot slots slot c key → IsInSlot slots other c key → slot ≡ other
