-- Slots that are found below a node.
use Rattle.std.proofs.Common.{◌≡◌, ◌⊎◌, inl, inr, ℕ, List, [], ◌∷◌, ◌++◌, Option, Some, None, refl, sym, ap, subst, ◌∙◌}
use Rattle.std.specs.Prelude.{◌↔◌, Contains, IsSomeAnd, MatchOption, slice_get}
use Rattle.std.proofs.lemmas.List.Elements.{Contains-push_cases}
use Rattle.spl_terms.specs.declared.clause.Clause.{Clause}
use Rattle.subsume.specs.declared.slots.HeldClause.{HeldClause}
use Rattle.subsume.specs.declared.trie.Node.{Node}
use Rattle.subsume.specs.Features.{features}
use Rattle.subsume.specs.Tries.{IsChildFor, Down, sibling_or, sibling_in, IsInChain}
use Rattle.subsume.specs.Held.{IsInSlot, AreFound}
use Rattle.subsume.proofs.Paths.{nothing_follows, this_or_later}

-- what is true of each child that comes is true of all where none is left
module _ (nodes : List Node) (n place : ℕ) (ends : sibling_in nodes 0 ≡ 0) where
  pub none_left : place ≡ 0 → (slot m : ℕ) → IsChildFor nodes n slot m → IsInChain (sibling_in nodes) place m → ⊥
  none_left last slot m child come = nothing_follows (sibling_in nodes) ends place m come last child.0

  pub none_there : None ≡ slice_get nodes place → (slot m : ℕ) → IsChildFor nodes n slot m → IsInChain (sibling_in nodes) place m → ⊥
  none_there e slot m child come = elim (this_or_later (sibling_in nodes) place m come) [
    | inl same ↦ subst (λ o. IsSomeAnd o (λ y. (y.parent ≡ n) × (y.count ≡ slot))) (ap (slice_get nodes) (sym same) ∙ sym e) child.1
    | inr more ↦ nothing_follows (sibling_in nodes) ends (sibling_in nodes place) m more (ap sibling_or (sym e)) child.0
  ]

-- a child that comes is this one, for its count, or comes later
pub this_slot : (P : Type 0) (nodes : List Node) (n place slot m : ℕ) (x : Node) → Some x ≡ slice_get nodes place → IsChildFor nodes n slot m → IsInChain (sibling_in nodes) place m → (x.count ≡ slot → P) → (IsInChain (sibling_in nodes) x.sibling m → P) → P
this_slot P nodes n place slot m x e child come now later = elim (this_or_later (sibling_in nodes) place m come) [
  | inl same ↦ now (subst (λ o. IsSomeAnd o (λ y. (y.parent ≡ n) × (y.count ≡ slot))) (ap (slice_get nodes) (sym same) ∙ sym e) child.1).1
  | inr more ↦ later (subst (λ a. IsInChain (sibling_in nodes) a m) (ap sibling_or (sym e)) more)
]

-- ---- one pair

-- a slot that has the pair is still to come
abbrev pub AreNotBefore : List Node → List (Option HeldClause) → ℕ → Clause → ℕ → ℕ → Type 0
AreNotBefore nodes slots n c key place = (slot m : ℕ) → IsChildFor nodes n slot m → IsInSlot slots slot c key → IsInChain (sibling_in nodes) place m

pub not_before_more : (nodes : List Node) (slots : List (Option HeldClause)) (n : ℕ) (c : Clause) (key place : ℕ) (x : Node) → Some x ≡ slice_get nodes place → (IsInSlot slots x.count c key → ⊥) → AreNotBefore nodes slots n c key place → AreNotBefore nodes slots n c key x.sibling
not_before_more nodes slots n c key place x e never come slot m child is = this_slot (IsInChain (sibling_in nodes) x.sibling m) nodes n place slot m x e child (come slot m child is)
    (λ same. absurd (never (subst (λ s. IsInSlot slots s c key) (sym same) is)))
    (λ later. later)

-- ---- all keys

-- the key of a slot is among these, or the slot is still to come
abbrev pub AreStillToCome : List Node → List (Option HeldClause) → ℕ → List ℕ → ℕ → Type 0
AreStillToCome nodes slots n keys place = (slot m : ℕ) (c : Clause) (k : ℕ) → IsChildFor nodes n slot m → IsInSlot slots slot c k → Contains keys k ⊎ IsInChain (sibling_in nodes) place m

pub come_more : (nodes : List Node) (slots : List (Option HeldClause)) (n : ℕ) (keys keys' : List ℕ) (place : ℕ) (x : Node) → Some x ≡ slice_get nodes place → ((k : ℕ) → Contains keys k → Contains keys' k) → ((c : Clause) (k : ℕ) → IsInSlot slots x.count c k → Contains keys' k) → AreStillToCome nodes slots n keys place → AreStillToCome nodes slots n keys' x.sibling
come_more nodes slots n keys keys' place x e kept own come slot m c k child is = elim (come slot m c k child is) [
  | inl before ↦ inl (kept k before)
  | inr later ↦ this_slot (Contains keys' k ⊎ IsInChain (sibling_in nodes) x.sibling m) nodes n place slot m x e child later
      (λ same. inl (own c k (subst (λ s. IsInSlot slots s c k) (sym same) is)))
      (λ more. inr more)
]

-- ---- a pair's slot

pub no_slot : (nodes : List Node) (slots : List (Option HeldClause)) (counts : List ℕ) (c : Clause) (key : ℕ) → AreFound nodes slots → counts ≡ features c → ((l : ℕ) → Down nodes counts 0 l → ⊥) → (slot : ℕ) → IsInSlot slots slot c key → ⊥
no_slot nodes slots counts c key found e never slot is = (let u = found.under slot c key is in never u.0 (subst (λ fs. Down nodes fs 0 u.0) (sym e) u.2))

pub slot_found : (nodes : List Node) (slots : List (Option HeldClause)) (counts : List ℕ) (c : Clause) (key leaf : ℕ) (o : Option ℕ) → AreFound nodes slots → counts ≡ features c → ((l : ℕ) → Down nodes counts 0 l ↔ (leaf ≡ l)) → MatchOption o ((slot m : ℕ) → IsChildFor nodes leaf slot m → IsInSlot slots slot c key → ⊥) (λ slot. IsInSlot slots slot c key) → MatchOption o ((slot : ℕ) → IsInSlot slots slot c key → ⊥) (λ slot. IsInSlot slots slot c key)
slot_found nodes slots counts c key leaf (Some slot) found e one h = h
slot_found nodes slots counts c key leaf None found e one h = λ slot is.
    let u = found.under slot c key is in
    let same : leaf ≡ u.0 = (one u.0).0 (subst (λ fs. Down nodes fs 0 u.0) (sym e) u.2) in
    h slot u.1 (subst (λ l. IsChildFor nodes l slot u.1) (sym same) u.3) is

-- ---- the key of a slot

pub key_pushed : (slots : List (Option HeldClause)) (slot : ℕ) (held : HeldClause) (keys keys' : List ℕ) → slice_get slots slot ≡ Some (Some held) → keys' ≡ keys ++ held.key ∷ [] → (k : ℕ) → Contains keys' k → Contains keys k ⊎ ((c : Clause) × IsInSlot slots slot c k)
key_pushed slots slot held keys keys' here e k h = elim (Contains-push_cases keys held.key k (subst (λ l. Contains l k) e h)) [
  | inl before ↦ inl before
  | inr same ↦ inr (held.clause, (held, here, refl, same))
]
