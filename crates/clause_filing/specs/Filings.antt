-- Keys of atoms and masks of clauses, what is filed under them, and what is found there.
use Rattle.std.specs.Prelude.{◌≡◌, ◌⊎◌, ℕ, Bool, ◌+◌, ◌<◌, ◌≤◌, ◌%◌, ◌^◌, ◌==◌, true, List, [], ◌∷◌, ◌++◌, fold, map, Some, slice_get, bit_and, bit_or, Contains}
use Rattle.spl_terms.specs.declared.atom.Atom.{Atom}
use Rattle.spl_terms.specs.declared.clause.Part.{Part}
use Rattle.spl_terms.specs.declared.clause.Part.TheVariants.{Constraint, Antecedent, Succedent}
use Rattle.spl_terms.specs.declared.clause.Clause.{Clause}
use Rattle.spl_terms.specs.Clauses.{is_same, part_of}
use Rattle.spl_terms.specs.Hashes.{atom_hash}
use Rattle.spl_terms.specs.Lists.{numbered}
use Rattle.clause_filing.specs.declared.filing.Entry.{Entry}

-- ---- keys of atoms

-- equal atoms have one key, and so have equations whose sides are exchanged
abbrev pub key : ℕ → Atom → ℕ
key side a = (atom_hash a + side) % 2 ^ 64

-- the side of the atoms before the arrow, and of those after it
abbrev pub before_arrow : ℕ
before_arrow = 0

abbrev pub after_arrow : ℕ
after_arrow = 1

abbrev pub side : Part → ℕ
side Constraint = before_arrow
side Antecedent = before_arrow
side Succedent = after_arrow

-- the key of the first atom of the lists, or 0
abbrev pub first_key : List Atom → List Atom → List Atom → ℕ
first_key (a ∷ more) antecedent constraint = key after_arrow a
first_key [] (a ∷ more) constraint = key before_arrow a
first_key [] [] (a ∷ more) = key before_arrow a
first_key [] [] [] = 0

-- the key under which a clause is filed: that of its first atom, where the succedent comes first; 0 for the empty clause
abbrev pub clause_key : Clause → ℕ
clause_key c = first_key c.succedent c.antecedent c.constraint

-- ---- masks of clauses

-- one bit out of 64
abbrev pub bit_of : ℕ → ℕ
bit_of key = 2 ^ (key % 64)

-- the bits of the keys of the atoms, added to a mask
abbrev pub with_bits : ℕ → ℕ → List Atom → ℕ
with_bits mask side atoms = fold bit_or mask (map (λ a. bit_of (key side a)) atoms)

-- the bits of the keys of all atoms of a clause; those of a subclause are among them
abbrev pub clause_mask : Clause → ℕ
clause_mask c = with_bits (with_bits (with_bits 0 before_arrow c.constraint) before_arrow c.antecedent) after_arrow c.succedent

-- each bit of the first mask is one of the other
abbrev pub is_within : ℕ → ℕ → Bool
is_within mask other = bit_and mask other == mask

-- ---- entries

-- the entry with this number, from 1, has the key
abbrev pub HasKey : List Entry → ℕ → ℕ → Type 0
HasKey entries key x = (e : Entry) × (numbered entries x ≡ Some e) × (e.key ≡ key)

-- the last entry of the key among the first ones, or 0 where there is none
pub record IsNewest (entries : List Entry) (key upto x : ℕ) : Type 0 where
  pub within : x ≤ upto
  pub own : 0 < x → HasKey entries key x
  pub last : (y : ℕ) → x < y → y ≤ upto → HasKey entries key y → ⊥

-- the value was filed under the key with this mask, last of all
pub record IsAdded (old new : List Entry) (key value mask : ℕ) : Type 0 where
  pub older : ℕ
  pub last : new ≡ old ++ record { key = key; value = value; mask = mask; older = older } ∷ []

-- each entry stays
abbrev pub Keeps : List Entry → List Entry → Type 0
Keeps old new = (x : ℕ) (e : Entry) → numbered old x ≡ Some e → numbered new x ≡ Some e

-- the value is filed under the key with this mask
abbrev pub IsFiled : List Entry → ℕ → ℕ → ℕ → Type 0
IsFiled entries key value mask = (x : ℕ) × (e : Entry) × (numbered entries x ≡ Some e) × (e.key ≡ key) × (e.value ≡ value) × (e.mask ≡ mask)

-- the value was filed for the clause: under the clause's key, with its mask
abbrev pub IsFiledClause : List Entry → Clause → ℕ → Type 0
IsFiledClause entries c value = IsFiled entries (clause_key c) value (clause_mask c)

-- the value is filed under the key of each of the atoms
abbrev pub HasAtoms : List Entry → ℕ → List Atom → ℕ → Type 0
HasAtoms entries side atoms value = (k : ℕ) (a : Atom) → slice_get atoms k ≡ Some a → IsFiled entries (key side a) value 0

-- the value is filed under the key of each atom of the clause
abbrev pub IsFiledUnderAll : List Entry → Clause → ℕ → Type 0
IsFiledUnderAll entries c value = (part : Part) → HasAtoms entries (side part) (part_of c part) value

-- ---- what is found

-- P holds of each value that is filed under the key with a mask within this one
abbrev pub HoldsUnder : (ℕ → Type 0) → List Entry → ℕ → ℕ → Type 0
HoldsUnder P entries key mask = (y : ℕ) (e : Entry) → numbered entries y ≡ Some e → e.key ≡ key → is_within e.mask mask ≡ true → P e.value

-- of each that is filed under the key of one of the atoms
abbrev pub HoldUnder : (ℕ → Type 0) → List Entry → ℕ → List Atom → ℕ → Type 0
HoldUnder P entries side atoms mask = (k : ℕ) (a : Atom) → slice_get atoms k ≡ Some a → HoldsUnder P entries (key side a) mask

-- the values were added to
abbrev pub AddsValues : List ℕ → List ℕ → Type 0
AddsValues old new = (v : ℕ) → Contains old v → Contains new v

-- all that is filed under the key with a mask within this one is among the values
abbrev pub HasValues : List Entry → ℕ → ℕ → List ℕ → Type 0
HasValues entries key mask values = HoldsUnder (Contains values) entries key mask

-- all that is filed under the key of one of the atoms
abbrev pub HaveValues : List Entry → ℕ → List Atom → ℕ → List ℕ → Type 0
HaveValues entries side atoms mask values = HoldUnder (Contains values) entries side atoms mask

-- ---- clauses that can resolve

-- an atom after the arrow of p is the same as one before the arrow of q
pub record Meets (p q : Clause) : Type 0 where
  pub i : ℕ
  pub part : Part
  pub j : ℕ
  pub a : Atom
  pub b : Atom
  pub left : slice_get p.succedent i ≡ Some a
  pub right : slice_get (part_of q part) j ≡ Some b
  pub same : is_same a b ≡ true
  pub before : side part ≡ before_arrow

-- in one order or the other
abbrev pub CanMeet : Clause → Clause → Type 0
CanMeet c d = Meets c d ⊎ Meets d c
