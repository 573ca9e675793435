-- Atoms that are to be mapped to different places of another clause, and what a search for such places answers.
use Rattle.std.specs.Prelude.{◌≡◌, ℕ, ◌+◌, ◌-◌, ◌<◌, ◌≤◌, Bool, true, false, ⊤, List, ◌∷◌, ◌++◌, length, map, Some, IsSomeAnd, slice_get, get_or}
use Rattle.std.specs.List.{AllByRecursion}
use Rattle.spl_terms.specs.declared.term.Term.{Term}
use Rattle.spl_terms.specs.declared.atom.Atom.{Atom}
use Rattle.spl_terms.specs.declared.clause.Clause.{Clause}
use Rattle.spl_terms.specs.Clauses.{atom_terms, is_same, replace_in_atom}
use Rattle.spl_terms.specs.SameLaws.{flipped}
use Rattle.spl_truth.specs.Unifiers.{HaveVariablesBelow}
use Rattle.unify.specs.Bindings.{bound_to}
use Rattle.unify.specs.Matches.{Agrees}
use Rattle.subsume.specs.declared.atoms.AtomToMap.{AtomToMap}

-- ---- atoms to map

-- an atom, the atoms to one of which it is to be mapped, and the number of the first of these among all atoms of their clause
abbrev pub ToMap : Type 0
ToMap = Atom × List Atom × ℕ

abbrev pub plain_one : AtomToMap → ToMap
plain_one a = (a.atom.now, a.targets.now, a.first)

abbrev pub plain : List AtomToMap → List ToMap
plain atoms = map plain_one atoms

-- each of these atoms is to be mapped to one of the targets
abbrev pub to_map : List Atom → List Atom → ℕ → List ToMap
to_map atoms targets first = map (λ a. (a, targets, first)) atoms

-- the atoms of each part of c, with that part of d
abbrev pub all_to_map : Clause → Clause → List ToMap
all_to_map c d =
    to_map c.constraint d.constraint 0
    ++ to_map c.antecedent d.antecedent (length d.constraint)
    ++ to_map c.succedent d.succedent (length d.constraint + length d.antecedent)

-- each has its variables below a number, and its targets have numbers below another one
abbrev pub AreWithin : ℕ → ℕ → List ToMap → Type 0
AreWithin vars count atoms = AllByRecursion (λ a. HaveVariablesBelow vars (atom_terms a.0) × (a.2 + length a.1 ≤ count)) atoms

-- ---- places

-- the place is that of a target, and the atom becomes the same
abbrev pub CanGo : (ℕ → Term) → ToMap → ℕ → Type 0
CanGo by a place = (a.2 ≤ place) × IsSomeAnd (slice_get a.1 (place - a.2)) (λ b. is_same (replace_in_atom by a.0) b ≡ true)

-- each atom goes to a place of its own that is not used yet
pub record ArePlaced (by : ℕ → Term) (used : List Bool) (atoms : List ToMap) : Type 0 where
  pub place : ℕ → ℕ
  pub can : (k : ℕ) (a : ToMap) → slice_get atoms k ≡ Some a → CanGo by a (place k)
  pub apart : (k l : ℕ) → k < length atoms → l < length atoms → place k ≡ place l → k ≡ l
  pub free : (k : ℕ) → k < length atoms → get_or used (place k) false ≡ false

-- an equation with its sides exchanged, where that is asked for
abbrev pub turned_if : Bool → Atom → Atom
turned_if true a = flipped a
turned_if false a = a

-- the first atom goes to its target with this number
pub record AreFirstPlaced (by : ℕ → Term) (used : List Bool) (first : ToMap) (rest : List ToMap) (place : ℕ) : Type 0 where
  pub placed : ArePlaced by used (first ∷ rest)
  pub is : placed.place 0 ≡ first.2 + place

-- and becomes this target, with the sides of an equation exchanged where `turned` says so
pub record AreFirstPlacedAs (turned : Bool) (by : ℕ → Term) (used : List Bool) (first : ToMap) (rest : List ToMap) (place : ℕ) : Type 0 where
  pub placed : AreFirstPlaced by used first rest place
  pub becomes : IsSomeAnd (slice_get first.1 place) (λ b. turned_if turned (replace_in_atom by first.0) ≡ b)

-- ---- a search

-- on true, all that agrees with the new bindings does so with the old ones and does what is asked; on false, nothing that
-- agrees with the old ones does what is asked
abbrev pub PlacedOrNot : (asked : (ℕ → Term) → Type 0) → (old new : List (ℕ × Term)) → Bool → Type 0
PlacedOrNot asked old new true = (g : ℕ → Term) → Agrees g new → Agrees g old × asked g
PlacedOrNot asked old new false = (g : ℕ → Term) → Agrees g old → asked g → ⊥

-- only variables below a number are bound
abbrev pub AreBoundBelow : ℕ → List (ℕ × Term) → Type 0
AreBoundBelow vars made = (v : ℕ) (t : Term) → bound_to made v ≡ Some t → v < vars

-- on false, the places in use and the bindings are what they were
abbrev pub IsRestored : (used used' : List Bool) → (found found' : ℕ × List (ℕ × Term)) → Bool → Type 0
IsRestored used used' found found' true = ⊤
IsRestored used used' found found' false = (used' ≡ used) × (found' ≡ found)
