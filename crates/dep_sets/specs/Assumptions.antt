-- Sets of assumptions as lists in ascending order (Weidenbach 2001, splitting: a clause's split dependencies).
use Rattle.std.specs.Prelude.{◌≡◌, ◌⊎◌, ℕ, ◌<◌, Bool, not, ◌&&◌, ◌||◌, ◌==◌, nat_lt, if◌then◌else◌, List, [], ◌∷◌, filter, Option, None, Some, suc}
use Rattle.std.specs.List.{list_any}
use Rattle.dep_sets.specs.declared.deps.Assumption.{Assumption}

-- the same side of the same split
abbrev pub is_same_assumption : Assumption → Assumption → Bool
is_same_assumption a b = (a.split == b.split) && (a.side == b.side)

-- by the number of the split clause, then by the side
abbrev pub is_before : Assumption → Assumption → Bool
is_before a b = nat_lt a.split b.split || ((a.split == b.split) && nat_lt a.side b.side)

abbrev pub IsBefore : Assumption → Assumption → Type 0
IsBefore a b = (a.split < b.split) ⊎ ((a.split ≡ b.split) × (a.side < b.side))

-- each assumption is before the one that follows it, so none stands twice
abbrev pub IsAscending : List Assumption → Type 0
IsAscending [] = Unit {0}
IsAscending (a ∷ []) = Unit {0}
IsAscending (a ∷ b ∷ more) = IsBefore a b × IsAscending (b ∷ more)

-- whether the assumption is in the set
abbrev pub contains_assumption : List Assumption → Assumption → Bool
contains_assumption deps a = list_any (is_same_assumption a) deps

-- the set with the assumption
abbrev pub with_assumption : Assumption → List Assumption → List Assumption
with_assumption a [] = a ∷ []
with_assumption a (b ∷ more) = if is_before a b then a ∷ b ∷ more else (if is_same_assumption a b then b ∷ more else b ∷ with_assumption a more)

-- what is in one of two sets
abbrev pub united : List Assumption → List Assumption → List Assumption
united [] more = more
united (a ∷ deps) more = with_assumption a (united deps more)

-- the set without the assumption
abbrev pub without_assumption : Assumption → List Assumption → List Assumption
without_assumption a = filter (λ b. not (is_same_assumption a b))

-- a place of the tail, as a place of the whole; else the head's, if the head counts
abbrev pub place_after : Bool → Option ℕ → Option ℕ
place_after here (Some i) = Some (suc i)
place_after here None = if here then Some 0 else None

-- the last place of the path, from 0, whose assumption is in the set
abbrev pub deepest_place : List Assumption → List Assumption → Option ℕ
deepest_place deps [] = None
deepest_place deps (a ∷ path) = place_after (contains_assumption deps a) (deepest_place deps path)
