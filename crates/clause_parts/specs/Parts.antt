-- The two parts of a clause that is split (Weidenbach 2001, splitting: parts that share no variables).
use Rattle.std.specs.Prelude.{ℕ, zero, suc, ◌+◌, Bool, true, false, not, ◌||◌, ◌==◌, if◌then◌else◌, List, [], ◌∷◌, length, map, take, drop, replicate, Option, Some, None, option_map, option_and_then, slice_get, slice_set, nat_lt}
use Rattle.std.specs.List.{list_any}
use Rattle.spl_terms.specs.declared.atom.Atom.{Atom}
use Rattle.spl_terms.specs.declared.clause.Clause.{Clause}
use Rattle.spl_terms.specs.Clauses.{atom_variables, atoms_of, is_of_sort, in_order}
use Rattle.spl_truth.specs.Truth.{is_ground}
use Rattle.clause_parts.specs.declared.parts.Parts.{Parts}

abbrev pub Parted : Type 0
Parted = Parts

-- ---- components

-- the variables of each atom, in constraint, antecedent, succedent
abbrev pub variable_lists : Clause → List (List ℕ)
variable_lists c = map atom_variables (atoms_of c)

-- whether one variable is in both lists
abbrev pub share : List ℕ → List ℕ → Bool
share vs ws = list_any (λ v. list_any (λ w. v == w) ws) vs

-- the items whose marks are set
abbrev pub marked : {A : Type 0} → List Bool → List A → List A
marked [] xs = []
marked (b ∷ bs) [] = []
marked (true ∷ bs) (x ∷ xs) = x ∷ marked bs xs
marked (false ∷ bs) (x ∷ xs) = marked bs xs

-- the marks of these atoms, and one for each that shares a variable with one of the others
abbrev pub spread_from : List (List ℕ) → List (List ℕ) → List Bool → List Bool
spread_from others [] bs = []
spread_from others (vs ∷ more) [] = []
spread_from others (vs ∷ more) (b ∷ bs) = (b || list_any (share vs) others) ∷ spread_from others more bs

-- the marks, and one for each atom that shares a variable with a marked one
abbrev pub spread : List (List ℕ) → List Bool → List Bool
spread atoms marks = spread_from (marked marks atoms) atoms marks

abbrev pub spread_times : ℕ → List (List ℕ) → List Bool → List Bool
spread_times zero atoms marks = marks
spread_times (suc n) atoms marks = spread_times n atoms (spread atoms marks)

-- a mark for the atom at this place alone
abbrev pub only : ℕ → List (List ℕ) → List Bool
only k atoms = slice_set (replicate (length atoms) false) k true

-- the atoms to which a chain of shared variables leads from the one at this place
abbrev pub component : ℕ → List (List ℕ) → List Bool
component k atoms = spread_times (length atoms) atoms (only k atoms)

-- ---- the parts of a clause by marks of its atoms, in constraint, antecedent, succedent

abbrev pub constraint_marks : Clause → List Bool → List Bool
constraint_marks c marks = take (length c.constraint) marks

abbrev pub antecedent_marks : Clause → List Bool → List Bool
antecedent_marks c marks = take (length c.antecedent) (drop (length c.constraint) marks)

abbrev pub succedent_marks : Clause → List Bool → List Bool
succedent_marks c marks = drop (length c.constraint + length c.antecedent) marks

-- the marked atoms of each part
abbrev pub part_by : Clause → List Bool → Clause
part_by c marks = record { constraint = marked (constraint_marks c marks) c.constraint; antecedent = marked (antecedent_marks c marks) c.antecedent; succedent = marked (succedent_marks c marks) c.succedent }

abbrev pub has_succedent : Clause → List Bool → Bool
has_succedent c marks = list_any (λ b. b) (succedent_marks c marks)

abbrev pub leaves_succedent : Clause → List Bool → Bool
leaves_succedent c marks = list_any not (succedent_marks c marks)

-- the component of the first atom, from this place on and for so many places, whose component has a succedent atom
abbrev pub first_head : ℕ → ℕ → Clause → Option (List Bool)
first_head zero k c = None
first_head (suc n) k c = let marks = component k (variable_lists c) in if has_succedent c marks then Some marks else first_head n (suc k) c

abbrev pub if_rest : Clause → List Bool → Option (List Bool)
if_rest c marks = if leaves_succedent c marks then Some marks else None

-- the first component with a succedent atom, where the rest has a succedent atom too
abbrev pub left_marks : Clause → Option (List Bool)
left_marks c = option_and_then (if_rest c) (first_head (length (atoms_of c)) 0 c)

-- that component, and all the rest
abbrev pub left_of : Clause → Option Clause
left_of c = option_map (part_by c) (left_marks c)

abbrev pub right_of : Clause → Option Clause
right_of c = option_map (λ marks. part_by c (map not marks)) (left_marks c)

abbrev pub parted_by : Clause → List Bool → Parted
parted_by c marks = let left = in_order (part_by c marks) in record { left = left; right = in_order (part_by c (map not marks)); left_ground = is_ground left }

-- both in order, and whether the first one is without variables
abbrev pub parts_of : Clause → Option Parted
parts_of c = option_map (parted_by c) (left_marks c)

-- as they stand: side 1 is the left part, and side 2 the right part
abbrev pub part_of_side : ℕ → Clause → Option Clause
part_of_side side c = if side == 1 then left_of c else (if side == 2 then right_of c else None)

-- ---- the negation of one atom

abbrev pub as_false : Atom → Clause
as_false a = if is_of_sort a then record { constraint = a ∷ []; antecedent = []; succedent = [] } else record { constraint = []; antecedent = a ∷ []; succedent = [] }

abbrev pub as_true : Atom → Clause
as_true a = record { constraint = []; antecedent = []; succedent = a ∷ [] }

-- the atom with this number, in constraint, antecedent, succedent, on the other side of the arrow
abbrev pub negation : ℕ → Clause → Option Clause
negation k c = if nat_lt k (length c.constraint + length c.antecedent) then option_map as_true (slice_get (atoms_of c) k) else option_map as_false (slice_get (atoms_of c) k)

abbrev pub negated_atom : ℕ → Clause → Option Clause
negated_atom k c = option_map in_order (negation k c)
