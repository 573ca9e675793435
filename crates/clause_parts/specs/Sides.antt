-- The sides of a split, for any number of parts (Weidenbach 2001, the section on splitting).
use Rattle.std.specs.Prelude.{ℕ, suc, ◌-◌, Bool, not, if◌then◌else◌, List, [], ◌∷◌, ◌++◌, length, map, take, Option, Some, None, option_map, slice_get}
use Rattle.std.specs.List.{flat_map}
use Rattle.std.specs.Option.{option_map_or}
use Rattle.spl_terms.specs.declared.clause.Clause.{Clause}
use Rattle.spl_terms.specs.Lists.{numbered}
use Rattle.spl_terms.specs.Clauses.{in_order}
use Rattle.spl_truth.specs.Truth.{is_ground}
use Rattle.clause_parts.specs.Parts.{left_marks, part_by, as_true, as_false}

-- ---- the parts of a clause

-- the marks of each part, in order: the first component with a succedent atom, and all the rest
abbrev pub part_marks : Clause → Option (List (List Bool))
part_marks c = option_map (λ marks. marks ∷ map not marks ∷ []) (left_marks c)

-- a part of a split, and whether it has no variables
pub record SplitPart : Type 0 where
  pub clause : Clause
  pub no_variables : Bool

abbrev pub split_part : Clause → List Bool → SplitPart
split_part c marks = let part = in_order (part_by c marks) in record { clause = part; no_variables = is_ground part }

-- the parts of the clause, in order; nothing where it has none
abbrev pub split_parts : Clause → Option (List SplitPart)
split_parts c = option_map (map (split_part c)) (part_marks c)

-- ---- what a side assumes

-- the negation of each atom, in constraint, antecedent, succedent: a clause with that one atom on the other side of the arrow
abbrev pub negations : Clause → List Clause
negations c = map (λ a. in_order (as_true a)) (c.constraint ++ c.antecedent) ++ map (λ a. in_order (as_false a)) c.succedent

-- the negations of the atoms of those parts that have no variables
abbrev pub ground_negations : List SplitPart → List Clause
ground_negations parts = flat_map (λ p. if p.no_variables then negations p.clause else []) parts

-- what this side assumes, from 1: its part, and the negation of each atom of each part before it that has no variables;
-- nothing where there is no such part
abbrev pub side_clauses : ℕ → List SplitPart → List Clause
side_clauses side parts = option_map_or (λ p. p.clause ∷ ground_negations (take (side - 1) parts)) (numbered parts side) []

-- the part comes first, and negation k behind it
abbrev pub place_of : Option ℕ → ℕ
place_of None = 0
place_of (Some k) = suc k

-- what one step assumes: the part of the side, or one of its negations
abbrev pub assumed : ℕ → Option ℕ → List SplitPart → Option Clause
assumed side negated parts = slice_get (side_clauses side parts) (place_of negated)
