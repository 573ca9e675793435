-- How marks are worked out, list by list.
use Rattle.std.specs.Prelude.{ℕ, Bool, true, false, ◌||◌, List, [], ◌∷◌, ◌++◌}
use Rattle.clause_parts.specs.Parts.{share}

-- the variables of the marked atoms
abbrev pub marked_variables : List Bool → List (List ℕ) → List ℕ
marked_variables [] lists = []
marked_variables (b ∷ bs) [] = []
marked_variables (true ∷ bs) (vs ∷ more) = vs ++ marked_variables bs more
marked_variables (false ∷ bs) (vs ∷ more) = marked_variables bs more

-- the marks, and one for each atom that has one of these variables
abbrev pub spread_over : List ℕ → List (List ℕ) → List Bool → List Bool
spread_over variables [] bs = []
spread_over variables (vs ∷ more) [] = []
spread_over variables (vs ∷ more) (b ∷ bs) = (b || share vs variables) ∷ spread_over variables more bs

-- the list, if it is marked
abbrev pub all_if : {A : Type 0} → Bool → List A → List A
all_if true xs = xs
all_if false xs = []
