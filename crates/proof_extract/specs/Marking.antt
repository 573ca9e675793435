-- What marking and counting do.
use Rattle.std.specs.Prelude.{◌≡◌, ◌⊎◌, ℕ, ◌+◌, ◌<◌, ◌≤◌, Bool, true, List, [], ◌∷◌, length, Option, Some}
use Rattle.proof_steps.specs.declared.step.Line.{Line}
use Rattle.proof_extract.specs.Extracting.{is_in, HasParent, IsMarked, marked_count, renumbered_line}

abbrev pub ParentsComeBefore : List Line → Type 0
ParentsComeBefore lines = (n m : ℕ) → HasParent lines n m → (0 < m) × (m < n)

-- these numbers were marked too
pub record Marks (numbers : List ℕ) (old new : List Bool) : Type 0 where
  pub size : length new ≡ length old
  pub keeps : (n : ℕ) → IsMarked old n → IsMarked new n
  pub sets : (n : ℕ) → is_in numbers n ≡ true → 0 < n → n ≤ length old → IsMarked new n
  pub only : (n : ℕ) → IsMarked new n → IsMarked old n ⊎ (is_in numbers n ≡ true)

-- if the line with this number was marked, its parents were marked too
pub record MarksParents (lines : List Line) (number : ℕ) (old new : List Bool) : Type 0 where
  pub size : length new ≡ length old
  pub keeps : (n : ℕ) → IsMarked old n → IsMarked new n
  pub sets : (n : ℕ) → IsMarked old number → HasParent lines number n → 0 < n → n ≤ length old → IsMarked new n
  pub only : (n : ℕ) → IsMarked new n → IsMarked old n ⊎ (IsMarked old number × HasParent lines number n)

-- for each place how many marks are set up to it, where so many were set before the list
abbrev pub counts_from : ℕ → List Bool → List ℕ
counts_from n [] = []
counts_from n (b ∷ bs) = (n + marked_count (b ∷ [])) ∷ counts_from (n + marked_count (b ∷ [])) bs

-- the line, renumbered, if its mark is set
abbrev pub line_if_marked : (ℕ → ℕ) → Option Bool → Option Line → List Line
line_if_marked f (Some true) (Some l) = renumbered_line f l ∷ []
line_if_marked f _ _ = []
