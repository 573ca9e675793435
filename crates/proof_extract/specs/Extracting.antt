-- The steps of a ledger that lead to a clause. Lines are numbered from 1, as the clauses that they state.
use Rattle.std.specs.Prelude.{◌≡◌, ◌⊎◌, ℕ, ◌-◌, suc, Bool, true, false, ◌==◌, List, [], ◌∷◌, length, map, take, Some, slice_get}
use Rattle.std.specs.List.{list_any, AllByRecursion}
use Rattle.dep_sets.specs.declared.deps.Assumption.{Assumption}
use Rattle.proof_steps.specs.declared.step.Statement.{Statement}
use Rattle.proof_steps.specs.declared.step.Step.{Step}
use Rattle.proof_steps.specs.declared.step.Line.{Line}
use Rattle.proof_steps.specs.Steps.{numbered}

-- ---- ancestors

abbrev pub is_in : List ℕ → ℕ → Bool
is_in numbers n = list_any (λ m. n == m) numbers

-- m is a parent of the line n
abbrev pub HasParent : List Line → ℕ → ℕ → Type 0
HasParent lines n m = (l : Line) × (numbered lines n ≡ Some l) × (is_in l.step.parents m ≡ true)

-- whether the mark of the line with this number is set
abbrev pub IsMarked : List Bool → ℕ → Type 0
IsMarked marks n = numbered marks n ≡ Some true

-- the marks are those of the line with this number and of its ancestors, and no others
pub record AreAncestors (lines : List Line) (clause : ℕ) (marks : List Bool) : Type 0 where
  pub size : length marks ≡ clause
  pub whole : IsMarked marks clause
  pub closed : (n m : ℕ) → IsMarked marks n → HasParent lines n m → IsMarked marks m
  pub needed : (m : ℕ) → IsMarked marks m → (m ≡ clause) ⊎ ((n : ℕ) × IsMarked marks n × HasParent lines n m)

-- where a marked line depends on an assumption, the clause that was split is marked
abbrev pub AreSplitsMarked : List Line → List Bool → Type 0
AreSplitsMarked lines marks = (n : ℕ) (l : Line) → IsMarked marks n → numbered lines n ≡ Some l → AllByRecursion (λ a. IsMarked marks a.split) l.stated.deps

-- ---- other numbers

abbrev pub renumbered_assumption : (ℕ → ℕ) → Assumption → Assumption
renumbered_assumption f a = record { split = f a.split; side = a.side }

abbrev pub renumbered_deps : (ℕ → ℕ) → List Assumption → List Assumption
renumbered_deps f = map (renumbered_assumption f)

abbrev pub renumbered_statement : (ℕ → ℕ) → Statement → Statement
renumbered_statement f s = record { clause = s.clause; deps = renumbered_deps f s.deps }

abbrev pub renumbered_step : (ℕ → ℕ) → Step → Step
renumbered_step f s = record { rule = s.rule; parents = map f s.parents }

-- the line with f n for each number n of a line: those of its parents, and those of the splits on which it depends
abbrev pub renumbered_line : (ℕ → ℕ) → Line → Line
renumbered_line f l = record { step = renumbered_step f l.step; stated = renumbered_statement f l.stated }

-- ---- the proof

abbrev pub marked_count : List Bool → ℕ
marked_count [] = 0
marked_count (true ∷ bs) = suc (marked_count bs)
marked_count (false ∷ bs) = marked_count bs

-- how many lines up to this number are marked
abbrev pub new_number : List Bool → ℕ → ℕ
new_number marks n = marked_count (take n marks)

abbrev pub pick_marked : {A : Type 0} → List Bool → List A → List A
pick_marked [] ls = []
pick_marked (b ∷ bs) [] = []
pick_marked (true ∷ bs) (l ∷ ls) = l ∷ pick_marked bs ls
pick_marked (false ∷ bs) (l ∷ ls) = pick_marked bs ls

-- the marked lines, in order and renumbered from 1
abbrev pub extracted : List Bool → List Line → List Line
extracted marks lines = map (renumbered_line (new_number marks)) (pick_marked marks lines)

-- the lines that lead to the clause with this number, in order and renumbered from 1; the last is that of the clause
pub record IsProofOf (lines : List Line) (clause : ℕ) (proof : List Line) : Type 0 where
  pub marks : List Bool
  pub ancestors : AreAncestors lines clause marks
  pub is : proof ≡ extracted marks lines
  pub splits : AreSplitsMarked lines marks
  pub last : (l : Line) → numbered lines clause ≡ Some l → slice_get proof (length proof - 1) ≡ Some (renumbered_line (new_number marks) l)
