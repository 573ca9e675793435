-- What is promised of a hidden clause: it follows from the clauses for which it was hidden.
use Rattle.std.specs.Prelude.{◌≡◌, ℕ, not, ◌==◌, List, ◌++◌, map, filter_map, Some, IsSomeAnd}
use Rattle.std.specs.List.{filter, slice_get}
use Rattle.spl_terms.specs.declared.clause.Clause.{Clause}
use Rattle.spl_terms.specs.InOrder.{IsInOrder}
use Rattle.spl_truth.specs.Truth.{Follows}
use Rattle.proof_steps.specs.declared.step.Statement.{Statement}
use Rattle.proof_steps.specs.Steps.{numbered}
use Rattle.calculus.specs.declared.note.HideNote.{HideNote}
use Rattle.calculus.specs.Notes.{reasons_of}

-- each statement's clause is in order
abbrev pub AreStatedInOrder : List Statement → Type 0
AreStatedInOrder earlier = (k : ℕ) (s : Statement) → slice_get earlier k ≡ Some s → IsInOrder s.clause

-- the clauses with these numbers; where there is none it is left out
abbrev pub clauses_numbered : List Statement → List ℕ → List Clause
clauses_numbered earlier numbers = map (λ s. s.clause) (filter_map (numbered earlier) numbers)

-- the hidden clause is there, and follows from the reasons
abbrev pub HasFollowing : HideNote → List Statement → Type 0
HasFollowing note earlier = IsSomeAnd (numbered earlier note.hidden) (λ hidden. Follows (clauses_numbered earlier (reasons_of note.why)) hidden.clause)

-- a reason that was hidden is replaced by the reasons for which it was: the hidden clause follows from these and the others
abbrev pub HasFollowingFurther : HideNote → HideNote → List Statement → Type 0
HasFollowingFurther note other earlier =
    IsSomeAnd (numbered earlier note.hidden) (λ hidden. Follows (clauses_numbered earlier (filter (λ n. not (n == other.hidden)) (reasons_of note.why) ++ reasons_of other.why)) hidden.clause)
