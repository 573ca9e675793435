-- Notes that are answered, with what they hide and for which reasons.
use Rattle.std.specs.Prelude.{◌≡◌, ◌⊎◌, ◌<◌, List, [], ◌∷◌, Some}
use Rattle.spl_truth.specs.Redundancy.{Subsumes}
use Rattle.proof_steps.specs.declared.step.Statement.{Statement}
use Rattle.proof_steps.specs.Steps.{numbered}
use Rattle.proof_steps.specs.Covering.{IsVariant}
use Rattle.calculus.specs.declared.kept.Kept.{Kept}
use Rattle.calculus.specs.declared.note.HideNote.{HideNote}
use Rattle.calculus.specs.Inferences.{clause_of}
use Rattle.calculus.specs.Notes.{reasons_of, IsJustified}

-- the note hides the other clause by the given one alone, and is justified wherever both have their numbers
pub record IsHiddenBy (given other : Kept) (note : HideNote) : Type 0 where
  pub hides : note.hidden ≡ other.number
  pub reason : reasons_of note.why ≡ given.number ∷ []
  pub justified : (earlier : List Statement) → numbered earlier given.number ≡ Some given.statement → numbered earlier other.number ≡ Some other.statement → IsJustified note earlier

-- the given clause doesn't subsume the other one, or is a variant of it with the greater number
abbrev pub IsNotHidden : Kept → Kept → Type 0
IsNotHidden given other = (Subsumes (clause_of given) (clause_of other) → ⊥) ⊎ (IsVariant (clause_of given) (clause_of other) × (other.number < given.number))
