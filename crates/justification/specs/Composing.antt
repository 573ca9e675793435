-- How notes compose: a reason that was hidden is replaced by the reasons for which it was.
use Rattle.std.specs.Prelude.{◌≡◌, ◌⊎◌, ℕ, List, [], map, Contains}
use Rattle.spl_truth.specs.declared.replace.Subst.{Subst}
use Rattle.proof_steps.specs.declared.step.Statement.{Statement}
use Rattle.calculus.specs.declared.note.Edit.{Edit}
use Rattle.calculus.specs.declared.note.Why.{Why}
use Rattle.calculus.specs.declared.note.Why.TheVariants.{Tautology, Subsumed, Rewritten}
use Rattle.calculus.specs.declared.note.HideNote.{HideNote}
use Rattle.calculus.specs.Notes.{reasons_of, IsJustified}

-- the numbers of the equations of a note
abbrev pub equations_of : Why → List ℕ
equations_of Tautology = []
equations_of (Subsumed by s) = []
equations_of (Rewritten reduct s edits) = map (λ (e : Edit). e.equation) edits

-- the note has no edits
abbrev pub HasNoEdits : Why → Type 0
HasNoEdits why = equations_of why ≡ []

-- a reason of the first note that the second one doesn't hide, or a reason of the second one
abbrev pub IsReasonOfEither : HideNote → HideNote → ℕ → Type 0
IsReasonOfEither note other n = (Contains (reasons_of note.why) n × (n ≡ other.hidden → ⊥)) ⊎ Contains (reasons_of other.why) n

-- a justified note hides the clause that the first one hides, by reasons of either, without the one that the second hides
pub record AreComposed (note other : HideNote) (earlier : List Statement) : Type 0 where
  pub whole : HideNote
  pub hides : whole.hidden ≡ note.hidden
  pub justified : IsJustified whole earlier
  pub reasons : (n : ℕ) → Contains (reasons_of whole.why) n → IsReasonOfEither note other n

-- the two notes may be composed: the second one has no edits and doesn't lead back to the clause that the first one hides,
-- and what it hides is no equation of the first one
pub record CanCompose (note other : HideNote) : Type 0 where
  pub short : HasNoEdits other.why
  pub away : Contains (reasons_of other.why) note.hidden → ⊥
  pub apart : Contains (equations_of note.why) other.hidden → ⊥
