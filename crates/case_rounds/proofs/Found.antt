-- Lines that are filed, and what was found among them.
use Rattle.std.specs.Prelude.{Contains, MatchBool}
use Rattle.std.specs.List.{slice_get}
use Rattle.std.proofs.Common.{◌≡◌, ◌∙◌, inl, inr, ℕ, Bool, true, false, List, [], ◌∷◌, ◌++◌, length, Some, sym, ap, subst}
use Rattle.spl_terms.specs.declared.clause.Clause.{Clause}
use Rattle.spl_truth.specs.Redundancy.{Subsumes}
use Rattle.proof_steps.specs.declared.step.Line.{Line}
use Rattle.clause_filing.specs.declared.filing.Entry.{Entry}
use Rattle.clause_filing.specs.Filings.{Keeps, IsFiledClause}
use Rattle.case_view.specs.Views.{IsIn}
use Rattle.case_rounds.specs.Filed.{AreFiledLines}
use Rattle.case_rounds.proofs.Lines.{at_end}

-- one more line is filed
pub pushed : (old new : List Line) (l : Line) (before after : List Entry) (place : ℕ) → new ≡ old ++ l ∷ [] → AreFiledLines old before → Keeps before after → place ≡ length old → IsFiledClause after l.stated.clause place → AreFiledLines new after
pushed old new l before after place is filed keeps at_place own i x at = elim (at_end old l i x (ap (λ xs. slice_get xs i) (sym is) ∙ at)) [
  | inl b ↦ (let f = filed i x b.1 in (f.0, f.1, keeps f.0 f.1 f.2, f.3, f.4, f.5))
  | inr n ↦ subst (IsFiledClause after x.stated.clause) (at_place ∙ sym n.0) (subst (λ (y : Line). IsFiledClause after y.stated.clause place) n.1 own)
]

-- one of the lines states a clause that subsumes the clause
abbrev pub IsSubsumedBy : List Line → Clause → Type 0
IsSubsumedBy lines clause = (l : Line) × IsIn lines l × Subsumes l.stated.clause clause

-- where none of those that were found states this very clause, none does
pub told : (lines : List Line) (entries : List Entry) (clause : Clause) (places : List ℕ) (b : Bool) → AreFiledLines lines entries → ((v : ℕ) → IsFiledClause entries clause v → Contains places v)
    → MatchBool b (IsSubsumedBy lines clause) ((n : ℕ) (l : Line) → Contains places n → slice_get lines n ≡ Some l → ¬ (l.stated.clause ≡ clause))
    → MatchBool b (IsSubsumedBy lines clause) ((l : Line) → IsIn lines l → ¬ (l.stated.clause ≡ clause))
told lines entries clause places true filed found h = h
told lines entries clause places false filed found h = λ l at same. h at.0 l (found at.0 (subst (λ d. IsFiledClause entries d at.0) same (filed at.0 l at.1))) at.1 same
