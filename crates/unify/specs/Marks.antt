-- Marks of variables that were looked through while a variable is sought.
use Rattle.std.specs.Prelude.{◌≡◌, ℕ, Bool, true, false, List, unwrap_or}
use Rattle.std.specs.List.{slice_get}
use Rattle.spl_terms.specs.declared.term.Term.{Term}
use Rattle.spl_truth.specs.Unifiers.{occurs}
use Rattle.unify.specs.Bindings.{substitution}

-- a variable past the end has no mark
abbrev pub has_mark : List Bool → ℕ → Bool
has_mark marks v = unwrap_or (slice_get marks v) false

-- x does not occur in what a marked variable stands for
abbrev pub AreApart : ℕ → List (ℕ × Term) → List Bool → Type 0
AreApart x made marks = (v : ℕ) → has_mark marks v ≡ true → occurs x (substitution made v) ≡ false
