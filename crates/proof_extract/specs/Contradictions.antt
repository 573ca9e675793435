-- Where a ledger states a contradiction: the empty clause, without assumptions.
use Rattle.std.specs.Prelude.{ℕ, ◌<◌, List, IsSomeAnd}
use Rattle.proof_steps.specs.declared.step.Line.{Line}
use Rattle.proof_steps.specs.Steps.{numbered}
use Rattle.proof_steps.specs.Checked.{IsContradiction}

-- the line with this number states a contradiction
abbrev pub IsContradictory : List Line → ℕ → Type 0
IsContradictory lines n = IsSomeAnd (numbered lines n) (λ l. IsContradiction l.stated)

-- and no earlier line does
pub record IsFirstContradiction (lines : List Line) (n : ℕ) : Type 0 where
  pub is : IsContradictory lines n
  pub first : (k : ℕ) → k < n → ¬ IsContradictory lines k
