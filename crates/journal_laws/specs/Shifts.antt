-- Steps that were computed over a ledger, moved to where they stand once others have appended steps in between.
use Rattle.std.specs.Prelude.{ℕ, Bool, true, false, ◌+◌, nat_le, if◌then◌else◌, List, map}
use Rattle.proof_steps.specs.declared.step.Rule.{Rule}
use Rattle.proof_steps.specs.declared.step.Rule.TheVariants.{Assume, CaseLeft, CaseRight, CaseBoth}
use Rattle.proof_steps.specs.declared.step.Step.{Step}
use Rattle.proof_steps.specs.declared.step.Line.{Line}

-- the rules of splits, whose assumptions name the split clause by its number
abbrev pub is_split_rule : Rule → Bool
is_split_rule (Assume side negated) = true
is_split_rule CaseLeft = true
is_split_rule CaseRight = true
is_split_rule CaseBoth = true
is_split_rule _ = false

-- a number up to base is that of a line that was there; the others are those of new steps
abbrev pub shifted_number : ℕ → ℕ → ℕ → ℕ
shifted_number base by n = if nat_le n base then n else n + by

abbrev pub shifted_step : ℕ → ℕ → Step → Step
shifted_step base by step = record { rule = step.rule; parents = map (shifted_number base by) step.parents }

abbrev pub shifted_line : ℕ → ℕ → Line → Line
shifted_line base by l = record { step = shifted_step base by l.step; stated = l.stated }

abbrev pub shifted : ℕ → ℕ → List Line → List Line
shifted base by chain = map (shifted_line base by) chain
