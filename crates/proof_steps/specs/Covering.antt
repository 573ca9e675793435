-- Clauses that need no place of their own: variants, and what a set of clauses covers (Weidenbach 2001, section on
-- reductions).
use Rattle.std.specs.Prelude.{◌≡◌, ◌⊎◌, ℕ, true, List, Some}
use Rattle.spl_terms.specs.declared.clause.Part.{Part}
use Rattle.spl_terms.specs.declared.clause.Clause.{Clause}
use Rattle.spl_terms.specs.Clauses.{renumbered}
use Rattle.spl_truth.specs.Redundancy.{is_tautology, Subsumes}
use Rattle.proof_steps.specs.declared.step.Statement.{Statement}
use Rattle.proof_steps.specs.declared.step.Line.{Line}
use Rattle.proof_steps.specs.Checked.{resolution_of_lines}

-- equal, once the variables of both are numbered by first occurrence
abbrev pub IsVariant : Clause → Clause → Type 0
IsVariant c d = renumbered c ≡ renumbered d

-- one of these clauses subsumes the clause
pub record IsSubsumedByOne (These : Clause → Type 0) (c : Clause) : Type 0 where
  pub by : Clause
  pub among : These by
  pub subsumes : Subsumes by c

-- a tautology, or subsumed by one of these clauses
abbrev pub IsCoveredBy : (Clause → Type 0) → Clause → Type 0
IsCoveredBy These c = (is_tautology c ≡ true) ⊎ IsSubsumedByOne These c

-- what resolution concludes from the lines m and n, at any places, is covered by these clauses
abbrev pub AreCoveredBy : (Clause → Type 0) → List Line → ℕ → ℕ → Type 0
AreCoveredBy These lines m n = (i : ℕ) (part : Part) (j : ℕ) (s : Statement) → resolution_of_lines i part j m n lines ≡ Some s → IsCoveredBy These s.clause
