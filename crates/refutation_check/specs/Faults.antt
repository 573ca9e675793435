-- What is wrong with a list of lines that is no proof: its first line that is wrong, or the want of the empty clause at
-- its end.
use Rattle.std.specs.Prelude.{◌≡◌, ◌≢◌, ◌⊎◌, ℕ, ◌≤◌, ◌-◌, ⊤, List, length, take, Option, Some, None, IsSomeAnd, Result, Err}
use Rattle.std.specs.List.{All}
use Rattle.spl_terms.specs.declared.clause.Clause.{Clause}
use Rattle.spl_terms.specs.Lists.{numbered}
use Rattle.proof_steps.specs.declared.step.Statement.{Statement}
use Rattle.proof_steps.specs.declared.step.Line.{Line}
use Rattle.proof_steps.specs.Steps.{conclude, within}
use Rattle.proof_steps.specs.Checked.{stated, AreConclusions, EndsEmpty}
use Rattle.refutation_check.specs.declared.fault.CheckKind.{CheckKind}
use Rattle.refutation_check.specs.declared.fault.CheckKind.TheVariants as kinds
use Rattle.refutation_check.specs.declared.fault.CheckFault.{CheckFault}
use Rattle.refutation_check.specs.declared.fault.CheckError.{CheckError}
use Rattle.refutation_check.specs.declared.fault.CheckError.TheVariants as errors
use Rattle.refutation_check.specs.declared.fault.Refutation.{Refutation}

-- ---- one line, where the lines before it state these statements

-- each parent is the number of an earlier line
abbrev pub HasParents : List Statement → Line → Type 0
HasParents earlier l = All (λ n. (1 ≤ n) × (n ≤ length earlier)) l.step.parents

-- what the line's step concludes; nothing where its rule doesn't apply, and past 4,096 symbols
abbrev pub conclusion : List Clause → List Statement → Line → Option Statement
conclusion input earlier l = within (conclude input earlier l.step)

-- neither statement is told
abbrev pub TellsNeither : CheckFault → Type 0
TellsNeither f = (f.found ≡ None) × (f.wanted ≡ None)

-- what the line states is told as found, and what its step concludes as wanted
abbrev pub TellsBoth : List Clause → List Statement → Line → CheckFault → Type 0
TellsBoth input earlier l f = (f.found ≡ Some l.stated) × (f.wanted ≡ conclusion input earlier l)

-- a parent is no earlier line
pub record IsParentFault (input : List Clause) (earlier : List Statement) (l : Line) (f : CheckFault) : Type 0 where
  pub missing : ¬ HasParents earlier l
  pub tells : TellsNeither f

-- the parents are there, but the step concludes nothing
pub record IsShapeFault (input : List Clause) (earlier : List Statement) (l : Line) (f : CheckFault) : Type 0 where
  pub parents : HasParents earlier l
  pub nothing : conclusion input earlier l ≡ None
  pub tells : TellsNeither f

-- the line states another clause than its step concludes
pub record IsClauseFault (input : List Clause) (earlier : List Statement) (l : Line) (f : CheckFault) : Type 0 where
  pub differs : IsSomeAnd (conclusion input earlier l) (λ s. s.clause ≢ l.stated.clause)
  pub tells : TellsBoth input earlier l f

-- the line states the clause that its step concludes, with other dependencies
pub record IsDependenciesFault (input : List Clause) (earlier : List Statement) (l : Line) (f : CheckFault) : Type 0 where
  pub differs : IsSomeAnd (conclusion input earlier l) (λ s. (s.clause ≡ l.stated.clause) × (s.deps ≢ l.stated.deps))
  pub tells : TellsBoth input earlier l f

-- what a fault of this kind says of the line
abbrev pub IsWrongBy : CheckKind → List Clause → List Statement → Line → CheckFault → Type 0
IsWrongBy kinds.Parent = IsParentFault
IsWrongBy kinds.Shape = IsShapeFault
IsWrongBy kinds.Clause = IsClauseFault
IsWrongBy kinds.Dependencies = IsDependenciesFault
IsWrongBy kinds.Last = λ input earlier l f. ⊥

-- ---- the list

-- the line with the fault's number is wrong in this way, and each line before it states what its step concludes
pub record IsFirstFault (IsWrong : List Clause → List Statement → Line → CheckFault → Type 0) (input : List Clause) (lines : List Line) (f : CheckFault) : Type 0 where
  pub line : Line
  pub there : numbered lines f.step ≡ Some line
  pub before : AreConclusions input (take (f.step - 1) lines)
  pub wrong : IsWrong input (stated (take (f.step - 1) lines)) line f

-- each line states what its step concludes, but the last one isn't the empty clause without dependencies
pub record IsLastFault (input : List Clause) (lines : List Line) (f : CheckFault) : Type 0 where
  pub each : AreConclusions input lines
  pub ends : ¬ EndsEmpty lines
  pub last : f.step ≡ length lines
  pub tells : TellsNeither f

-- the fault is what is wrong with the lines
abbrev pub IsFault : List Clause → List Line → CheckFault → Type 0
IsFault input lines f = IsFirstFault (IsWrongBy f.kind) input lines f ⊎ ((f.kind ≡ kinds.Last) × IsLastFault input lines f)

-- ---- answers

-- where a fault of this kind is answered, this holds of it
abbrev pub OnFault : CheckKind → Result Refutation CheckError → (CheckFault → Type 0) → Type 0
OnFault kind answer P = (f : CheckFault) → answer ≡ Err (errors.Fault f) → f.kind ≡ kind → P f

-- this is answered, want of memory apart
abbrev pub ComesUnlessMemory : Result Refutation CheckError → Result Refutation CheckError → Type 0
ComesUnlessMemory expected answer = (answer ≡ expected) ⊎ (answer ≡ Err errors.Memory)

-- where a fault is the error, this holds of it
abbrev pub IsErrorOf : (CheckFault → Type 0) → CheckError → Type 0
IsErrorOf P (errors.Fault f) = P f
IsErrorOf P errors.Memory = ⊤

-- how the statement that was found differs from the one that is wanted
abbrev pub Differ : CheckKind → Statement → Statement → Type 0
Differ kinds.Parent found wanted = ⊥
Differ kinds.Shape found wanted = ⊥
Differ kinds.Clause found wanted = wanted.clause ≢ found.clause
Differ kinds.Dependencies found wanted = (wanted.clause ≡ found.clause) × (wanted.deps ≢ found.deps)
Differ kinds.Last found wanted = ⊥

-- the fault of the line with this number where the statements differ
pub record IsMismatch (number : ℕ) (found wanted : Statement) (f : CheckFault) : Type 0 where
  pub step : f.step ≡ number
  pub differ : Differ f.kind found wanted
  pub found_told : f.found ≡ Some found
  pub wanted_told : f.wanted ≡ Some wanted
