-- What a call appends of a list of inferences, and where it stops.
use Rattle.std.specs.Prelude.{◌≡◌, ℕ, ◌<◌, ◌≤◌, min, ⊤, List, [], ◌∷◌, ◌++◌, Result, Ok, Err}
use Rattle.std.specs.List.{AllByRecursion}
use Rattle.spl_terms.specs.Clauses.{clause_symbols}
use Rattle.proof_steps.specs.declared.step.Line.{Line}
use Rattle.superposition.specs.declared.error.InferError.{InferError}
use Rattle.superposition.specs.declared.error.InferError.TheVariants.{Big, Memory}

-- the conclusion has at most 4,096 symbols
abbrev pub CanBeAppended : Line → Type 0
CanBeAppended l = clause_symbols l.stated.clause ≤ 4096

-- the conclusion has more than 4,096 symbols, namely so many, or 1,000,000 where there are more
abbrev pub IsBig : ℕ → Line → Type 0
IsBig symbols l = (4096 < clause_symbols l.stated.clause) × (symbols ≡ min (clause_symbols l.stated.clause) 1000000)

-- the error comes before these lines: `Big` exactly where the first one is too big; want of memory is free
abbrev pub StopsBefore : InferError → List Line → Type 0
StopsBefore (Big symbols) [] = ⊥
StopsBefore (Big symbols) (l ∷ lines) = IsBig symbols l
StopsBefore Memory lines = ⊤

-- the first lines of the list were appended, each of which fits, and then the error came
pub record IsPrefixAppended (list old new : List Line) (e : InferError) : Type 0 where
  pub done : List Line
  pub left : List Line
  pub parts : list ≡ done ++ left
  pub appended : new ≡ old ++ done
  pub fit : AllByRecursion CanBeAppended done
  pub stopped : StopsBefore e left

-- the whole list was appended, each of whose lines fits, or a prefix of it
abbrev pub Appended : {T : Type 0} → List Line → List Line → List Line → Result T InferError → Type 0
Appended list old new (Ok t) = (new ≡ old ++ list) × AllByRecursion CanBeAppended list
Appended list old new (Err e) = IsPrefixAppended list old new e
