-- What a worker computes in a round, said of its view alone: no journal, no table.
use Rattle.std.specs.Prelude.{◌≡◌, ◌⊎◌, ℕ, zero, suc, ◌<◌, ◌≤◌, min, false, true, List, ◌++◌, length, Some, None, IsSomeAnd, slice_get}
use Rattle.spl_terms.specs.declared.clause.Part.{Part}
use Rattle.spl_terms.specs.declared.clause.Clause.{Clause}
use Rattle.spl_terms.specs.Clauses.{clause_symbols, is_empty}
use Rattle.proof_steps.specs.declared.step.Statement.{Statement}
use Rattle.proof_steps.specs.declared.step.Line.{Line}
use Rattle.clause_parts.specs.Parts.{Parted, parts_of}
use Rattle.proof_steps.specs.Steps.{ground_resolve}
use Rattle.proof_steps.specs.Covering.{IsVariant, IsCoveredBy}
use Rattle.case_journal.specs.Journal.{last_line}
use Rattle.journal_laws.specs.Batches.{IsStated}
use Rattle.case_view.specs.declared.kept.Kept.{Kept}
use Rattle.case_view.specs.declared.kept.Case.{Case}
use Rattle.case_view.specs.Views.{IsIn, conclusion_of}
use Rattle.case_rounds.specs.declared.halt.Halt.{Halt}
use Rattle.case_rounds.specs.declared.halt.Halt.TheVariants as halts
use Rattle.case_rounds.specs.declared.round.Finish.{Finish}
use Rattle.case_rounds.specs.declared.round.Finish.TheVariants as finishes

-- the new list is the old one with more at its end
pub record Extends (old new : List Line) : Type 0 where
  pub more : List Line
  pub is : new ≡ old ++ more

-- ---- inferences of two clauses

-- the line states what resolution concludes from them at some places
pub record IsResolvent (p q : Kept) (l : Line) : Type 0 where
  pub i : ℕ
  pub part : Part
  pub j : ℕ
  pub step : l.step ≡ ground_resolve i part j p.number q.number
  pub concluded : conclusion_of i part j p q ≡ Some l.stated
  pub small : clause_symbols l.stated.clause ≤ 4096

abbrev pub AreInferences : Kept → Kept → List Line → Type 0
AreInferences p q lines = (l : Line) → IsIn lines l → IsResolvent p q l

-- inferences of the two were added at the end
pub record Infers (p q : Kept) (old new : List Line) : Type 0 where
  pub more : List Line
  pub is : new ≡ old ++ more
  pub each : AreInferences p q more

-- what is concluded at these places is stated by one of the lines
abbrev pub HasAt : List Line → Kept → Kept → ℕ → Part → ℕ → Type 0
HasAt lines p q i part j = (s : Statement) → conclusion_of i part j p q ≡ Some s → IsStated lines s.clause

abbrev pub HasAll : List Line → Kept → Kept → Type 0
HasAll lines p q = (i : ℕ) (part : Part) (j : ℕ) → HasAt lines p q i part j

-- what is concluded at some places has more than 4,096 symbols
pub record IsLarge (p q : Kept) (symbols : ℕ) : Type 0 where
  pub i : ℕ
  pub part : Part
  pub j : ℕ
  pub conclusion : Statement
  pub concluded : conclusion_of i part j p q ≡ Some conclusion
  pub large : 4096 < clause_symbols conclusion.clause
  pub count : symbols ≡ min (clause_symbols conclusion.clause) 1000000

-- why their inferences were not all made: one with the clause `partner` is too large, or there was no memory
abbrev pub IsStopOf : Kept → Kept → ℕ → Halt → Type 0
IsStopOf p q partner halts.Closed = ⊥
IsStopOf p q partner (halts.Big n symbols) = (n ≡ partner) × IsLarge p q symbols
IsStopOf p q partner halts.Memory = Unit {0}

-- ---- the round's lines

-- the given clause, or one that was worked off
abbrev pub IsPremiseOf : Case → Kept → Type 0
IsPremiseOf v k = (v.given ≡ Some k) ⊎ IsIn v.worked k

-- two of these, of which one is the given clause
pub record IsPairOf (v : Case) (p q : Kept) : Type 0 where
  pub left : IsPremiseOf v p
  pub right : IsPremiseOf v q
  pub one : (v.given ≡ Some p) ⊎ (v.given ≡ Some q)

-- at this place of the clauses that are tried with the given one: itself, and behind it the worked clauses at these places
abbrev pub IsPremiseAt : Case → Kept → List ℕ → ℕ → Kept → Type 0
IsPremiseAt v given places zero other = given ≡ other
IsPremiseAt v given places (suc k) other = (p : ℕ) × (slice_get places k ≡ Some p) × (slice_get v.worked p ≡ Some other)

-- the line resolves such a pair
pub record IsLineOf (v : Case) (l : Line) : Type 0 where
  pub first : Kept
  pub second : Kept
  pub pair : IsPairOf v first second
  pub inference : IsResolvent first second l

-- the lines resolve such pairs, state no variant of a listed clause nor of a line before, and all but the last are clauses with atoms
pub record AreLinesOf (v : Case) (lines : List Line) : Type 0 where
  pub each : (l : Line) → IsIn lines l → IsLineOf v l
  pub new : (l : Line) (c : Kept) → IsIn lines l → IsIn v.listed c → ¬ IsVariant c.stated.clause l.stated.clause
  pub apart : (j k : ℕ) (x y : Line) → j < k → slice_get lines j ≡ Some x → slice_get lines k ≡ Some y → ¬ IsVariant x.stated.clause y.stated.clause
  pub full : (k : ℕ) (l : Line) → suc k < length lines → slice_get lines k ≡ Some l → is_empty l.stated.clause ≡ false

-- while the round goes on, no line states the empty clause
pub record IsRound (v : Case) (lines : List Line) : Type 0 where
  pub are : AreLinesOf v lines
  pub going : (l : Line) → IsIn lines l → is_empty l.stated.clause ≡ false

-- ---- what they cover

-- listed, or stated by one of the lines
abbrev pub IsListedOrStated : Case → List Line → Clause → Type 0
IsListedOrStated v lines c = ((k : Kept) × IsIn v.listed k × (k.stated.clause ≡ c)) ⊎ IsStated lines c

abbrev pub IsCoveredIn : Case → List Line → Clause → Type 0
IsCoveredIn v lines c = IsCoveredBy (IsListedOrStated v lines) c

-- whatever is concluded from the two is covered
abbrev pub Covers : Case → List Line → Kept → Kept → Type 0
Covers v lines p q = (i : ℕ) (part : Part) (j : ℕ) (s : Statement) → conclusion_of i part j p q ≡ Some s → IsCoveredIn v lines s.clause

-- ---- how it is finished

-- an inference of the given clause with the clause `partner` is too large
pub record IsBigOf (v : Case) (partner symbols : ℕ) : Type 0 where
  pub given : Kept
  pub is_given : v.given ≡ Some given
  pub other : Kept
  pub involved : IsPremiseOf v other
  pub is : partner ≡ other.number
  pub large : IsLarge given other symbols ⊎ IsLarge other given symbols

-- the given clause has no parts, or as many clauses were split as may be; and its inferences are covered
pub record IsWorkedOffOf (most : ℕ) (v : Case) (lines : List Line) : Type 0 where
  pub given : Kept
  pub is_given : v.given ≡ Some given
  pub unsplit : (parts_of given.stated.clause ≡ None) ⊎ (most ≤ v.splits)
  pub covers : (p q : Kept) → IsPairOf v p q → Covers v lines p q

-- the given clause may be split, and these are its parts
pub record IsSplitOf (most : ℕ) (v : Case) (parts : Parted) : Type 0 where
  pub given : Kept
  pub is_given : v.given ≡ Some given
  pub parted : parts_of given.stated.clause ≡ Some parts
  pub free : v.splits < most

-- where clauses may be split if fewer than `most` were
abbrev pub IsFinishOf : ℕ → Case → List Line → Finish → Type 0
IsFinishOf most v lines finishes.Closed = IsSomeAnd (last_line lines) (λ l. is_empty l.stated.clause ≡ true)
IsFinishOf most v lines (finishes.Big partner symbols) = IsBigOf v partner symbols
IsFinishOf most v lines (finishes.Split parts) = IsSplitOf most v parts
IsFinishOf most v lines finishes.Activate = IsWorkedOffOf most v lines

-- why the round stopped before all was inferred
abbrev pub IsHaltOf : Case → List Line → Halt → Type 0
IsHaltOf v lines halts.Closed = AreLinesOf v lines × IsSomeAnd (last_line lines) (λ l. is_empty l.stated.clause ≡ true)
IsHaltOf v lines (halts.Big partner symbols) = AreLinesOf v lines × IsBigOf v partner symbols
IsHaltOf v lines halts.Memory = Unit {0}
