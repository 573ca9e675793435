-- What a worker computes in a round: lines that it may publish whatever others append meanwhile, and the event that finishes the round.
use Rattle.std.specs.Prelude.{◌≡◌, ◌⊎◌, ℕ, suc, ◌<◌, ◌≤◌, false, List, [], ◌∷◌, length, take, Some, slice_get}
use Rattle.spl_terms.specs.declared.clause.Clause.{Clause}
use Rattle.spl_terms.specs.Clauses.{is_empty}
use Rattle.proof_steps.specs.declared.step.Line.{Line}
use Rattle.proof_steps.specs.Checked.{IsConclusion, stated}
use Rattle.proof_steps.specs.Covering.{IsVariant, AreCoveredBy}
use Rattle.case_journal.specs.declared.event.Entry.{Entry}
use Rattle.case_journal.specs.declared.event.Event.TheVariants.{Publish, Full}
use Rattle.case_journal.specs.Journal.{Setting, ledger, counted}
use Rattle.case_journal.specs.Paths.{owner}
use Rattle.case_journal.specs.Facts.{chosen, Holds}
use Rattle.case_journal.specs.Legal.{IsLegal, IsInferred, IsPair, IsListed, IsUnsplit}
use Rattle.journal_laws.specs.Frame.{StillHolds}

-- ---- lines

-- the line may be published by an inference of the clause that w has chosen at its leaf m
pub record IsRoundLine (s : Setting) (past : List Entry) (w m : ℕ) (l : Line) : Type 0 where
  pub concluded : IsConclusion s.input (stated (ledger s past)) l
  pub inferred : IsInferred s past w (owner past l.stated.deps m) l

-- each of the lines may be published, none is a variant of one before it, and all but the last are clauses with atoms; their parents are lines of the ledger as it is
pub record IsBatch (s : Setting) (past : List Entry) (w m : ℕ) (lines : List Line) : Type 0 where
  pub holds : Holds s past w m
  pub each : (k : ℕ) (l : Line) → slice_get lines k ≡ Some l → IsRoundLine s past w m l
  pub apart : (j k : ℕ) (x y : Line) → j < k → slice_get lines j ≡ Some x → slice_get lines k ≡ Some y → ¬ IsVariant x.stated.clause y.stated.clause
  pub full : (k : ℕ) (l : Line) → suc k < length lines → slice_get lines k ≡ Some l → is_empty l.stated.clause ≡ false

-- ---- the journal that goes on by a batch

abbrev pub publication : ℕ → ℕ → Line → Entry
publication w node l = record { by = w; event = Publish node (l ∷ []) false }

-- what the first n lines state, the newest first
abbrev pub newest_first : List Line → List Clause → List Clause
newest_first [] own = own
newest_first (l ∷ ls) own = newest_first ls (l.stated.clause ∷ own)

-- w has published the first k lines of a batch that it made over the earlier journal `start`, and holds m still
pub record IsUnderWay (s : Setting) (start past : List Entry) (w m : ℕ) (lines : List Line) (k : ℕ) : Type 0 where
  pub batch : IsBatch s start w m lines
  pub still : StillHolds s start past w m (newest_first (take k lines) [])

-- w may publish the line next; or, where as many counted steps were published as may be, end the journal by a Full with it
pub record CanGoOn (s : Setting) (past : List Entry) (w m : ℕ) (l : Line) : Type 0 where
  pub publishes : counted past < s.limits.steps → IsLegal s past w (Publish (owner past l.stated.deps m) (l ∷ []) false)
  pub full : s.limits.steps ≤ counted past → IsLegal s past w (Full m (l ∷ []))

-- the journal after w has published the lines, each where it belongs on the path of m in the journal `start`
abbrev pub with_lines : List Entry → ℕ → ℕ → List Line → List Entry → List Entry
with_lines start w m [] past = past
with_lines start w m (l ∷ ls) past = with_lines start w m ls (publication w (owner start l.stated.deps m) l ∷ past)

-- ---- how a round is finished

-- one of the lines states the clause
pub record IsStated (lines : List Line) (c : Clause) : Type 0 where
  pub place : ℕ
  pub line : Line
  pub found : slice_get lines place ≡ Some line
  pub is : line.stated.clause ≡ c

-- listed at m, or stated by one of these lines
abbrev pub IsListedWith : Setting → List Entry → ℕ → List Line → Clause → Type 0
IsListedWith s past m lines c = IsListed s past m c ⊎ IsStated lines c

-- the chosen clause can't be split, and its inferences are covered by what is listed and by these lines
pub record IsWorkedOff (s : Setting) (past : List Entry) (w m : ℕ) (lines : List Line) : Type 0 where
  pub clause : ℕ
  pub chosen : chosen past m ≡ Some clause
  pub unsplit : IsUnsplit s past clause
  pub covered : (first second : ℕ) → IsPair s past m clause first second → AreCoveredBy (IsListedWith s past m lines) (ledger s past) first second
