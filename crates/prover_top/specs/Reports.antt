-- What a report says, clause by clause.
use Rattle.std.specs.Prelude.{◌≡◌, ◌⊎◌, ℕ, Bool, List, codes, Option, Some, IsSome, Ok, Err, MatchResult, ⊤}
use Rattle.spl_symbols.specs.Symbols.{Declared}
use Rattle.proof_steps.specs.declared.step.Line.{Line}
use Rattle.case_journal.specs.declared.event.Limits.{Limits}
use Rattle.split_tree.specs.State.{State}
use Rattle.case_journal.specs.Ending.{reason}
use Rattle.case_journal.specs.Legal.{IsLegalJournal}
use Rattle.dfg_reader.specs.declared.fault.ReadFault.{ReadFault}
use Rattle.dfg_reader.specs.declared.problem.Problem.{Problem}
use Rattle.dfg_reader.specs.Problems.{problem}
use Rattle.dfg_reader.specs.GroundClauses.{clauses}
use Rattle.prover_top.specs.declared.answers.Answer.{Answer}
use Rattle.prover_top.specs.declared.answers.Answer.TheVariants as answers
use Rattle.outside_io.specs.Outside.{Rose, count_after}
use Rattle.prover_top.specs.Words.{limits_of}
use Rattle.prover_top.specs.Answers.{answer_text, is_fault}
use Rattle.prover_top.specs.Deliveries.{IsDelivered}
use Rattle.prover_top.specs.Endings.{IsContradicted}
use Rattle.prover_top.specs.Outcomes.{Call, IsInput, IsProved, IsFresh, IsCause, Start, IsEnded}

-- ---- reading

-- the bytes spell a problem with these symbols; there is a fresh table of its clauses, or there was no memory for it
pub record IsSolved (limits : Limits) (bytes : List ℕ) (signature : List Declared) (start : Start) : Type 0 where
  pub read : Problem
  pub spelled : problem bytes ≡ Ok read
  pub symbols : signature ≡ read.signature
  pub started : MatchResult start (IsFresh limits (clauses read.entries)) (λ answer. answer ≡ answers.Memory)

-- the bytes have this first fault
pub record IsFaulty (bytes : List ℕ) (start : Start) : Type 0 where
  pub fault : ReadFault
  pub faulty : problem bytes ≡ Err fault
  pub start_is : start ≡ Err (answers.Input fault)

abbrev pub IsRead : Limits → List ℕ → List Declared → Start → Type 0
IsRead limits bytes signature start = IsSolved limits bytes signature start ⊎ (IsFaulty bytes start ⊎ (start ≡ Err answers.Memory))

-- ---- the whole

-- the text of the answer was written; where there was no memory to build it, the text of want of memory
abbrev pub IsAnswerWritten : List Declared → List Line → Answer → Answer → Bool → Option (List ℕ) → Option (List ℕ) → Type 0
IsAnswerWritten signature proof answer reported failed old new =
    IsDelivered (answer_text signature proof answer) answer reported failed old new
    ⊎ IsDelivered (codes "Out of memory.\n") answers.Memory reported failed old new

-- what came of a start, and what was written for it
pub record IsFinished (start : Start) (signature : List Declared) (table : Option State) (reported : Answer) (failed : Bool) (old new : Option (List ℕ)) : Type 0 where
  pub proof : List Line
  pub answer : Answer
  pub ended : IsEnded start table proof answer
  pub written : IsAnswerWritten signature proof answer reported failed old new

-- an answer, its cause, whether a failed read was counted for it, and what was written for it; where memory ran out, the
-- text of that may stand for it
pub record IsOutcome (call : Call) (table : Option State) (reported : Answer) (failed : Bool) (old new : Option (List ℕ)) : Type 0 where
  pub signature : List Declared
  pub proof : List Line
  pub answer : Answer
  pub cause : IsCause call signature table proof answer
  pub counted : call.faults_after ≡ count_after (is_fault answer) call.faults_before
  pub delivered : IsAnswerWritten signature proof answer reported failed old new

-- ---- a table

-- the limits are those of the words, the input is the clauses of the problem that came, one worker made the journal,
-- which is legal, and proving has ended
pub record HasTable (words : List (List ℕ)) (before after : Option (List ℕ)) (t : State) : Type 0 where
  pub limits_are : limits_of words ≡ Some t.setting.limits
  pub signature : List Declared
  pub input_is : IsInput before after signature t.setting.input
  pub one_worker : t.setting.workers ≡ 1
  pub legal : IsLegalJournal t.setting t.past
  pub ended : IsSome (reason t.setting t.past)

-- a contradiction ended it; the lines that lead to the first one of the ledger are checked against the input, which is
-- refuted
pub record HasProof (t : State) : Type 0 where
  pub cause : IsContradicted t
  pub proof : List Line
  pub proved : IsProved t proof

-- the answers that proving gives
abbrev pub IsOfProving : Answer → Type 0
IsOfProving answers.ProofFound = ⊤
IsOfProving (answers.Completion node kept put_off) = ⊤
IsOfProving (answers.Rounds count) = ⊤
IsOfProving (answers.Steps limit) = ⊤
IsOfProving (answers.Size symbols) = ⊤
IsOfProving answers.Memory = ⊤
IsOfProving answers.Words = ⊥
IsOfProving (answers.Input fault) = ⊥
IsOfProving answers.TooLong = ⊥
IsOfProving answers.ReadFault = ⊥

-- the answer, unless memory ran out
abbrev pub IsUnlessMemory : Answer → Answer → Type 0
IsUnlessMemory expected answer = (answer ≡ expected) ⊎ (answer ≡ answers.Memory)

-- ---- where the source tells its bytes and no read fails

-- the words fit, the source tells these bytes, and no read failed
pub record IsTold (call : Call) (bytes : List ℕ) : Type 0 where
  pub limits : Limits
  pub fits : limits_of call.words ≡ Some limits
  pub told : call.before ≡ Some bytes
  pub no_fault : Rose call.faults_before call.faults_after → ⊥
