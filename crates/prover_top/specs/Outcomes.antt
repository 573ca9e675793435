-- Why a call gives its answer.
use Rattle.std.specs.Prelude.{◌≡◌, ◌⊎◌, ℕ, Bool, false, List, [], Option, Some, None, IsSome, IsSomeAnd, Ok, Err}
use Rattle.std.specs.declared.result.Result.{Result}
use Rattle.outside_io.specs.Outside.{Rose, CameWhole, CamePast, count_after}
use Rattle.spl_terms.specs.declared.clause.Clause.{Clause}
use Rattle.spl_truth.specs.Truth.{Refuted}
use Rattle.spl_symbols.specs.Symbols.{Declared}
use Rattle.proof_steps.specs.declared.step.Line.{Line}
use Rattle.proof_steps.specs.Checked.{Checked}
use Rattle.case_journal.specs.declared.event.Limits.{Limits}
use Rattle.case_journal.specs.declared.event.End.{End}
use Rattle.case_journal.specs.declared.event.End.TheVariants as ends
use Rattle.case_journal.specs.Journal.{ledger}
use Rattle.split_tree.specs.State.{State}
use Rattle.case_journal.specs.Ending.{reason}
use Rattle.case_journal.specs.Legal.{IsLegalJournal}
use Rattle.proof_extract.specs.Extracting.{IsProofOf}
use Rattle.proof_extract.specs.Contradictions.{IsFirstContradiction}
use Rattle.dfg_reader.specs.declared.fault.ReadFault.{ReadFault}
use Rattle.dfg_reader.specs.declared.problem.Problem.{Problem}
use Rattle.dfg_reader.specs.Problems.{problem}
use Rattle.dfg_reader.specs.GroundClauses.{clauses}
use Rattle.prover_top.specs.declared.answers.Answer.{Answer}
use Rattle.prover_top.specs.declared.answers.Answer.TheVariants as answers
use Rattle.prover_top.specs.Words.{limits_of}
use Rattle.prover_top.specs.Answers.{is_fault}
use Rattle.prover_top.specs.Endings.{kept_count}

-- ---- what came in

-- the words of a call, its source's bytes to come before and after it, where they are told, and the counts of faults
pub record Call : Type 0 where
  pub words : List (List ℕ)
  pub before : Option (List ℕ)
  pub after : Option (List ℕ)
  pub faults_before : ℕ
  pub faults_after : ℕ

-- the call with these words that found a source so and left it so
abbrev pub call_of : {S : Type 0} → (S → Option (List ℕ)) → (S → ℕ) → List (List ℕ) → S → S → Call
call_of left faults words old new =
    record { words = words; before = left old; after = left new; faults_before = faults old; faults_after = faults new }

-- the most bytes that are read
abbrev pub most_bytes : ℕ
most_bytes = 16777216

-- bytes came to the end, and they spell a problem with these symbols and these clauses
pub record IsInput (before after : Option (List ℕ)) (signature : List Declared) (input : List Clause) : Type 0 where
  pub bytes : List ℕ
  pub read : Problem
  pub came : CameWhole before after most_bytes bytes
  pub spelled : problem bytes ≡ Ok read
  pub symbols : signature ≡ read.signature
  pub clauses_are : input ≡ clauses read.entries

-- bytes came to the end, and this is their first fault
pub record IsRefused (before after : Option (List ℕ)) (fault : ReadFault) : Type 0 where
  pub bytes : List ℕ
  pub came : CameWhole before after most_bytes bytes
  pub faulty : problem bytes ≡ Err fault

-- ---- what proving gave

-- a table with an empty journal, for one worker, of these clauses within these limits
pub record IsFresh (limits : Limits) (input : List Clause) (t : State) : Type 0 where
  pub input_is : t.setting.input ≡ input
  pub limits_are : t.setting.limits ≡ limits
  pub one_worker : t.setting.workers ≡ 1
  pub empty : t.past ≡ []

-- one worker proved these clauses within these limits until a legal journal ended
pub record IsTableOf (limits : Limits) (input : List Clause) (t : State) : Type 0 where
  pub input_is : t.setting.input ≡ input
  pub limits_are : t.setting.limits ≡ limits
  pub one_worker : t.setting.workers ≡ 1
  pub legal : IsLegalJournal t.setting t.past
  pub ended : IsSome (reason t.setting t.past)

-- the lines that lead to the first contradiction of the ledger: they are checked against the input, which is refuted
pub record IsProved (t : State) (proof : List Line) : Type 0 where
  pub number : ℕ
  pub first : IsFirstContradiction (ledger t.setting t.past) number
  pub leads : IsProofOf (ledger t.setting t.past) number proof
  pub checked : Checked t.setting.input proof
  pub refuted : Refuted t.setting.input

-- the answer of a table for which proving ended so
abbrev pub answer_for : State → Option End → Answer
answer_for t (Some ends.Proved) = answers.ProofFound
answer_for t (Some (ends.Completed node)) = answers.Completion node (kept_count t.setting t.past node) 0
answer_for t (Some ends.Rounds) = answers.Rounds t.setting.limits.rounds
answer_for t (Some ends.Steps) = answers.Steps t.setting.limits.steps
answer_for t (Some (ends.Size symbols)) = answers.Size symbols
answer_for t (Some ends.Memory) = answers.Memory
answer_for t None = answers.Memory

-- the answer of the table, by the first event that ends its journal
abbrev pub answer_of : State → Answer
answer_of t = answer_for t (reason t.setting t.past)

-- the answer is that of the table, with its proof where it is one; want of memory may take its place
pub record IsAnswered (t : State) (proof : List Line) (answer : Answer) : Type 0 where
  pub is : (answer ≡ answer_of t) ⊎ (answer ≡ answers.Memory)
  pub proved : answer ≡ answers.ProofFound → IsProved t proof

-- there is a table of the input clauses, and the answer is the one that it gives
abbrev pub IsDecided : Limits → List Clause → Option State → List Line → Answer → Type 0
IsDecided limits input table proof answer = IsSomeAnd table (λ t. IsTableOf limits input t × IsAnswered t proof answer)

-- ---- the table of causes

-- the words fit, a problem was read, and this came of it
pub record IsTried (call : Call) (signature : List Declared) (table : Option State) (proof : List Line) (answer : Answer) : Type 0 where
  pub limits : Limits
  pub input : List Clause
  pub fits : limits_of call.words ≡ Some limits
  pub input_is : IsInput call.before call.after signature input
  pub decided : IsDecided limits input table proof answer

-- the words are understood
pub record IsUnderstood (call : Call) : Type 0 where
  pub limits : Limits
  pub fits : limits_of call.words ≡ Some limits

-- the cause of each answer; want of memory is free
abbrev pub IsCause : Call → List Declared → Option State → List Line → Answer → Type 0
IsCause call signature table proof answers.ProofFound = IsTried call signature table proof answers.ProofFound
IsCause call signature table proof (answers.Completion node kept put_off) = IsTried call signature table proof (answers.Completion node kept put_off)
IsCause call signature table proof (answers.Rounds count) = IsTried call signature table proof (answers.Rounds count)
IsCause call signature table proof (answers.Steps limit) = IsTried call signature table proof (answers.Steps limit)
IsCause call signature table proof (answers.Size symbols) = IsTried call signature table proof (answers.Size symbols)
IsCause call signature table proof answers.Words = (limits_of call.words ≡ None) × (table ≡ None)
IsCause call signature table proof (answers.Input fault) = IsUnderstood call × IsRefused call.before call.after fault × (table ≡ None)
IsCause call signature table proof answers.TooLong = IsUnderstood call × CamePast call.before call.after most_bytes × (table ≡ None)
IsCause call signature table proof answers.ReadFault = IsUnderstood call × Rose call.faults_before call.faults_after × (table ≡ None)
IsCause call signature table proof answers.Memory = (table ≡ None) ⊎ IsTried call signature table proof answers.Memory

-- ---- before proving and after it

-- what stands before proving: a fresh table, or the answer of a call that makes none
abbrev pub Start : Type 0
Start = Result State Answer

-- the words fit, a problem was read, and the table is that of its clauses
pub record IsBegun (call : Call) (signature : List Declared) (t : State) : Type 0 where
  pub limits : Limits
  pub input : List Clause
  pub fits : limits_of call.words ≡ Some limits
  pub input_is : IsInput call.before call.after signature input
  pub fresh : IsFresh limits input t

abbrev pub IsStart : Call → List Declared → Start → Type 0
IsStart call signature (Ok t) = IsBegun call signature t
IsStart call signature (Err answer) = IsCause call signature None [] answer

abbrev pub is_fault_start : Start → Bool
is_fault_start (Ok t) = false
is_fault_start (Err answer) = is_fault answer

-- this came of words and reading, and a fault was counted where a read failed, and nowhere else
pub record IsStarted (call : Call) (signature : List Declared) (start : Start) : Type 0 where
  pub begun : IsStart call signature start
  pub counted : call.faults_after ≡ count_after (is_fault_start start) call.faults_before

-- a table that was made is there at the end, whatever the answer, and gives it; else the answer stays
abbrev pub IsEnded : Start → Option State → List Line → Answer → Type 0
IsEnded (Ok t) table proof answer = IsDecided t.setting.limits t.setting.input table proof answer
IsEnded (Err before) table proof answer = (table ≡ None) × (answer ≡ before)
