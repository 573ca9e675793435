-- The text and the exit status of each answer.
use Rattle.std.specs.Prelude.{ℕ, Bool, true, false, if◌then◌else◌, List, ◌++◌, codes}
use Rattle.std.specs.Fmt.{decimal}
use Rattle.dfg_reader.specs.declared.fault.FaultKind.{FaultKind}
use Rattle.dfg_reader.specs.declared.fault.FaultKind.TheVariants.{Unexpected, Undeclared, Arity, DeclaredTwice, SecondConjecture, OutsideProfile, LimitReached}
use Rattle.spl_symbols.specs.Symbols.{Declared}
use Rattle.proof_steps.specs.declared.step.Line.{Line}
use Rattle.proof_text.specs.Texts.{proof_text}
use Rattle.prover_top.specs.declared.answers.Answer.{Answer}
use Rattle.prover_top.specs.declared.answers.Answer.TheVariants.{ProofFound, Completion, Rounds, Steps, Size, Words, Input, TooLong, ReadFault, Memory}

abbrev pub found_text : List Declared → List Line → List ℕ
found_text signature proof = codes "Proof found.\n" ++ proof_text signature proof

abbrev pub completion_text : ℕ → ℕ → ℕ → List ℕ
completion_text node kept put_off = codes "Completion found.\nCase " ++ decimal node ++ codes ": kept " ++ decimal kept ++ codes ", put off " ++ decimal put_off ++ codes ".\n"

abbrev pub rounds_text : ℕ → List ℕ
rounds_text count = codes "Gave up: rounds " ++ decimal count ++ codes ".\n"

abbrev pub steps_text : ℕ → List ℕ
steps_text limit = codes "Gave up: steps " ++ decimal limit ++ codes ".\n"

abbrev pub size_text : ℕ → List ℕ
size_text symbols = codes "Gave up: size " ++ decimal symbols ++ codes ".\n"

abbrev pub kind_text : FaultKind → List ℕ
kind_text Unexpected = codes "Unexpected"
kind_text Undeclared = codes "Undeclared"
kind_text (Arity declared found) = codes "Arity"
kind_text DeclaredTwice = codes "DeclaredTwice"
kind_text SecondConjecture = codes "SecondConjecture"
kind_text OutsideProfile = codes "OutsideProfile"
kind_text (LimitReached limit) = codes "LimitReached"

abbrev pub input_text : ℕ → FaultKind → List ℕ
input_text at kind = codes "Input refused at byte " ++ decimal at ++ codes ": " ++ kind_text kind ++ codes ".\n"

-- the whole text of an answer; a proof is printed with the names of the signature
abbrev pub answer_text : List Declared → List Line → Answer → List ℕ
answer_text signature proof ProofFound = found_text signature proof
answer_text signature proof (Completion node kept put_off) = completion_text node kept put_off
answer_text signature proof (Rounds count) = rounds_text count
answer_text signature proof (Steps limit) = steps_text limit
answer_text signature proof (Size symbols) = size_text symbols
answer_text signature proof Words = codes "Words refused.\n"
answer_text signature proof (Input fault) = input_text fault.at fault.kind
answer_text signature proof TooLong = codes "Input too long.\n"
answer_text signature proof ReadFault = codes "Read fault.\n"
answer_text signature proof Memory = codes "Out of memory.\n"

abbrev pub status_of : Answer → ℕ
status_of ProofFound = 0
status_of (Completion node kept put_off) = 1
status_of (Rounds count) = 2
status_of (Steps limit) = 2
status_of (Size symbols) = 2
status_of Words = 3
status_of (Input fault) = 4
status_of TooLong = 5
status_of ReadFault = 6
status_of Memory = 8

-- whether it is the answer of a failed read
abbrev pub is_fault : Answer → Bool
is_fault ProofFound = false
is_fault (Completion node kept put_off) = false
is_fault (Rounds count) = false
is_fault (Steps limit) = false
is_fault (Size symbols) = false
is_fault Words = false
is_fault (Input fault) = false
is_fault TooLong = false
is_fault ReadFault = true
is_fault Memory = false

-- 7 where a write failed
abbrev pub reported_status : Bool → Answer → ℕ
reported_status failed answer = if failed then 7 else status_of answer
