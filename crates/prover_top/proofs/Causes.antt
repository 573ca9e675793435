-- The cause of an answer, from what its call met, and what it says of each answer.
use Rattle.std.proofs.Common.{◌≡◌, ◌⊎◌, inl, inr, ℕ, Bool, false, List, [], Option, Some, None, refl, sym, ap, subst}
use Rattle.std.specs.Prelude.{Ok, Err, IfOk}
use Rattle.outside_io.specs.Outside.{Rose, CameWhole, CamePast, count_after}
use Rattle.spl_terms.specs.declared.clause.Clause.{Clause}
use Rattle.spl_symbols.specs.Symbols.{Declared}
use Rattle.proof_steps.specs.declared.step.Line.{Line}
use Rattle.case_journal.specs.declared.event.Limits.{Limits}
use Rattle.case_journal.specs.declared.event.End.{End}
use Rattle.case_journal.specs.declared.event.End.TheVariants as ends
use Rattle.split_tree.specs.State.{State}
use Rattle.case_journal.specs.Ending.{reason}
use Rattle.dfg_reader.specs.GroundClauses.{clauses}
use Rattle.prover_top.specs.declared.answers.Answer.{Answer}
use Rattle.prover_top.specs.declared.answers.Answer.TheVariants.{ProofFound, Completion, Rounds, Steps, Size, Words, Input, TooLong, ReadFault, Memory}
use Rattle.prover_top.specs.Words.{limits_of}
use Rattle.prover_top.specs.Answers.{is_fault}
use Rattle.prover_top.specs.Outcomes.{Call, most_bytes, answer_for, answer_of, IsFresh, IsDecided, IsTried, IsCause, Start, IsStarted}
use Rattle.prover_top.specs.Reports.{IsRead, IsSolved, IsFinished, IsOutcome, IsOfProving}

-- ---- what proving gives is no refusal

given_for : (t : State) (r : Option End) → IsOfProving (answer_for t r)
given_for t None = tt
given_for t (Some ends.Proved) = tt
given_for t (Some (ends.Completed node)) = tt
given_for t (Some ends.Rounds) = tt
given_for t (Some ends.Steps) = tt
given_for t (Some (ends.Size symbols)) = tt
given_for t (Some ends.Memory) = tt

given_or_memory : (t : State) (answer : Answer) → (answer ≡ answer_of t) ⊎ (answer ≡ Memory) → IsOfProving answer
given_or_memory t answer (inl e) = subst IsOfProving (sym e) (given_for t (reason t.setting t.past))
given_or_memory t answer (inr e) = subst IsOfProving (sym e) tt

decided_given : (limits : Limits) (input : List Clause) (proof : List Line) (table : Option State) (answer : Answer) → IsDecided limits input table proof answer → IsOfProving answer
decided_given limits input proof None answer h = absurd h
decided_given limits input proof (Some t) answer h = given_or_memory t answer h.1.is

module _ (call : Call) (signature : List Declared) (proof : List Line) where
  refuses : (table : Option State) (answer : Answer) → IsTried call signature table proof answer → IsOfProving answer
  refuses table answer h = decided_given h.limits h.input proof table answer h.decided

  pub tried : (table : Option State) (answer : Answer) → IsTried call signature table proof answer → IsCause call signature table proof answer
  tried table ProofFound h = h
  tried table (Completion node kept put_off) h = h
  tried table (Rounds count) h = h
  tried table (Steps limit) h = h
  tried table (Size symbols) h = h
  tried table Words h = absurd (refuses table Words h)
  tried table (Input fault) h = absurd (refuses table (Input fault) h)
  tried table TooLong h = absurd (refuses table TooLong h)
  tried table ReadFault h = absurd (refuses table ReadFault h)
  tried table Memory h = inr h

  -- the cause of any answer lets memory run out
  decided_memory : (limits : Limits) (input : List Clause) (table : Option State) (answer : Answer) → IsDecided limits input table proof answer → IsDecided limits input table proof Memory
  decided_memory limits input None answer h = absurd h
  decided_memory limits input (Some t) answer h = (h.0, record { is = inr refl; proved = λ e. let f : Memory ≡ ProofFound = e in absurd (cc) })

  tried_memory : (table : Option State) (answer : Answer) → IsTried call signature table proof answer → IsCause call signature table proof Memory
  tried_memory table answer h = inr (record { limits = h.limits; input = h.input; fits = h.fits; input_is = h.input_is; decided = decided_memory h.limits h.input table answer h.decided })

  pub memory : (table : Option State) (answer : Answer) → IsCause call signature table proof answer → IsCause call signature table proof Memory
  memory table ProofFound h = tried_memory table ProofFound h
  memory table (Completion node kept put_off) h = tried_memory table (Completion node kept put_off) h
  memory table (Rounds count) h = tried_memory table (Rounds count) h
  memory table (Steps limit) h = tried_memory table (Steps limit) h
  memory table (Size symbols) h = tried_memory table (Size symbols) h
  memory table Words h = inl h.1
  memory table (Input fault) h = inl h.2
  memory table TooLong h = inl h.2
  memory table ReadFault h = inl h.2
  memory table Memory h = h

-- without a table the proof doesn't matter
untried : (call : Call) (signature : List Declared) (proof : List Line) (answer : Answer) → IsCause call signature None [] answer → IsCause call signature None proof answer
untried call signature proof ProofFound h = absurd h.decided
untried call signature proof (Completion node kept put_off) h = absurd h.decided
untried call signature proof (Rounds count) h = absurd h.decided
untried call signature proof (Steps limit) h = absurd h.decided
untried call signature proof (Size symbols) h = absurd h.decided
untried call signature proof Words h = h
untried call signature proof (Input fault) h = h
untried call signature proof TooLong h = h
untried call signature proof ReadFault h = h
untried call signature proof Memory h = inl refl

-- ---- what stands before proving

module _ (call : Call) (signature : List Declared) where
  started_by : (start : Start) (answer : Answer) → start ≡ Err answer → IsCause call signature None [] answer → call.faults_after ≡ count_after (is_fault answer) call.faults_before → IsStarted call signature start
  started_by start answer is cause counted = subst (IsStarted call signature) (sym is) (record { begun = cause; counted = counted })

  pub start_words : (start : Start) → limits_of call.words ≡ None → call.faults_after ≡ call.faults_before → start ≡ Err Words → IsStarted call signature start
  start_words start fits as_before is = started_by start Words is (fits, refl) as_before

  pub start_fault : (start : Start) (limits : Limits) → limits_of call.words ≡ Some limits → Rose call.faults_before call.faults_after → start ≡ Err ReadFault → IsStarted call signature start
  start_fault start limits fits rose is = started_by start ReadFault is (record { limits = limits; fits = fits }, rose, refl) rose

  pub start_long : (start : Start) (limits : Limits) → limits_of call.words ≡ Some limits → CamePast call.before call.after most_bytes → call.faults_after ≡ call.faults_before → start ≡ Err TooLong → IsStarted call signature start
  start_long start limits fits past as_before is = started_by start TooLong is (record { limits = limits; fits = fits }, past, refl) as_before

  pub start_memory : (start : Start) → call.faults_after ≡ call.faults_before → start ≡ Err Memory → IsStarted call signature start
  start_memory start as_before is = started_by start Memory is (inl refl) as_before

  solved : (limits : Limits) (bytes : List ℕ) → limits_of call.words ≡ Some limits → CameWhole call.before call.after most_bytes bytes → call.faults_after ≡ call.faults_before → (start : Start) → IsSolved limits bytes signature start → IsStarted call signature start
  solved limits bytes fits came as_before (Ok t) h = record {
    begun = record {
      limits = limits;
      input = clauses h.read.entries;
      fits = fits;
      input_is = record { bytes = bytes; read = h.read; came = came; spelled = h.spelled; symbols = h.symbols; clauses_are = refl };
      fresh = h.started;
    };
    counted = as_before;
  }
  solved limits bytes fits came as_before (Err answer) h = start_memory (Err answer) as_before (ap Err h.started)

  pub start_read : (start : Start) (limits : Limits) (bytes : List ℕ) → limits_of call.words ≡ Some limits → CameWhole call.before call.after most_bytes bytes → call.faults_after ≡ call.faults_before → IsRead limits bytes signature start → IsStarted call signature start
  start_read start limits bytes fits came as_before (inl h) = solved limits bytes fits came as_before start h
  start_read start limits bytes fits came as_before (inr (inl h)) =
      started_by start (Input h.fault) h.start_is (record { limits = limits; fits = fits }, record { bytes = bytes; came = came; faulty = h.faulty }, refl) as_before
  start_read start limits bytes fits came as_before (inr (inr is)) = start_memory start as_before is

pub ruleset start_laws = (start_words, start_fault, start_long, start_memory, start_read)

-- ---- from there to the outcome

-- a fresh table may be worked on
pub fresh_start : (call : Call) (signature : List Declared) (start : Start) → IsStarted call signature start → IfOk start (λ t. (t.past ≡ []) × (t.setting.workers ≡ 1))
fresh_start call signature (Ok t) h = (h.begun.fresh.empty, h.begun.fresh.one_worker)
fresh_start call signature (Err answer) h = tt

no_fault : (answer : Answer) → IsOfProving answer → is_fault answer ≡ false
no_fault ProofFound h = refl
no_fault (Completion node kept put_off) h = refl
no_fault (Rounds count) h = refl
no_fault (Steps limit) h = refl
no_fault (Size symbols) h = refl
no_fault Words h = absurd h
no_fault (Input fault) h = absurd h
no_fault TooLong h = absurd h
no_fault ReadFault h = absurd h
no_fault Memory h = refl

-- the table is of the clauses that came, within the limits of the words
decided_so : (limits : Limits) (input : List Clause) (t : State) (table : Option State) (proof : List Line) (answer : Answer) → IsFresh limits input t → IsDecided t.setting.limits t.setting.input table proof answer → IsDecided limits input table proof answer
decided_so limits input t table proof answer f h =
    subst (λ l. IsDecided l input table proof answer) f.limits_are
    (subst (λ i. IsDecided t.setting.limits i table proof answer) f.input_is h)

pub outcome_of : (call : Call) (signature : List Declared) (start : Start) (table : Option State) (reported : Answer) (failed : Bool) (old new : Option (List ℕ)) → IsStarted call signature start → IsFinished start signature table reported failed old new → IsOutcome call table reported failed old new
outcome_of call signature (Ok t) table reported failed old new s f =
    let b = s.begun in
    let decided : IsDecided b.limits b.input table f.proof f.answer = decided_so b.limits b.input t table f.proof f.answer b.fresh f.ended in
    let tells : is_fault f.answer ≡ false = no_fault f.answer (decided_given b.limits b.input f.proof table f.answer decided) in
    record {
      signature = signature;
      proof = f.proof;
      answer = f.answer;
      cause = tried call signature f.proof table f.answer (record { limits = b.limits; input = b.input; fits = b.fits; input_is = b.input_is; decided = decided });
      counted = subst (λ v. call.faults_after ≡ count_after v call.faults_before) (sym tells) s.counted;
      delivered = f.written;
    }
outcome_of call signature (Err answer) table reported failed old new s f =
    let none : table ≡ None = f.ended.0 in
    let same : f.answer ≡ answer = f.ended.1 in
    record {
      signature = signature;
      proof = f.proof;
      answer = f.answer;
      cause = subst (λ o. IsCause call signature o f.proof f.answer) (sym none) (subst (IsCause call signature None f.proof) (sym same) (untried call signature f.proof answer s.begun));
      counted = subst (λ a. call.faults_after ≡ count_after (is_fault a) call.faults_before) (sym same) s.counted;
      delivered = f.written;
    }

pub ruleset outcome_laws = (fresh_start, outcome_of)
