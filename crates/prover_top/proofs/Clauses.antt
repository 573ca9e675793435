-- What an outcome says of each answer.
use Rattle.std.proofs.Common.{◌≡◌, ◌⊎◌, inl, inr, ℕ, ◌<◌, ◌≤◌, Bool, true, false, List, ◌++◌, length, Option, Some, None, refl, sym, ap, subst, ◌∙◌, arith, length-append}
use Rattle.std.specs.Prelude.{IfSome, IsSomeAnd, Result, Ok, Err}
use Rattle.std.proofs.lemmas.List.{append-nil}
use Rattle.outside_io.specs.Outside.{Rose, CameWhole, CamePast, count_after}
use Rattle.spl_symbols.specs.Symbols.{Declared}
use Rattle.proof_steps.specs.declared.step.Line.{Line}
use Rattle.case_journal.specs.declared.event.Limits.{Limits}
use Rattle.split_tree.specs.State.{State}
use Rattle.dfg_reader.specs.declared.fault.ReadFault.{ReadFault as Fault}
use Rattle.dfg_reader.specs.declared.problem.Problem.{Problem}
use Rattle.dfg_reader.specs.Problems.{problem}
use Rattle.prover_top.specs.declared.answers.Answer.{Answer}
use Rattle.prover_top.specs.declared.answers.Answer.TheVariants.{ProofFound, Completion, Rounds, Steps, Size, Words, Input, TooLong, ReadFault, Memory}
use Rattle.prover_top.specs.Words.{limits_of}
use Rattle.prover_top.specs.Answers.{is_fault}
use Rattle.prover_top.specs.Endings.{IsContradicted, IsComplete, IsSpent, IsFull, IsOversized}
use Rattle.prover_top.specs.Outcomes.{Call, most_bytes, IsInput, IsRefused, answer_for, answer_of, IsTried, IsCause}
use Rattle.prover_top.specs.Reports.{IsOutcome, HasTable, HasProof, IsOfProving, IsUnlessMemory, IsTold}
use Rattle.prover_top.proofs.Ends.{IsCaused, caused, proved_of}
use Rattle.prover_top.proofs.Causes.{memory}

-- the cause of what is reported
pub record IsReported (call : Call) (table : Option State) (reported : Answer) : Type 0 where
  pub signature : List Declared
  pub proof : List Line
  pub cause : IsCause call signature table proof reported

no_fit : (o : Option Limits) (n : Limits) → o ≡ Some n → o ≡ None → ⊥
no_fit o n e f = let h : Some n ≡ None = sym e ∙ f in absurd (cc)

module _ (call : Call) (table : Option State) (reported : Answer) (failed : Bool) (old new : Option (List ℕ)) (o : IsOutcome call table reported failed old new) where
  by_same : (reported ≡ o.answer) ⊎ (reported ≡ Memory) → IsReported call table reported
  by_same (inl e) = record { signature = o.signature; proof = o.proof; cause = subst (IsCause call o.signature table o.proof) (sym e) o.cause }
  by_same (inr e) = record { signature = o.signature; proof = o.proof; cause = subst (IsCause call o.signature table o.proof) (sym e) (memory call o.signature o.proof table o.answer o.cause) }

  either : (reported ≡ Memory) ⊎ (reported ≡ Memory) → (reported ≡ o.answer) ⊎ (reported ≡ Memory)
  either (inl e) = inr e
  either (inr e) = inr e

  pub reported_cause : IsReported call table reported
  reported_cause = elim o.delivered [ inl d ↦ by_same d.same | inr d ↦ by_same (either d.same) ]

  cause_at : (answer : Answer) → reported ≡ answer → IsCause call reported_cause.signature table reported_cause.proof answer
  cause_at answer e = subst (IsCause call reported_cause.signature table reported_cause.proof) e reported_cause.cause

  -- ---- refusals

  pub words_only : reported ≡ Words → limits_of call.words ≡ None
  words_only e = (cause_at Words e).0

  pub fault_only : reported ≡ ReadFault → Rose call.faults_before call.faults_after
  fault_only e = (cause_at ReadFault e).1

  pub too_long_only : reported ≡ TooLong → CamePast call.before call.after most_bytes
  too_long_only e = (cause_at TooLong e).1

  pub input_only : (fault : Fault) → reported ≡ Input fault → IsRefused call.before call.after fault
  input_only fault e = (cause_at (Input fault) e).1

fault_cases : (call : Call) (answer : Answer) → call.faults_after ≡ count_after (is_fault answer) call.faults_before → (call.faults_after ≡ call.faults_before → ⊥) → answer ≡ ReadFault
fault_cases call ProofFound h n = absurd (n h)
fault_cases call (Completion node kept put_off) h n = absurd (n h)
fault_cases call (Rounds count) h n = absurd (n h)
fault_cases call (Steps limit) h n = absurd (n h)
fault_cases call (Size symbols) h n = absurd (n h)
fault_cases call Words h n = absurd (n h)
fault_cases call (Input fault) h n = absurd (n h)
fault_cases call TooLong h n = absurd (n h)
fault_cases call ReadFault h n = refl
fault_cases call Memory h n = absurd (n h)

one_fault_at_most : (before after : ℕ) (fault : Bool) → after ≡ count_after fault before → (after ≡ before) ⊎ Rose before after
one_fault_at_most before after false h = inl h
one_fault_at_most before after true h = inr h

module _ (call : Call) (table : Option State) (reported : Answer) (failed : Bool) (old new : Option (List ℕ)) (o : IsOutcome call table reported failed old new) where
  told_or_memory : o.answer ≡ ReadFault → (reported ≡ o.answer) ⊎ (reported ≡ Memory) → IsUnlessMemory ReadFault reported
  told_or_memory is (inl e) = inl (e ∙ is)
  told_or_memory is (inr e) = inr e

  -- where a failed read was counted, it is what is reported
  pub fault_always : (call.faults_after ≡ call.faults_before → ⊥) → IsUnlessMemory ReadFault reported
  fault_always n =
      let is = fault_cases call o.answer o.counted n in
      elim o.delivered [ inl d ↦ told_or_memory is d.same | inr d ↦ told_or_memory is (either call table reported failed old new o d.same) ]

  pub read_count : (call.faults_after ≡ call.faults_before) ⊎ Rose call.faults_before call.faults_after
  read_count = one_fault_at_most call.faults_before call.faults_after (is_fault o.answer) o.counted

words_cases : (call : Call) (signature : List Declared) (table : Option State) (proof : List Line) (answer : Answer) → IsCause call signature table proof answer → limits_of call.words ≡ None → IsUnlessMemory Words answer
words_cases call signature table proof ProofFound h e = absurd (no_fit _ _ h.fits e)
words_cases call signature table proof (Completion node kept put_off) h e = absurd (no_fit _ _ h.fits e)
words_cases call signature table proof (Rounds count) h e = absurd (no_fit _ _ h.fits e)
words_cases call signature table proof (Steps limit) h e = absurd (no_fit _ _ h.fits e)
words_cases call signature table proof (Size symbols) h e = absurd (no_fit _ _ h.fits e)
words_cases call signature table proof Words h e = inl refl
words_cases call signature table proof (Input fault) h e = absurd (no_fit _ _ h.0.fits e)
words_cases call signature table proof TooLong h e = absurd (no_fit _ _ h.0.fits e)
words_cases call signature table proof ReadFault h e = absurd (no_fit _ _ h.0.fits e)
words_cases call signature table proof Memory h e = inr refl

pub words_always : (call : Call) (table : Option State) (reported : Answer) (failed : Bool) (old new : Option (List ℕ)) → IsOutcome call table reported failed old new → limits_of call.words ≡ None → IsUnlessMemory Words reported
words_always call table reported failed old new o = let r = reported_cause call table reported failed old new o in words_cases call r.signature table r.proof reported r.cause

-- ---- tables

no_table : (t : State) → Some t ≡ None → ⊥
no_table t e = absurd (cc)

tried_of : (call : Call) (signature : List Declared) (t : State) (proof : List Line) (answer : Answer) → IsCause call signature (Some t) proof answer → IsTried call signature (Some t) proof answer
tried_of call signature t proof ProofFound h = h
tried_of call signature t proof (Completion node kept put_off) h = h
tried_of call signature t proof (Rounds count) h = h
tried_of call signature t proof (Steps limit) h = h
tried_of call signature t proof (Size symbols) h = h
tried_of call signature t proof Words h = absurd (no_table t h.1)
tried_of call signature t proof (Input fault) h = absurd (no_table t h.2)
tried_of call signature t proof TooLong h = absurd (no_table t h.2)
tried_of call signature t proof ReadFault h = absurd (no_table t h.2)
tried_of call signature t proof Memory (inl e) = absurd (no_table t e)
tried_of call signature t proof Memory (inr h) = h

table_of : (call : Call) (signature : List Declared) (t : State) (proof : List Line) (answer : Answer) → IsTried call signature (Some t) proof answer → HasTable call.words call.before call.after t
table_of call signature t proof answer h = record {
  limits_are = h.fits ∙ ap Some (sym h.decided.0.limits_are);
  signature = signature;
  input_is = subst (IsInput call.before call.after signature) (sym h.decided.0.input_is) h.input_is;
  one_worker = h.decided.0.one_worker;
  legal = h.decided.0.legal;
  ended = h.decided.0.ended;
}

module _ (call : Call) (reported : Answer) (failed : Bool) (old new : Option (List ℕ)) where
  tried_at : (t : State) → IsOutcome call (Some t) reported failed old new → (s : List Declared) × (p : List Line) × IsTried call s (Some t) p reported
  tried_at t o = let c = reported_cause call (Some t) reported failed old new o in (c.signature, c.proof, tried_of call c.signature t c.proof reported c.cause)

  pub has_table : (table : Option State) → IsOutcome call table reported failed old new → IfSome table (λ t. HasTable call.words call.before call.after t)
  has_table None o = tt
  has_table (Some t) o = let h = tried_at t o in table_of call h.0 t h.1 reported h.2

  pub has_answer : (table : Option State) → IsOutcome call table reported failed old new → IfSome table (λ t. IsUnlessMemory (answer_of t) reported)
  has_answer None o = tt
  has_answer (Some t) o = (tried_at t o).2.decided.1.is

  pub proof_always : (table : Option State) → IsOutcome call table reported failed old new → IfSome table (λ t. IsContradicted t → IsUnlessMemory ProofFound reported)
  proof_always None o = tt
  proof_always (Some t) o = λ c. subst (λ r. IsUnlessMemory (answer_for t r) reported) (proved_of t c) (has_answer (Some t) o)

  none_of : (answer : Answer) → reported ≡ answer → (answer ≡ Memory → ⊥) → IsOutcome call None reported failed old new → ((s : List Declared) (p : List Line) → IsCause call s None p answer → answer ≡ Memory) → ⊥
  none_of answer e not_memory o only =
      let c = reported_cause call None reported failed old new o in
      not_memory (only c.signature c.proof (subst (IsCause call c.signature None c.proof) e c.cause))

  -- an answer but want of memory is that of the table
  is_answer : (t : State) → IsOutcome call (Some t) reported failed old new → (answer : Answer) → reported ≡ answer → (answer ≡ Memory → ⊥) → answer ≡ answer_of t
  is_answer t o answer e not_memory = elim (tried_at t o).2.decided.1.is [
    | inl is ↦ sym e ∙ is
    | inr is ↦ absurd (not_memory (sym e ∙ is))
  ]

  cause_of : (t : State) → IsOutcome call (Some t) reported failed old new → (answer : Answer) → reported ≡ answer → (answer ≡ Memory → ⊥) → IsCaused t answer
  cause_of t o answer e not_memory =
      let of = (tried_at t o).2.decided.0 in
      subst (IsCaused t) (sym (is_answer t o answer e not_memory)) (caused t of.legal)

  pub proof_only : (table : Option State) → IsOutcome call table reported failed old new → reported ≡ ProofFound → IsSomeAnd table HasProof
  proof_only None o e = none_of ProofFound e (λ f. absurd (cc)) o (λ s p h. absurd h.decided)
  proof_only (Some t) o e =
      let h = tried_at t o in
      record { cause = cause_of t o ProofFound e (λ f. absurd (cc)); proof = h.1; proved = h.2.decided.1.proved e }

  pub completion_only : (table : Option State) → IsOutcome call table reported failed old new → (node kept put_off : ℕ) → reported ≡ Completion node kept put_off → IsSomeAnd table (IsComplete node kept put_off)
  completion_only None o node kept put_off e = none_of (Completion node kept put_off) e (λ f. absurd (cc)) o (λ s p h. absurd h.decided)
  completion_only (Some t) o node kept put_off e = cause_of t o (Completion node kept put_off) e (λ f. absurd (cc))

  pub rounds_only : (table : Option State) → IsOutcome call table reported failed old new → (count : ℕ) → reported ≡ Rounds count → IsSomeAnd table (IsSpent count)
  rounds_only None o count e = none_of (Rounds count) e (λ f. absurd (cc)) o (λ s p h. absurd h.decided)
  rounds_only (Some t) o count e = cause_of t o (Rounds count) e (λ f. absurd (cc))

  pub steps_only : (table : Option State) → IsOutcome call table reported failed old new → (limit : ℕ) → reported ≡ Steps limit → IsSomeAnd table (IsFull limit)
  steps_only None o limit e = none_of (Steps limit) e (λ f. absurd (cc)) o (λ s p h. absurd h.decided)
  steps_only (Some t) o limit e = cause_of t o (Steps limit) e (λ f. absurd (cc))

  pub size_only : (table : Option State) → IsOutcome call table reported failed old new → (symbols : ℕ) → reported ≡ Size symbols → IsSomeAnd table (IsOversized symbols)
  size_only None o symbols e = none_of (Size symbols) e (λ f. absurd (cc)) o (λ s p h. absurd h.decided)
  size_only (Some t) o symbols e = cause_of t o (Size symbols) e (λ f. absurd (cc))

-- ---- told bytes

-- what came whole is what was told
came_whole : (bytes came : List ℕ) (after : Option (List ℕ)) → CameWhole (Some bytes) after most_bytes came → came ≡ bytes
came_whole bytes came None h = absurd h.0
came_whole bytes came (Some left) h = sym (h.0 ∙ ap (λ l. came ++ l) h.1 ∙ append-nil came)

came_past : (bytes : List ℕ) (after : Option (List ℕ)) → CamePast (Some bytes) after most_bytes → most_bytes < length bytes
came_past bytes None h = absurd h.1
came_past bytes (Some left) h =
    let e : length bytes ≡ length (h.0 ++ left) = ap length h.1 in
    omega (arith, length-append h.0 left, h.2)

came_told : (before after : Option (List ℕ)) (bytes came : List ℕ) → before ≡ Some bytes → CameWhole before after most_bytes came → came ≡ bytes
came_told before after bytes came e h = came_whole bytes came after (subst (λ b. CameWhole b after most_bytes came) e h)

past_told : (before after : Option (List ℕ)) (bytes : List ℕ) → before ≡ Some bytes → CamePast before after most_bytes → length bytes ≤ most_bytes → ⊥
past_told before after bytes e h small = let past = came_past bytes after (subst (λ b. CamePast b after most_bytes) e h) in absurd (omega (arith, past))

both : {A B : Type 0} (r : Result A B) (a : A) (b : B) → r ≡ Ok a → r ≡ Err b → ⊥
both r a b e f = let h : Ok a ≡ Err b = sym e ∙ f in absurd (cc)

one_fault : (r : Result Problem Fault) (a b : Fault) → r ≡ Err a → r ≡ Err b → a ≡ b
one_fault r a b e f = let h : Err a ≡ Err b = sym e ∙ f in cc

module _ (call : Call) (signature : List Declared) (table : Option State) (proof : List Line) (bytes : List ℕ) (told : IsTold call bytes) where
  whole : (came : List ℕ) → CameWhole call.before call.after most_bytes came → came ≡ bytes
  whole came = came_told call.before call.after bytes came told.told

  no_words : limits_of call.words ≡ None → ⊥
  no_words = no_fit _ told.limits told.fits

  -- a problem was read, and these bytes have a fault
  not_read : (fault : Fault) (s : List Declared) (input : _) → problem bytes ≡ Err fault → IsInput call.before call.after s input → ⊥
  not_read fault s input f h = both (problem bytes) h.read fault (subst (λ b. problem b ≡ Ok h.read) (whole h.bytes h.came) h.spelled) f

  input_cases : (fault : Fault) (answer : Answer) → length bytes ≤ most_bytes → problem bytes ≡ Err fault → IsCause call signature table proof answer → IsUnlessMemory (Input fault) answer
  input_cases fault ProofFound small f h = absurd (not_read fault signature h.input f h.input_is)
  input_cases fault (Completion node kept put_off) small f h = absurd (not_read fault signature h.input f h.input_is)
  input_cases fault (Rounds count) small f h = absurd (not_read fault signature h.input f h.input_is)
  input_cases fault (Steps limit) small f h = absurd (not_read fault signature h.input f h.input_is)
  input_cases fault (Size symbols) small f h = absurd (not_read fault signature h.input f h.input_is)
  input_cases fault Words small f h = absurd (no_words h.0)
  input_cases fault (Input other) small f h = inl (ap Input (one_fault (problem bytes) other fault (subst (λ b. problem b ≡ Err other) (whole h.1.bytes h.1.came) h.1.faulty) f))
  input_cases fault TooLong small f h = absurd (past_told call.before call.after bytes told.told h.1 small)
  input_cases fault ReadFault small f h = absurd (told.no_fault h.1)
  input_cases fault Memory small f h = inr refl

  -- bytes came to the end, so they were no more than the limit
  not_long : (came : List ℕ) → CameWhole call.before call.after most_bytes came → most_bytes < length bytes → ⊥
  not_long came h long = let e : length came ≡ length bytes = ap length (whole came h) in absurd (omega (arith, e, h.2, long))

  long_cases : (answer : Answer) → most_bytes < length bytes → IsCause call signature table proof answer → IsUnlessMemory TooLong answer
  long_cases ProofFound long h = absurd (not_long h.input_is.bytes h.input_is.came long)
  long_cases (Completion node kept put_off) long h = absurd (not_long h.input_is.bytes h.input_is.came long)
  long_cases (Rounds count) long h = absurd (not_long h.input_is.bytes h.input_is.came long)
  long_cases (Steps limit) long h = absurd (not_long h.input_is.bytes h.input_is.came long)
  long_cases (Size symbols) long h = absurd (not_long h.input_is.bytes h.input_is.came long)
  long_cases Words long h = absurd (no_words h.0)
  long_cases (Input fault) long h = absurd (not_long h.1.bytes h.1.came long)
  long_cases TooLong long h = inl refl
  long_cases ReadFault long h = absurd (told.no_fault h.1)
  long_cases Memory long h = inr refl

  complete_cases : (read : Problem) (answer : Answer) → length bytes ≤ most_bytes → problem bytes ≡ Ok read → IsCause call signature table proof answer → IsOfProving answer
  complete_cases read ProofFound small f h = tt
  complete_cases read (Completion node kept put_off) small f h = tt
  complete_cases read (Rounds count) small f h = tt
  complete_cases read (Steps limit) small f h = tt
  complete_cases read (Size symbols) small f h = tt
  complete_cases read Words small f h = absurd (no_words h.0)
  complete_cases read (Input fault) small f h = absurd (both (problem bytes) read fault f (subst (λ b. problem b ≡ Err fault) (whole h.1.bytes h.1.came) h.1.faulty))
  complete_cases read TooLong small f h = absurd (past_told call.before call.after bytes told.told h.1 small)
  complete_cases read ReadFault small f h = absurd (told.no_fault h.1)
  complete_cases read Memory small f h = tt

module _ (call : Call) (table : Option State) (reported : Answer) (failed : Bool) (old new : Option (List ℕ)) (o : IsOutcome call table reported failed old new) where
  pub input_always : (bytes : List ℕ) (fault : Fault) → IsTold call bytes → length bytes ≤ most_bytes → problem bytes ≡ Err fault → IsUnlessMemory (Input fault) reported
  input_always bytes fault told small f = let r = reported_cause call table reported failed old new o in input_cases call r.signature table r.proof bytes told fault reported small f r.cause

  pub too_long_always : (bytes : List ℕ) → IsTold call bytes → most_bytes < length bytes → IsUnlessMemory TooLong reported
  too_long_always bytes told long = let r = reported_cause call table reported failed old new o in long_cases call r.signature table r.proof bytes told reported long r.cause

  pub complete : (bytes : List ℕ) (read : Problem) → IsTold call bytes → length bytes ≤ most_bytes → problem bytes ≡ Ok read → IsOfProving reported
  complete bytes read told small f = let r = reported_cause call table reported failed old new o in complete_cases call r.signature table r.proof bytes told read reported small f r.cause
