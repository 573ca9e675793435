-- Laws that carry proofs, and no definitions that a reader must believe: each step of the ledger states what it concludes from those before it.
use Rattle.std.proofs.Common.{◌≡◌, ℕ, zero, suc, ◌+◌, ◌-◌, inl, inr, Bool, true, false, cond, List, [], ◌∷◌, ◌++◌, length, take, Option, Some, None, option_map, refl, sym, ◌∙◌, ap, subst, arith}
use Rattle.std.proofs.lemmas.Bool.{cases_lt}
use Rattle.std.proofs.lemmas.List.{take-append-le, append-nil}
use Rattle.std.proofs.lemmas.Option.{slice_get-map}
use Rattle.std.specs.List.{slice_get}
use Rattle.spl_terms.specs.declared.clause.Clause.{Clause}
use Rattle.spl_terms.specs.Clauses.{atoms_of, in_order}
use Rattle.proof_steps.specs.declared.step.Statement.{Statement}
use Rattle.proof_steps.specs.declared.step.Step.{Step}
use Rattle.proof_steps.specs.declared.step.Line.{Line}
use Rattle.proof_steps.specs.Parts.{Parted}
use Rattle.proof_steps.specs.Steps.{numbered, conclude, of_one, assumption_of, states}
use Rattle.proof_steps.specs.Checked.{stated, IsConclusion, AreConclusions}
use Rattle.case_journal.specs.declared.event.Entry.{Entry}
use Rattle.case_journal.specs.declared.event.Event.{Event}
use Rattle.case_journal.specs.declared.event.Event.TheVariants.{Publish, Split}
use Rattle.case_journal.specs.Journal.{Setting, input_line, input_lines, lines_of, ledger, AreSmall}
use Rattle.case_journal.specs.Legal.{assume, negation_steps, assume_steps, IsAsked, IsLegalJournal, IsSplittable}
use Rattle.case_journal.specs.ListLaws.{get_more, get_left, get_right}

pub numbered_more : {A : Type 0} (xs ys : List A) (m : ℕ) (x : A) → numbered xs m ≡ Some x → numbered (xs ++ ys) m ≡ Some x
numbered_more xs ys zero x h = cc
numbered_more xs ys (suc k) x h = get_more xs ys k x h

stated_append : (xs ys : List Line) → stated (xs ++ ys) ≡ stated xs ++ stated ys
stated_append [] ys = refl
stated_append (x ∷ xs) ys = ap (λ r. x.stated ∷ r) (stated_append xs ys)

-- ---- assumptions

assumed_more : (f : Statement → Option Statement) (earlier more : List Statement) (m : ℕ) (st : Statement) (o : Option Statement) → numbered earlier m ≡ o → of_one f o ≡ Some st → of_one f (numbered (earlier ++ more) m) ≡ Some st
assumed_more f earlier more m st None e h = cc
assumed_more f earlier more m st (Some p) e h = ap (of_one f) (numbered_more earlier more m p e) ∙ h

assume_more : (input : List Clause) (earlier more : List Statement) (m side : ℕ) (negated : Option ℕ) (st : Statement) → conclude input earlier (assume m side negated) ≡ Some st → conclude input (earlier ++ more) (assume m side negated) ≡ Some st
assume_more input earlier more m side negated st h = assumed_more (assumption_of m side negated) earlier more m st (numbered earlier m) refl h

pub record IsAssume (clause : ℕ) (step : Step) : Type 0 where
  pub side : ℕ
  pub negated : Option ℕ
  pub is : step ≡ assume clause side negated

negations_assume : (clause k n j : ℕ) (step : Step) → slice_get (negation_steps clause k n) j ≡ Some step → IsAssume clause step
negations_assume clause k zero j step h = cc
negations_assume clause k (suc n) zero step h = record { side = 2; negated = Some k; is = cc }
negations_assume clause k (suc n) (suc j) step h = negations_assume clause (k + 1) n j step h

optional_assume : (b : Bool) (clause n j : ℕ) (step : Step) → slice_get (cond b (negation_steps clause 0 n) []) j ≡ Some step → IsAssume clause step
optional_assume true clause n j step h = negations_assume clause 0 n j step h
optional_assume false clause n j step h = cc

-- each step of a Split assumes something about the clause
pub steps_assume : (clause : ℕ) (parts : Parted) (j : ℕ) (step : Step) → slice_get (assume_steps clause parts) j ≡ Some step → IsAssume clause step
steps_assume clause parts zero step h = record { side = 1; negated = None; is = cc }
steps_assume clause parts (suc zero) step h = record { side = 2; negated = None; is = cc }
steps_assume clause parts (suc (suc j)) step h = optional_assume parts.left_ground clause (length (atoms_of parts.left)) j step h

split_concluded : (s : Setting) (past : List Entry) (w node : ℕ) (lines : List Line) (put_off : List Bool) → IsSplittable s past w node lines put_off → (k : ℕ) (l : Line) → slice_get lines k ≡ Some l → IsConclusion s.input (stated (ledger s past ++ take k lines)) l
split_concluded s past w node lines put_off p k l h =
    let c = p.concluded k l h in
    let at = sym (slice_get-map (λ x. x.step) lines k ∙ ap (option_map (λ x. x.step)) h) ∙ ap (λ xs. slice_get xs k) p.steps in
    let a = steps_assume p.clause p.parts k l.step (sym at) in
    let before : conclude s.input (stated (ledger s past)) (assume p.clause a.side a.negated) ≡ Some l.stated = ap (conclude s.input (stated (ledger s past))) (sym a.is) ∙ c.0 in
    let after = assume_more s.input (stated (ledger s past)) (stated (take k lines)) p.clause a.side a.negated l.stated before in
    (ap (λ xs. conclude s.input xs l.step) (stated_append (ledger s past) (take k lines)) ∙ (ap (conclude s.input (stated (ledger s past) ++ stated (take k lines))) a.is ∙ after), c.1)

-- ---- all events

chain_concluded : (s : Setting) (past : List Entry) (line : Line) → IsConclusion s.input (stated (ledger s past)) line → (k : ℕ) (l : Line) → slice_get (line ∷ []) k ≡ Some l → IsConclusion s.input (stated (ledger s past ++ take k (line ∷ []))) l
chain_concluded s past line c zero l h =
    let q : line ≡ l = cc in
    let none : ledger s past ≡ ledger s past ++ [] = sym (append-nil (ledger s past)) in
    subst (λ x. IsConclusion s.input (stated (ledger s past ++ [])) x) q (subst (λ xs. IsConclusion s.input (stated xs) line) none c)
chain_concluded s past line c (suc k) l h = cc

event_concluded : (s : Setting) (past : List Entry) (w : ℕ) (ev : Event) → IsAsked s past w ev → (k : ℕ) (l : Line) → slice_get (lines_of ev) k ≡ Some l → IsConclusion s.input (stated (ledger s past ++ take k (lines_of ev))) l
event_concluded s past w (Publish node chain put_off) p k l h =
    let one = p.asked.one in
    subst (λ xs. IsConclusion s.input (stated (ledger s past ++ take k xs)) l) (sym one) (chain_concluded s past p.asked.line p.asked.concluded k l (ap (λ xs. slice_get xs k) (sym one) ∙ h))
event_concluded s past w (Split node lines put_off) p k l h = split_concluded s past w node lines put_off p.asked k l h
event_concluded s past w _ p k l h = cc

-- ---- the input

pub record IsInputLine (n : ℕ) (cs : List Clause) (k : ℕ) (l : Line) : Type 0 where
  pub clause : Clause
  pub found : slice_get cs k ≡ Some clause
  pub is : l ≡ input_line (n + k) clause

pub input_line_at : (n : ℕ) (cs : List Clause) (k : ℕ) (l : Line) → slice_get (input_lines n cs) k ≡ Some l → IsInputLine n cs k l
input_line_at n [] k l h = cc
input_line_at n (c ∷ cs) zero l h =
    let q : input_line n c ≡ l = cc in
    let z : n ≡ n + 0 = omega arith in
    record { clause = c; found = refl; is = sym q ∙ ap (λ j. input_line j c) z }
input_line_at n (c ∷ cs) (suc k) l h =
    let r = input_line_at (n + 1) cs k l h in
    let z : n + 1 + k ≡ n + suc k = omega arith in
    record { clause = r.clause; found = r.found; is = r.is ∙ ap (λ j. input_line j r.clause) z }

input_concluded : (input : List Clause) (earlier : List Statement) (k : ℕ) (l : Line) → slice_get (input_lines 1 input) k ≡ Some l → conclude input earlier l.step ≡ Some l.stated
input_concluded input earlier k l h =
    let r = input_line_at 1 input k l h in
    let z : 1 + k ≡ suc k = omega arith in
    let is : l ≡ input_line (suc k) r.clause = r.is ∙ ap (λ j. input_line j r.clause) z in
    ap (λ x. conclude input earlier x.step) is ∙ (ap (option_map (λ c. states (in_order c) [])) r.found ∙ ap (λ x. Some x.stated) (sym is))

-- ---- the ledger

take_past : {A : Type 0} (xs ys : List A) (j : ℕ) → take (length xs + j) (xs ++ ys) ≡ xs ++ take j ys
take_past [] ys j = ap (λ n. take n ys) (let e : 0 + j ≡ j = omega arith in e)
take_past (x ∷ xs) ys j = ap (λ n. take n (x ∷ (xs ++ ys))) (let e : suc (length xs) + j ≡ suc (length xs + j) = omega arith in e) ∙ ap (λ r. x ∷ r) (take_past xs ys j)

pub ledger_concluded : (s : Setting) (past : List Entry) → AreSmall (input_lines 1 s.input) → IsLegalJournal s past → AreConclusions s.input (ledger s past)
ledger_concluded s [] small legal k l h = (input_concluded s.input (stated (take k (input_lines 1 s.input))) k l h, small k l h)
ledger_concluded s (e ∷ past) small legal k l h =
    let ls = ledger s past in
    let more = lines_of e.event in
    elim (cases_lt k (length ls)) [
      | inl old ↦
          let before = ledger_concluded s past small legal.1 k l (sym (get_left ls more k old) ∙ h) in
          subst (λ xs. IsConclusion s.input (stated xs) l) (sym (take-append-le k ls more (omega arith))) before
      | inr new ↦
          let j = k - length ls in
          let at : length ls + j ≡ k = omega arith in
          let got = sym (get_right ls more j) ∙ (ap (slice_get (ls ++ more)) at ∙ h) in
          let now = event_concluded s past e.by e.event legal.0.asked j l got in
          subst (λ xs. IsConclusion s.input (stated xs) l) (sym (take_past ls more j) ∙ ap (λ n. take n (ls ++ more)) at) now
    ]
