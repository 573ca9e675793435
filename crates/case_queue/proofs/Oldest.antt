-- The oldest passive clause is the best by age.
use Rattle.std.proofs.Common.{◌≡◌, ◌∙◌, ℕ, ◌<◌, ◌≤◌, inl, inr, true, false, List, Some, None, sym, ap, arith}
use Rattle.std.proofs.lemmas.Bool.{cases_lt, lt-ltb}
use Rattle.proof_steps.specs.declared.step.Line.{Line}
use Rattle.case_journal.specs.declared.event.Entry.{Entry}
use Rattle.case_journal.specs.Journal.{Setting, ledger, steps}
use Rattle.case_journal.specs.Picking.{is_passive, weighed}
use Rattle.case_queue.specs.Queues.{best_by}
use Rattle.case_queue.specs.LineLaws.{numbered_some, numbered_within, numbered_there, numbered_once}
use Rattle.case_queue.proofs.Best.{IsFirstTo, best_is, best_none}

older_than : (n i : ℕ) (l k : Line) → (i ≡ n → k ≡ l) → n ≤ i → IsFirstTo true (weighed n l) (weighed i k)
older_than n i l k same high = elim (cases_lt n i) [
  | inl more ↦ inr (lt-ltb n i more)
  | inr rest ↦ let e : i ≡ n = omega (arith, high, rest) in inl (ap (λ j. weighed j k) e ∙ ap (weighed n) (same e))
]

-- a passive clause before which none is passive
pub oldest_is : (s : Setting) (past : List Entry) (m n : ℕ) → 1 ≤ n → n ≤ steps s past → is_passive s past m n ≡ true → ((i : ℕ) → 1 ≤ i → i < n → is_passive s past m i ≡ false) → best_by true s past m ≡ Some n
oldest_is s past m n one within passes older =
    let r = numbered_there (ledger s past) n one within in
    best_is true s past m n r.0 r.1 passes (λ i k found yet. elim (cases_lt i n) [
      | inl low ↦ let bad : true ≡ false = sym yet ∙ older i (numbered_some (ledger s past) i k found) low in absurd (cc)
      | inr high ↦ older_than n i r.0 k (numbered_once (ledger s past) n i r.0 k r.1 found) high
    ])

pub oldest_none : (s : Setting) (past : List Entry) (m : ℕ) → ((i : ℕ) → 1 ≤ i → i ≤ steps s past → is_passive s past m i ≡ false) → best_by true s past m ≡ None
oldest_none s past m none = best_none true s past m (λ i k found yet.
    (let bad : true ≡ false = sym yet ∙ none i (numbered_some (ledger s past) i k found) (numbered_within (ledger s past) i k found) in absurd (cc)))
