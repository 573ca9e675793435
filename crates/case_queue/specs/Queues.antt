-- What a queue of clauses holds for a node.
use Rattle.std.specs.Prelude.{◌≡◌, ℕ, ◌+◌, ◌<◌, ◌≤◌, min, Bool, true, false, List, ◌∷◌, map, fold, slice_get, Option, Some, None, option_map, All, Contains, IsPermutation}
use Rattle.std.specs.Ordering.{nat_cmp, ordering_then}
use Rattle.std.specs.BinaryHeap.{IsHeap, IsUpperBound, heap_items}
use Rattle.std.specs.declared.cmp.Ordering.{Ordering}
use Rattle.std.specs.declared.cmp.Reverse.{Reverse}
use Rattle.spl_terms.specs.Clauses.{clause_symbols}
use Rattle.spl_truth.specs.Picking.{better}
use Rattle.proof_steps.specs.declared.step.Line.{Line}
use Rattle.proof_steps.specs.Steps.{numbered}
use Rattle.case_journal.specs.declared.event.Entry.{Entry}
use Rattle.case_journal.specs.Journal.{Setting, ledger, steps}
use Rattle.case_journal.specs.Picking.{is_passive, passive}
use Rattle.case_queue.specs.declared.queue.CaseQueue.{CaseQueue}

-- symbols and number of each clause in the heap, in no order
abbrev pub entries : CaseQueue → List (ℕ × ℕ)
entries q = map (λ x. x.0) (heap_items q.lightest)

-- the greatest has the fewest symbols, and of these the smallest number
abbrev pub lighter_first : Reverse (ℕ × ℕ) → Reverse (ℕ × ℕ) → Ordering
lighter_first x y = ordering_then (nat_cmp y.0.0 x.0.0) (nat_cmp y.0.1 x.0.1)

-- the pair has the symbols and the number of a clause of the ledger
pub record IsEntry (s : Setting) (past : List Entry) (e : ℕ × ℕ) : Type 0 where
  pub line : Line
  pub found : numbered (ledger s past) e.1 ≡ Some line
  pub symbols : e.0 ≡ clause_symbols line.stated.clause

-- of the first clause numbers, up to count, those that are passive at m are in the queue
pub record HasFirst (s : Setting) (past : List Entry) (m count : ℕ) (q : CaseQueue) : Type 0 where
  pub complete : (i : ℕ) (l : Line) → i ≤ count → is_passive s past m i ≡ true → numbered (ledger s past) i ≡ Some l → Contains (entries q) (clause_symbols l.stated.clause, i)
  pub sized : All (IsEntry s past) (entries q)
  pub ordered : IsHeap lighter_first (heap_items q.lightest)
  pub some : 1 ≤ q.oldest
  pub within : q.oldest ≤ count + 1
  pub older : (i : ℕ) → 1 ≤ i → i < q.oldest → is_passive s past m i ≡ false

-- all clauses that are passive at m are in the queue
abbrev pub HasQueue : Setting → List Entry → ℕ → CaseQueue → Type 0
HasQueue s past m q = HasFirst s past m (steps s past) q

-- the numbers are those of clauses
abbrev pub AreOfLedger : Setting → List Entry → List ℕ → Type 0
AreOfLedger s past numbers = (k n : ℕ) → slice_get numbers k ≡ Some n → (1 ≤ n) × (n ≤ steps s past)

-- the numbers of all clauses that are passive at m are among these
abbrev pub HasPassive : Setting → List Entry → ℕ → List ℕ → Type 0
HasPassive s past m numbers = (i : ℕ) → 1 ≤ i → i ≤ steps s past → is_passive s past m i ≡ true → (k : ℕ) × (slice_get numbers k ≡ Some i)

-- clause n was put into the queue
pub record IsPut (s : Setting) (past : List Entry) (n : ℕ) (old new : CaseQueue) : Type 0 where
  pub line : Line
  pub found : numbered (ledger s past) n ≡ Some line
  pub added : IsPermutation ((clause_symbols line.stated.clause, n) ∷ entries old) (entries new)
  pub ordered : IsHeap lighter_first (heap_items old.lightest) → IsHeap lighter_first (heap_items new.lightest)
  pub oldest : new.oldest ≡ min old.oldest n

-- the best of the clauses that are passive at m, by age or by size
abbrev pub best_by : Bool → Setting → List Entry → ℕ → Option ℕ
best_by by_age s past m = option_map (λ a. a.number) (fold (better by_age) None (passive s past m))

-- number n is at the top of the heap, and where that is in order nothing in it is greater
pub record IsTop (q : CaseQueue) (n : ℕ) : Type 0 where
  pub first : Reverse (ℕ × ℕ)
  pub rest : List (Reverse (ℕ × ℕ))
  pub is : heap_items q.lightest ≡ first ∷ rest
  pub number : n ≡ first.0.1
  pub greatest : IsHeap lighter_first (heap_items q.lightest) → IsUpperBound lighter_first first (heap_items q.lightest)
