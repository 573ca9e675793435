-- The top of the heap is the best by size, if it is passive.
use Rattle.std.proofs.Common.{◌≡◌, ◌∙◌, ℕ, ◌≤◌, ◌⊎◌, inl, inr, true, false, ◌||◌, ◌&&◌, ◌==◌, nat_lt, nat_cmp, is_lt, List, [], map, Some, None, All, Contains, heap_items, sym, ap, subst, arith}
use Rattle.std.specs.Ordering.{ordering_then}
use Rattle.std.specs.BinaryHeap.{IsHeap, lt_by_cmp}
use Rattle.std.specs.declared.cmp.Reverse.{Reverse}
use Rattle.std.proofs.lemmas.Bool.Decides.{nat_tests}
use Rattle.std.proofs.lemmas.List.Elements.{All-head, All-map, All-contains, All-from_recursion}
use Rattle.spl_terms.specs.Clauses.{clause_symbols}
use Rattle.proof_steps.specs.declared.step.Line.{Line}
use Rattle.proof_steps.specs.Steps.{numbered}
use Rattle.case_journal.specs.declared.event.Entry.{Entry}
use Rattle.case_journal.specs.Journal.{Setting, ledger, steps}
use Rattle.case_journal.specs.Picking.{is_passive, weighed}
use Rattle.case_queue.specs.declared.queue.CaseQueue.{CaseQueue}
use Rattle.case_queue.specs.Queues.{HasFirst, HasQueue, IsEntry, IsTop, lighter_first, entries, best_by}
use Rattle.case_queue.specs.LineLaws.{numbered_within, numbered_once}
use Rattle.case_queue.proofs.Best.{IsFirstTo, best_is, best_none}

-- the top is a clause of the ledger
pub top_entry : (s : Setting) (past : List Entry) (m count n : ℕ) (q : CaseQueue) → HasFirst s past m count q → (t : IsTop q n) → IsEntry s past t.first.0
top_entry s past m count n q h t =
    All-head (IsEntry s past) t.first.0 (map (λ x. x.0) t.rest) (subst (λ xs. All (IsEntry s past) (map (λ x. x.0) xs)) t.is h.sized)

pub top_within : (s : Setting) (past : List Entry) (m count n : ℕ) (q : CaseQueue) → HasFirst s past m count q → IsTop q n → n ≤ steps s past
top_within s past m count n q h t =
    let e = top_entry s past m count n q h t in
    let w = numbered_within (ledger s past) t.first.0.1 e.line e.found in
    let i = t.number in
    omega (arith, w, i)

not_less : (a i w n : ℕ) → is_lt (ordering_then (nat_cmp a w) (nat_cmp i n)) ≡ false → (nat_lt w a || ((w == a) && nat_lt n i) ≡ true) ⊎ ((w ≡ a) × (i ≡ n))
not_less a i w n h = grind (arith, nat_tests)

-- of two pairs the one that is not less is that of the clause that goes first
lighter_than : (n i : ℕ) (l k : Line) → (i ≡ n → k ≡ l) → is_lt (ordering_then (nat_cmp (clause_symbols k.stated.clause) (clause_symbols l.stated.clause)) (nat_cmp i n)) ≡ false → IsFirstTo false (weighed n l) (weighed i k)
lighter_than n i l k same h = elim (not_less (clause_symbols k.stated.clause) i (clause_symbols l.stated.clause) n h) [
  | inl less ↦ inr less
  | inr equal ↦ inl (ap (λ j. weighed j k) equal.1 ∙ ap (weighed n) (same equal.1))
]

-- no pair of the heap is greater than its top
greatest_of : (q : CaseQueue) (n : ℕ) → IsHeap lighter_first (heap_items q.lightest) → (t : IsTop q n) → All (λ e. is_lt (ordering_then (nat_cmp e.0 t.first.0.0) (nat_cmp e.1 t.first.0.1)) ≡ false) (entries q)
greatest_of q n order t =
    All-map (λ e. is_lt (ordering_then (nat_cmp e.0 t.first.0.0) (nat_cmp e.1 t.first.0.1)) ≡ false) (λ (x : Reverse (ℕ × ℕ)). x.0) (heap_items q.lightest)
    (All-from_recursion (λ x. lt_by_cmp lighter_first t.first x ≡ false) (heap_items q.lightest) (t.greatest order))

pub lightest_is : (s : Setting) (past : List Entry) (m n : ℕ) (q : CaseQueue) → HasQueue s past m q → IsTop q n → is_passive s past m n ≡ true → best_by false s past m ≡ Some n
lightest_is s past m n q h t passes =
    let e = top_entry s past m (steps s past) n q h t in
    let found = ap (numbered (ledger s past)) t.number ∙ e.found in
    best_is false s past m n e.line found passes (λ i k at yet. (
    let P = λ (x : ℕ × ℕ). is_lt (ordering_then (nat_cmp x.0 t.first.0.0) (nat_cmp x.1 t.first.0.1)) ≡ false in
    let less = All-contains P (entries q) (clause_symbols k.stated.clause, i) (greatest_of q n h.ordered t) (h.complete i k (numbered_within (ledger s past) i k at) yet at) in
    let behind = λ (w j : ℕ). is_lt (ordering_then (nat_cmp (clause_symbols k.stated.clause) w) (nat_cmp i j)) ≡ false in
    lighter_than n i e.line k (numbered_once (ledger s past) n i e.line k found at)
    (subst (λ w. behind w n) e.symbols (subst (λ j. behind t.first.0.0 j) (sym t.number) less))))

nothing_in : (x : ℕ × ℕ) → Contains [] x → ⊥
nothing_in x (k, less, is) = absurd (omega (arith, less))

pub lightest_none : (s : Setting) (past : List Entry) (m : ℕ) (q : CaseQueue) → HasQueue s past m q → entries q ≡ [] → best_by false s past m ≡ None
lightest_none s past m q h empty = best_none false s past m (λ i k at yet.
    nothing_in (clause_symbols k.stated.clause, i) (subst (λ xs. Contains xs (clause_symbols k.stated.clause, i)) empty (h.complete i k (numbered_within (ledger s past) i k at) yet at)))
