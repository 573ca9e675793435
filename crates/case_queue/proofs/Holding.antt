-- What a queue holds as clauses are added and dropped.
use Rattle.std.proofs.Common.{◌≡◌, ◌∙◌, ℕ, ◌+◌, ◌-◌, ◌<◌, ◌≤◌, inl, inr, Bool, true, false, List, [], ◌∷◌, length, map, Some, All, Contains, IsPermutation, heap_items, heap_len, Option, None, IfSome, IfNone, slice_index_or, refl, sym, ap, subst, arith, Global}
use Rattle.std.specs.List.{slice_get}
use Rattle.std.proofs.lemmas.Option.{slice_get_within}
use Rattle.std.specs.BinaryHeap.{IsHeap, PopsGreatest}
use Rattle.std.specs.declared.collections.binary_heap.BinaryHeap.{BinaryHeap}
use Rattle.std.specs.declared.cmp.Reverse.{Reverse}
use Rattle.std.proofs.lemmas.Bool.{cases_lt}
use Rattle.std.proofs.lemmas.List.Elements.{All-nil, All-cons, All-tail, Contains-append_right}
use Rattle.std.proofs.lemmas.List.Sorted.{IsPermutation-map, All-permutation, Contains-permutation}
use Rattle.spl_terms.specs.Clauses.{clause_symbols}
use Rattle.proof_steps.specs.declared.step.Line.{Line}
use Rattle.proof_steps.specs.Steps.{numbered}
use Rattle.proof_steps.specs.StepLaws.{Contains-cons_cases}
use Rattle.case_journal.specs.declared.event.Entry.{Entry}
use Rattle.case_journal.specs.Journal.{Setting, ledger, steps}
use Rattle.case_journal.specs.Picking.{is_passive}
use Rattle.case_queue.specs.declared.queue.CaseQueue.{CaseQueue}
use Rattle.case_queue.specs.Queues.{HasFirst, HasQueue, HasPassive, IsPut, IsEntry, IsTop, lighter_first, entries}
use Rattle.case_queue.specs.LineLaws.{numbered_some, numbered_once}

-- after one more clause, which is not passive
pub first_skips : (s : Setting) (past : List Entry) (m n : ℕ) (q : CaseQueue) → 1 ≤ n → HasFirst s past m (n - 1) q → is_passive s past m n ≡ false → HasFirst s past m n q
first_skips s past m n q one h out = record {
  complete = λ i l within passes found. elim (cases_lt i n) [
    | inl low ↦ h.complete i l (omega (arith, low)) passes found
    | inr high ↦ let e : i ≡ n = omega (arith, within, high) in let bad : true ≡ false = sym passes ∙ (ap (is_passive s past m) e ∙ out) in absurd (cc)
  ];
  sized = h.sized;
  ordered = h.ordered;
  some = h.some;
  within = let w = h.within in omega (arith, one, w);
  older = h.older;
}

-- what was in the queue still is, and so is the clause
put_keeps : (s : Setting) (past : List Entry) (n : ℕ) (old new : CaseQueue) (x : ℕ × ℕ) → IsPut s past n old new → Contains (entries old) x → Contains (entries new) x
put_keeps s past n old new x p h =
    let own : ℕ × ℕ = (clause_symbols p.line.stated.clause, n) in
    Contains-permutation (own ∷ entries old) (entries new) x p.added (Contains-append_right (own ∷ []) (entries old) x h)

put_own : (s : Setting) (past : List Entry) (n i : ℕ) (old new : CaseQueue) (l : Line) → IsPut s past n old new → numbered (ledger s past) i ≡ Some l → i ≡ n → Contains (entries new) (clause_symbols l.stated.clause, i)
put_own s past n i old new l p at e =
    let g = numbered_once (ledger s past) n i p.line l p.found at e in
    Contains-permutation ((clause_symbols p.line.stated.clause, n) ∷ entries old) (entries new) (clause_symbols l.stated.clause, i) p.added
    (0, omega arith, ap (λ (y : Line). (clause_symbols y.stated.clause, n)) (sym g) ∙ ap (λ (j : ℕ). (clause_symbols l.stated.clause, j)) (sym e))

put_sized : (s : Setting) (past : List Entry) (n : ℕ) (old new : CaseQueue) → IsPut s past n old new → All (IsEntry s past) (entries old) → All (IsEntry s past) (entries new)
put_sized s past n old new p h =
    let own : ℕ × ℕ = (clause_symbols p.line.stated.clause, n) in
    All-permutation (IsEntry s past) (own ∷ entries old) (entries new) p.added
    (All-cons (IsEntry s past) own (entries old) (record { line = p.line; found = p.found; symbols = refl }) h)

-- after one more clause, which was put into the queue
pub first_puts : (s : Setting) (past : List Entry) (m n : ℕ) (old new : CaseQueue) → 1 ≤ n → HasFirst s past m (n - 1) old → IsPut s past n old new → HasFirst s past m n new
first_puts s past m n old new one h p =
    let w = h.within in
    let same : new.oldest ≡ old.oldest = (let o = p.oldest in omega (arith, o, one, w)) in
    record {
      complete = λ i l within passes at. elim (cases_lt i n) [
        | inl low ↦ put_keeps s past n old new (clause_symbols l.stated.clause, i) p (h.complete i l (omega (arith, low)) passes at)
        | inr high ↦ put_own s past n i old new l p at (let e : i ≡ n = omega (arith, within, high) in e)
      ];
      sized = put_sized s past n old new p h.sized;
      ordered = p.ordered h.ordered;
      some = let o = h.some in omega (arith, same, o);
      within = omega (arith, same, one, w);
      older = λ i low less. h.older i low (omega (arith, less, same));
    }

-- of the clauses with the first of these numbers, up to count, those that are passive at m are in the queue, and none of them is older than it says
pub record HasThese (s : Setting) (past : List Entry) (m : ℕ) (numbers : List ℕ) (count : ℕ) (q : CaseQueue) : Type 0 where
  pub complete : (k i : ℕ) (l : Line) → k < count → slice_get numbers k ≡ Some i → is_passive s past m i ≡ true → numbered (ledger s past) i ≡ Some l → Contains (entries q) (clause_symbols l.stated.clause, i)
  pub sized : All (IsEntry s past) (entries q)
  pub ordered : IsHeap lighter_first (heap_items q.lightest)
  pub some : 1 ≤ q.oldest
  pub within : q.oldest ≤ steps s past + 1
  pub older : (k i : ℕ) → k < count → slice_get numbers k ≡ Some i → is_passive s past m i ≡ true → q.oldest ≤ i

-- before the first of them
pub these_none : (s : Setting) (past : List Entry) (m : ℕ) (numbers : List ℕ) (q : CaseQueue) → heap_items q.lightest ≡ [] → IsHeap lighter_first (heap_items q.lightest) → 1 ≤ q.oldest → q.oldest ≤ steps s past + 1 → HasThese s past m numbers 0 q
these_none s past m numbers q e h one high = record {
  complete = λ k i l less. absurd (omega (arith, less));
  sized = subst (λ xs. All (IsEntry s past) (map (λ x. x.0) xs)) (sym e) (All-nil (IsEntry s past));
  ordered = h;
  some = one;
  within = high;
  older = λ k i less. absurd (omega (arith, less));
}

same_number : (numbers : List ℕ) (k count i n : ℕ) → k ≡ count → slice_get numbers k ≡ Some i → slice_get numbers count ≡ Some n → i ≡ n
same_number numbers k count i n e at here = let q : Some i ≡ Some n = sym at ∙ (ap (slice_get numbers) e ∙ here) in cc

-- after one more of them
pub these_puts : (s : Setting) (past : List Entry) (m : ℕ) (numbers : List ℕ) (count n : ℕ) (old new : CaseQueue) → slice_get numbers count ≡ Some n → 1 ≤ n → HasThese s past m numbers count old → IsPut s past n old new → HasThese s past m numbers (count + 1) new
these_puts s past m numbers count n old new here one h p =
    let o = p.oldest in
    let least : (new.oldest ≤ old.oldest) × (new.oldest ≤ n) = (omega (arith, o), omega (arith, o)) in
    record {
      complete = λ k i l less at passes found. elim (cases_lt k count) [
        | inl low ↦ put_keeps s past n old new (clause_symbols l.stated.clause, i) p (h.complete k i l low at passes found)
        | inr high ↦ put_own s past n i old new l p found (same_number numbers k count i n (let e : k ≡ count = omega (arith, less, high) in e) at here)
      ];
      sized = put_sized s past n old new p h.sized;
      ordered = p.ordered h.ordered;
      some = let w = h.some in omega (arith, o, one, w);
      within = let w = h.within in omega (arith, w, least.0);
      older = λ k i less at passes. elim (cases_lt k count) [
        | inl low ↦ let w = h.older k i low at passes in omega (arith, w, least.0)
        | inr high ↦ let e = same_number numbers k count i n (let e : k ≡ count = omega (arith, less, high) in e) at here in omega (arith, e, least.1)
      ];
    }

-- after all of them
pub these_all : (s : Setting) (past : List Entry) (m : ℕ) (numbers : List ℕ) (count : ℕ) (q : CaseQueue) → length numbers ≤ count → HasPassive s past m numbers → HasThese s past m numbers count q → HasQueue s past m q
these_all s past m numbers count q long all h =
    let place : (i : ℕ) → 1 ≤ i → i ≤ steps s past → is_passive s past m i ≡ true → (k : ℕ) × (k < count) × (slice_get numbers k ≡ Some i) = λ i one within passes.
    let r = all i one within passes in (r.0, omega (arith, slice_get_within numbers r.0 i r.1, long), r.1) in
    record {
      complete = λ i l within passes found. let r = place i (numbered_some (ledger s past) i l found) within passes in h.complete r.0 i l r.1 r.2 passes found;
      sized = h.sized;
      ordered = h.ordered;
      some = h.some;
      within = h.within;
      older = λ i one less. not_passive (is_passive s past m i) (λ passes.
          let high : i ≤ steps s past = (let w = h.within in omega (arith, less, w)) in
          let r = place i one high passes in
          let w = h.older r.0 i r.1 r.2 passes in
          absurd (omega (arith, w, less)));
    }
  where
    not_passive : (b : Bool) → (b ≡ true → ⊥) → b ≡ false
    not_passive true h = absurd (h refl)
    not_passive false h = refl

-- after a clause that is not passive was dropped
pub first_drops : (s : Setting) (past : List Entry) (m count : ℕ) (q : CaseQueue) (x : Reverse (ℕ × ℕ)) (heap : BinaryHeap (Reverse (ℕ × ℕ)) Global) → HasFirst s past m count q
    → is_passive s past m x.0.1 ≡ false → IsPermutation (heap_items q.lightest) (x ∷ heap_items heap) → IsHeap lighter_first (heap_items heap)
    → HasFirst s past m count (record { lightest = heap; oldest = q.oldest })
first_drops s past m count q x heap h out moves order =
    let p = IsPermutation-map (λ (y : Reverse (ℕ × ℕ)). y.0) (heap_items q.lightest) (x ∷ heap_items heap) moves in
    let rest = entries (record { lightest = heap; oldest = q.oldest }) in
    record {
      complete = λ i k within passes at. elim (Contains-cons_cases x.0 rest (clause_symbols k.stated.clause, i) (Contains-permutation (entries q) (x.0 ∷ rest) (clause_symbols k.stated.clause, i) p (h.complete i k within passes at))) [
        | inl e ↦ let bad : true ≡ false = sym passes ∙ (ap (λ (y : ℕ × ℕ). is_passive s past m y.1) (sym e) ∙ out) in absurd (cc)
        | inr c ↦ c
      ];
      sized = All-tail (IsEntry s past) x.0 rest (All-permutation (IsEntry s past) (entries q) (x.0 ∷ rest) p h.sized);
      ordered = order;
      some = h.some;
      within = h.within;
      older = h.older;
    }

-- after a pop of a top that is not passive
pub first_pops : (s : Setting) (past : List Entry) (m count n : ℕ) (q : CaseQueue) (r : Option (Reverse (ℕ × ℕ))) (heap : BinaryHeap (Reverse (ℕ × ℕ)) Global) → HasFirst s past m count q → IsTop q n
    → is_passive s past m n ≡ false → 0 < heap_len q.lightest → IfSome r (λ x. x ≡ slice_index_or (heap_items q.lightest) 0 x) → IfSome r (λ x. IsPermutation (heap_items q.lightest) (x ∷ heap_items heap))
    → IfSome r (λ x. PopsGreatest lighter_first (heap_items q.lightest) x (heap_items heap)) → IfNone r (heap_len q.lightest ≡ 0) → HasFirst s past m count (record { lightest = heap; oldest = q.oldest })
first_pops s past m count n q None heap h t out some top moves order none = absurd (omega (arith, some, none))
first_pops s past m count n q (Some x) heap h t out some top moves order none =
    let e : x ≡ t.first = top ∙ ap (λ xs. slice_index_or xs 0 x) t.is in
    let i : n ≡ x.0.1 = t.number ∙ ap (λ (y : Reverse (ℕ × ℕ)). y.0.1) (sym e) in
    first_drops s past m count q x heap h (ap (is_passive s past m) (sym i) ∙ out) moves (order h.ordered).0
