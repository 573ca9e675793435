-- A desk that is taken, and one that catches up.
use Rattle.std.proofs.Common.{◌≡◌, ◌⊎◌, inl, inr, ℕ, zero, suc, ◌+◌, ◌<◌, ◌≤◌, Bool, true, false, not, ◌&&◌, eqb, List, [], ◌∷◌, ◌++◌, length, map, Option, Some, None, Contains, IsPermutation, get_or, refl, sym, ◌∙◌, ap, subst, arith, length-append, eq-eqb}
use Rattle.std.specs.Prelude.{option_map, reverse}
use Rattle.std.specs.List.{slice_get}
use Rattle.std.specs.List.Sorted.{IsSorted}
use Rattle.std.specs.Ordering.{nat_cmp, is_lt}
use Rattle.std.specs.declared.cmp.Ordering.TheVariants.{Less}
use Rattle.std.specs.Cmp.{nat_cmp_is}
use Rattle.std.proofs.lemmas.Cmp.{nat_cmp_total}
use Rattle.std.proofs.lemmas.Bool.{and_parts, and_from, cases_Bool, cases_lt, or_cases, or_left, or_right, eqb-true}
use Rattle.std.proofs.lemmas.List.Elements.{Contains-append_left, Contains-append_right, Contains-append_cases}
use Rattle.std.proofs.lemmas.List.MinMax.{ranks_by}
use Rattle.std.proofs.lemmas.List.Sorted.{IsPermutation-sym, Contains-permutation, sorted_far}
use Rattle.std.proofs.lemmas.Option.{slice_get-map, slice_get_within, get_or_from_slice_get}
use Rattle.dep_sets.specs.declared.deps.Assumption.{Assumption}
use Rattle.case_journal.specs.declared.event.Entry.{Entry}
use Rattle.case_journal.specs.Journal.{Setting, ledger, steps}
use Rattle.case_journal.specs.Facts.{listed, worked, split, kept, Holds}
use Rattle.case_journal.specs.Picking.{is_passive}
use Rattle.case_journal.specs.Legal.{IsLegalJournal}
use Rattle.case_journal.specs.ListedLaws.{listed_within}
use Rattle.case_journal.specs.ListLaws.{get_left}
use Rattle.case_queue.specs.declared.queue.CaseQueue.{CaseQueue}
use Rattle.case_queue.specs.Queues.{AreOfLedger, HasFirst, HasQueue, HasPassive}
use Rattle.case_queue.specs.KeepingLaws.{first_keeps}
use Rattle.journal_laws.specs.Frame.{KeepsLeaf}
use Rattle.case_view.specs.declared.kept.Kept.{Kept}
use Rattle.case_view.specs.declared.kept.Case.{Case}
use Rattle.case_view.specs.PlaceLaws.{contains_at}
use Rattle.case_view.specs.Trails.{IsTrail}
use Rattle.case_view.specs.TrailLaws.{trail_later}
use Rattle.case_view.specs.Views.{HasClauses, IsRising, is_split_on}
use Rattle.case_view.specs.Walks.{is_among}
use Rattle.case_turns.specs.declared.desk.Desk.{Desk}
use Rattle.case_turns.specs.Desks.{AreNumbersOf, HasTrail, IsDesk, IsDeskNow, IsRetired}

-- ---- the leaf of a view

pub same_leaf : (s : Setting) (past : List Entry) (v w m n : ℕ) → v ≡ w → Holds s past v n → Holds s past w m → n ≡ m
same_leaf s past v w m n e a b = let q : Some n ≡ Some m = sym (subst (λ x. Holds s past x n) e a).claims ∙ b.claims in cc

pub desk_caught : (s : Setting) (past : List Entry) (w m : ℕ) (old new : Desk) → IsDesk s past w m old → IsDeskNow s past old.view.worker old.view.node new → IsDeskNow s past w m new
desk_caught s past w m old new d h = subst (λ n. IsDeskNow s past w n new) d.was.node (subst (λ v. IsDeskNow s past v old.view.node new) d.was.trail.worker h)

pub desk_after : (s : Setting) (old new added : List Entry) (w m : ℕ) (desk : Desk) → new ≡ added ++ old → IsDeskNow s old w m desk → IsDesk s new w m desk
desk_after s old new added w m desk is h = record { start = old; later = added; more = is; was = h }

-- a desk that is that of the leaf now
pub desk_at : (s : Setting) (past : List Entry) (v w m : ℕ) (desk : Desk) → v ≡ w → IsDeskNow s past v m desk → IsDesk s past w m desk
desk_at s past v w m desk e h = record { start = past; later = []; more = refl; was = subst (λ x. IsDeskNow s past x m desk) e h }

-- ---- its trail

pub trail_own : (s : Setting) (past : List Entry) (w : ℕ) (desk : Desk) → HasTrail s past w desk → HasTrail s past desk.view.worker desk
trail_own s past w desk h = record { worker = refl; trail = h.trail }

pub trail_later_on : (s s' : Setting) (past past' : List Entry) (w : ℕ) (desk : Desk) (added : List Entry) → s' ≡ s → past' ≡ added ++ past → HasTrail s past w desk → HasTrail s' past' w desk
trail_later_on s s' past past' w desk added e is h = subst (λ x. HasTrail x past' w desk) (sym e) (record {
  worker = h.worker;
  trail = subst (λ p. IsTrail s p (reverse desk.marks) desk.view) (sym is) (trail_later s added past (reverse desk.marks) desk.view h.trail);
})

pub trail_of : (s : Setting) (past : List Entry) (w m : ℕ) (desk : Desk) → IsDesk s past w m desk → HasTrail s past w desk
trail_of s past w m desk d = trail_later_on s s d.start past w desk d.later refl d.more d.was.trail

-- ---- what is passive at its leaf

mapped : (xs : List Kept) (k n : ℕ) (o : Option Kept) → slice_get xs k ≡ o → option_map (λ (x : Kept). x.number) o ≡ Some n → (x : Kept) × (slice_get xs k ≡ Some x) × (x.number ≡ n)
mapped xs k n None e h = absurd (cc)
mapped xs k n (Some x) e h = let q : x.number ≡ n = cc in (x, e, q)

numbered_at : (xs : List Kept) (ns : List ℕ) (k n : ℕ) → AreNumbersOf xs ns → slice_get ns k ≡ Some n → (x : Kept) × (slice_get xs k ≡ Some x) × (x.number ≡ n)
numbered_at xs ns k n is h = mapped xs k n (slice_get xs k) refl (sym (slice_get-map (λ (x : Kept). x.number) xs k) ∙ (ap (λ l. slice_get l k) (sym is) ∙ h))

number_at : (xs : List Kept) (ns : List ℕ) (k : ℕ) (x : Kept) → AreNumbersOf xs ns → slice_get xs k ≡ Some x → slice_get ns k ≡ Some x.number
number_at xs ns k x is h = ap (λ l. slice_get l k) is ∙ (slice_get-map (λ (x : Kept). x.number) xs k ∙ ap (option_map (λ (x : Kept). x.number)) h)

get_contains : (xs : List ℕ) (k n : ℕ) → slice_get xs k ≡ Some n → Contains xs n
get_contains xs k n found = (k, slice_get_within xs k n found, get_or_from_slice_get xs k n n found)

listed_numbers : (s : Setting) (past : List Entry) (v : Case) (m : ℕ) (ns : List ℕ) → IsLegalJournal s past → HasClauses s past v → v.node ≡ m → AreNumbersOf v.listed ns → (n : ℕ) → Contains ns n → listed s past m n ≡ true
listed_numbers s past v m ns legal has at is n c =
    let x = numbered_at v.listed ns c.0 n is (contains_at ns n c) in
    subst (λ i. listed s past m i ≡ true) x.2 (subst (λ j. listed s past j x.0.number ≡ true) at (has.are_listed x.0 (c.0, x.1)).1)

-- numbers of clauses that are listed at m are those of lines of the ledger
pub of_ledger : (s : Setting) (past : List Entry) (v : Case) (m : ℕ) (ns kept : List ℕ) → IsLegalJournal s past → HasClauses s past v → v.node ≡ m → AreNumbersOf v.listed ns → ((n : ℕ) → Contains kept n → Contains ns n) → AreOfLedger s past kept
of_ledger s past v m ns kept legal has at is are = λ k n found.
    listed_within s past legal m n (listed_numbers s past v m ns legal has at is n (are n (get_contains kept k n found)))

not_both : (a b : Bool) → (not a && not b) ≡ true → (a ≡ true) ⊎ (b ≡ true) → ⊥
not_both a b h (inl e) = let q : true ≡ false = sym (and_parts (not a) (not b) h).0 ∙ ap not e in absurd (cc)
not_both a b h (inr e) = let q : true ≡ false = sym (and_parts (not a) (not b) h).1 ∙ ap not e in absurd (cc)

-- what is passive is not retired
passive_stays : (s : Setting) (past : List Entry) (v : Case) (m i : ℕ) → HasClauses s past v → v.node ≡ m → (split past m i ≡ is_split_on v.path i) → is_passive s past m i ≡ true → IsRetired v i → ⊥
passive_stays s past v m i has at splits passive (inl h) =
    not_both (worked past m i) (split past m i) (and_parts (kept s past m i) (not (worked past m i) && not (split past m i)) passive).1
    (inl (subst (λ j. worked past j i ≡ true) at (subst (λ n. worked past v.node n ≡ true) h.2 (has.are_worked h.0 h.1).1)))
passive_stays s past v m i has at splits passive (inr h) =
    not_both (worked past m i) (split past m i) (and_parts (kept s past m i) (not (worked past m i) && not (split past m i)) passive).1 (inr (splits ∙ h))

-- the listed clauses but for retired ones are all that are passive
pub passive_among : (s : Setting) (past : List Entry) (v : Case) (m : ℕ) (ns retired rest : List ℕ) → HasClauses s past v → v.node ≡ m → ((i : ℕ) → split past m i ≡ is_split_on v.path i) → AreNumbersOf v.listed ns
    → ((n : ℕ) → is_among retired n ≡ true → IsRetired v n) → ((n : ℕ) → Contains ns n → is_among retired n ≡ false → Contains rest n) → HasPassive s past m rest
passive_among s past v m ns retired rest has at splits is are all = λ i some there passive.
    let on = (and_parts (kept s past m i) (not (worked past m i) && not (split past m i)) passive).0 in
    let h = has.all_listed i (subst (λ j. listed s past j i ≡ true) (sym at) on) in
    let c = get_contains ns h.1.0 i (number_at v.listed ns h.1.0 h.0 is h.1.1 ∙ ap Some h.2) in
    let free : is_among retired i ≡ false = elim (cases_Bool (is_among retired i)) [
      | inl among ↦ absurd (passive_stays s past v m i has at (splits i) passive (are i among))
      | inr off ↦ off
    ] in
    let r = all i c free in
    (r.0, contains_at rest i r)

-- ---- what is retired there

split_among : (path : List Assumption) (n : ℕ) → Contains (map (λ (a : Assumption). a.split) path) n → is_split_on path n ≡ true
split_among [] n c = absurd (omega (arith, c.1))
split_among (a ∷ path) n (zero, low, is) = or_left (eqb a.split n) (is_split_on path n) (eq-eqb a.split n is)
split_among (a ∷ path) n (suc k, low, is) = or_right (eqb a.split n) (is_split_on path n) (split_among path n (k, omega (arith, low), is))

among_contains : (xs : List ℕ) (n : ℕ) → is_among xs n ≡ true → Contains xs n
among_contains [] n h = absurd (cc)
among_contains (x ∷ xs) n h = elim (or_cases (eqb n x) (is_among xs n) h) [
  | inl here ↦ (0, omega arith, sym (eqb-true n x here))
  | inr later ↦ Contains-append_right (x ∷ []) xs n (among_contains xs n later)
]

-- the numbers of the worked clauses, and of those that were split on the path, in another order
pub retired_are : (v : Case) (ns old new : List ℕ) → AreNumbersOf v.worked ns → old ≡ ns ++ map (λ (a : Assumption). a.split) v.path → IsPermutation old new → (n : ℕ) → is_among new n ≡ true → IsRetired v n
retired_are v ns old new is all moved n among =
    let c = subst (λ xs. Contains xs n) all (Contains-permutation new old n (IsPermutation-sym old new moved) (among_contains new n among)) in
    elim (Contains-append_cases ns (map (λ (a : Assumption). a.split) v.path) n c) [
      | inl one ↦ (let x = numbered_at v.worked ns one.0 n is (contains_at ns n one) in inl (x.0, (one.0, x.1), x.2))
      | inr one ↦ inr (split_among v.path n one)
    ]

sorted_ordered : (a b : ℕ) → is_lt (nat_cmp b a) ≡ false → a ≤ b
sorted_ordered a b h = elim (cases_lt b a) [
  | inl less ↦ (let e : true ≡ false = ap is_lt (nat_cmp_is b a Less less) ∙ h in absurd (cc))
  | inr more ↦ more
]

pub sorted_rises : (xs : List ℕ) → IsSorted nat_cmp xs → IsRising xs
sorted_rises xs h = λ i j x y ij at_i at_j.
    let low = slice_get_within xs j y at_j in
    let far = sorted_far (λ (a b : ℕ). is_lt (nat_cmp a b)) (ranks_by nat_cmp_total (λ (a : ℕ). a)) xs h i j 0 ij low in
    let p = get_or_from_slice_get xs i x 0 at_i in
    let q = get_or_from_slice_get xs j y 0 at_j in
    let o = sorted_ordered (get_or xs i 0) (get_or xs j 0) far in
    omega (arith, p, q, o)

-- ---- leaving numbers out

-- of the first of the numbers, up to count, all that aren't among the others are kept, and nothing else
pub record AreWithout (numbers others kept : List ℕ) (count : ℕ) : Type 0 where
  pub are : (n : ℕ) → Contains kept n → Contains numbers n
  pub all : (k n : ℕ) → k < count → slice_get numbers k ≡ Some n → is_among others n ≡ false → Contains kept n

one_of : (n m : ℕ) → Contains (n ∷ []) m → n ≡ m
one_of n m (zero, low, is) = is
one_of n m (suc k, low, is) = absurd (omega (arith, low))

same_at : (numbers : List ℕ) (k count n x : ℕ) → k ≡ count → slice_get numbers k ≡ Some n → slice_get numbers count ≡ Some x → n ≡ x
same_at numbers k count n x e at here = let q : Some n ≡ Some x = sym at ∙ (ap (slice_get numbers) e ∙ here) in cc

pub without_none : (numbers others : List ℕ) → AreWithout numbers others [] 0
without_none numbers others = record { are = λ n c. absurd (omega (arith, c.1)); all = λ k n low. absurd (omega (arith, low)) }

pub without_more : (numbers others old new : List ℕ) (count x : ℕ) → slice_get numbers count ≡ Some x → new ≡ old ++ x ∷ [] → AreWithout numbers others old count → AreWithout numbers others new (count + 1)
without_more numbers others old new count x here is h = subst (λ xs. AreWithout numbers others xs (count + 1)) (sym is) (record {
  are = λ n c. elim (Contains-append_cases old (x ∷ []) n c) [
    | inl before ↦ h.are n before
    | inr now ↦ get_contains numbers count n (here ∙ ap Some (one_of x n now))
  ];
  all = λ k n low at free. elim (cases_lt k count) [
    | inl less ↦ Contains-append_left old (x ∷ []) n (h.all k n less at free)
    | inr more ↦
        let same : n ≡ x = same_at numbers k count n x (omega (arith, low, more)) at here in
        Contains-append_right old (x ∷ []) n (0, omega arith, sym same)
  ];
})

pub without_passed : (numbers others kept : List ℕ) (count x : ℕ) → slice_get numbers count ≡ Some x → is_among others x ≡ true → AreWithout numbers others kept count → AreWithout numbers others kept (count + 1)
without_passed numbers others kept count x here among h = record {
  are = h.are;
  all = λ k n low at free. elim (cases_lt k count) [
    | inl less ↦ h.all k n less at free
    | inr more ↦
        let same : n ≡ x = same_at numbers k count n x (omega (arith, low, more)) at here in
        let q : true ≡ false = sym among ∙ (ap (is_among others) (sym same) ∙ free) in
        absurd (cc)
  ];
}

pub without_all : (numbers others kept : List ℕ) (count : ℕ) → length numbers ≤ count → AreWithout numbers others kept count → (n : ℕ) → Contains numbers n → is_among others n ≡ false → Contains kept n
without_all numbers others kept count long h n c free = h.all c.0 n (omega (arith, c.1, long)) (contains_at numbers n c) free

-- ---- the queue as the journal goes on

no_longer : (b c : Bool) → (b ≡ true → c ≡ true) → not c ≡ true → not b ≡ true
no_longer true true f h = h
no_longer true false f h = let e : false ≡ true = f refl in absurd (cc)
no_longer false c f h = refl

passive_before : (s : Setting) (old new : List Entry) (w m i : ℕ) → KeepsLeaf s old new w m → i ≤ steps s old → is_passive s new m i ≡ true → is_passive s old m i ≡ true
passive_before s old new w m i k within h =
    let a = and_parts (kept s new m i) (not (worked new m i) && not (split new m i)) h in
    let b = and_parts (not (worked new m i)) (not (split new m i)) a.1 in
    and_from (kept s old m i) (not (worked old m i) && not (split old m i)) (k.only i within a.0)
    (and_from (not (worked old m i)) (not (split old m i)) (no_longer (worked old m i) (worked new m i) (k.works i) b.0) (no_longer (split old m i) (split new m i) (k.parts i) b.1))

pub queue_keeps : (s : Setting) (old new : List Entry) (w m : ℕ) (q : CaseQueue) → KeepsLeaf s old new w m → HasQueue s old m q → HasFirst s new m (steps s old) q
queue_keeps s old new w m q k h =
    first_keeps s old new m (steps s old) q h (omega arith) (λ i some within passes. passive_before s old new w m i k within passes)
    (omega (arith, ap length k.ledger, length-append (ledger s old) k.lines))
    (λ j low. ap (λ ls. slice_get ls j) k.ledger ∙ get_left (ledger s old) k.lines j low)

pub fewer_steps : (s : Setting) (old new : List Entry) (w m : ℕ) → KeepsLeaf s old new w m → steps s old ≤ steps s new
fewer_steps s old new w m k = omega (arith, ap length k.ledger, length-append (ledger s old) k.lines)

-- ---- room changes nothing

pub desk_moved : (s s' : Setting) (past past' : List Entry) (w m : ℕ) (desk : Desk) → s' ≡ s → past' ≡ past → IsDesk s past w m desk → IsDesk s' past' w m desk
desk_moved s s' past past' w m desk e f d = subst (λ p. IsDesk s' p w m desk) (sym f) (subst (λ x. IsDesk x past w m desk) (sym e) d)
