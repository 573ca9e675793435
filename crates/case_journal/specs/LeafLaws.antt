-- Laws that carry proofs, and no definitions that a reader must believe: the list of leaves has each leaf, and nodes alone.
use Rattle.std.proofs.Common.{◌≡◌, ℕ, zero, suc, ◌+◌, ◌<◌, ◌≤◌, inl, inr, Bool, true, false, cond, not, eqb, List, [], ◌∷◌, Option, Some, refl, sym, ◌∙◌, ap, arith, eq-eqb}
use Rattle.std.proofs.lemmas.Bool.{eqb-true, cases_Bool, cases_lt, cond-false, and_parts}
use Rattle.std.specs.List.{slice_get}
use Rattle.case_journal.specs.declared.event.Entry.{Entry}
use Rattle.case_journal.specs.declared.event.Event.{Event}
use Rattle.case_journal.specs.declared.event.Event.TheVariants.{Split}
use Rattle.case_journal.specs.Journal.{Setting, nodes, nodes_of}
use Rattle.case_journal.specs.Paths.{is_leaf, splits_node, leaves, leaves_by, replaced}
use Rattle.case_journal.specs.Facts.{claimed, claimed_by}
use Rattle.case_journal.specs.Legal.{IsAsked, IsLegalJournal}
use Rattle.case_journal.specs.PathLaws.{not_true}

-- ---- nodes alone

within_step : (b : Bool) (count m : ℕ) (ms rest : List ℕ) (n k x : ℕ) → count + 2 ≤ n → m < n → ((k x : ℕ) → slice_get ms k ≡ Some x → x < n) → ((k x : ℕ) → slice_get rest k ≡ Some x → x < n)
    → slice_get (cond b (count ∷ (count + 1) ∷ ms) (m ∷ rest)) k ≡ Some x → x < n
within_step true count m ms rest n zero x c low each more h = let q : count ≡ x = cc in omega arith
within_step true count m ms rest n (suc zero) x c low each more h = let q : count + 1 ≡ x = cc in omega arith
within_step true count m ms rest n (suc (suc k)) x c low each more h = each k x h
within_step false count m ms rest n zero x c low each more h = let q : m ≡ x = cc in omega arith
within_step false count m ms rest n (suc k) x c low each more h = more k x h

replaced_within : (node count : ℕ) (ms : List ℕ) (n : ℕ) → count + 2 ≤ n → ((k x : ℕ) → slice_get ms k ≡ Some x → x < n) → (k x : ℕ) → slice_get (replaced node count ms) k ≡ Some x → x < n
replaced_within node count [] n c each k x h = cc
replaced_within node count (m ∷ ms) n c each k x h =
    within_step (eqb m node) count m ms (replaced node count ms) n k x c (each 0 m refl) (λ j y g. each (suc j) y g) (replaced_within node count ms n c (λ j y g. each (suc j) y g)) h

leaves_step : (ev : Event) (count : ℕ) (ms : List ℕ) → ((k x : ℕ) → slice_get ms k ≡ Some x → x < count) → (k x : ℕ) → slice_get (leaves_by ev count ms) k ≡ Some x → x < count + nodes_of ev
leaves_step (Split node lines put_off) count ms each k x h = replaced_within node count ms (count + 2) (omega arith) (λ j y g. let low = each j y g in omega arith) k x h
leaves_step _ count ms each k x h = let low = each k x h in omega arith

pub leaf_within : (past : List Entry) (k x : ℕ) → slice_get (leaves past) k ≡ Some x → x < nodes past
leaf_within [] zero x h = let q : 0 ≡ x = cc in omega arith
leaf_within [] (suc k) x h = cc
leaf_within (e ∷ past) k x h = leaves_step e.event (nodes past) (leaves past) (λ j y g. leaf_within past j y g) k x h

-- ---- each leaf

-- x stands in the list
abbrev pub IsAmong : ℕ → List ℕ → Type 0
IsAmong x xs = (k : ℕ) × (slice_get xs k ≡ Some x)

stays_step : (b : Bool) (count m : ℕ) (ms rest : List ℕ) (x : ℕ) → (b ≡ true → x ≡ m → ⊥) → (k : ℕ) → slice_get (m ∷ ms) k ≡ Some x → ((k : ℕ) → slice_get ms k ≡ Some x → IsAmong x rest)
    → IsAmong x (cond b (count ∷ (count + 1) ∷ ms) (m ∷ rest))
stays_step true count m ms rest x other zero h more = let q : m ≡ x = cc in absurd (other refl (sym q))
stays_step true count m ms rest x other (suc k) h more = (suc (suc k), h)
stays_step false count m ms rest x other zero h more = (0, h)
stays_step false count m ms rest x other (suc k) h more = let r = more k h in (suc r.0, r.1)

stays : (node count : ℕ) (ms : List ℕ) (x : ℕ) → (x ≡ node → ⊥) → (k : ℕ) → slice_get ms k ≡ Some x → IsAmong x (replaced node count ms)
stays node count [] x other k h = cc
stays node count (m ∷ ms) x other k h = stays_step (eqb m node) count m ms (replaced node count ms) x (λ same q. other (q ∙ eqb-true m node same)) k h (λ j g. stays node count ms x other j g)

pub record HasBoth (count : ℕ) (xs : List ℕ) : Type 0 where
  pub first : IsAmong count xs
  pub second : IsAmong (count + 1) xs

enters_step : (b : Bool) (count m node : ℕ) (ms rest : List ℕ) → (m ≡ node → b ≡ true) → (k : ℕ) → slice_get (m ∷ ms) k ≡ Some node → ((k : ℕ) → slice_get ms k ≡ Some node → HasBoth count rest)
    → HasBoth count (cond b (count ∷ (count + 1) ∷ ms) (m ∷ rest))
enters_step true count m node ms rest same k h more = record { first = (0, refl); second = (1, refl) }
enters_step false count m node ms rest same zero h more = let q : m ≡ node = cc in let bad = same q in cc
enters_step false count m node ms rest same (suc k) h more = let r = more k h in let a = r.first in let b = r.second in record { first = (suc a.0, a.1); second = (suc b.0, b.1) }

enters : (node count : ℕ) (ms : List ℕ) (k : ℕ) → slice_get ms k ≡ Some node → HasBoth count (replaced node count ms)
enters node count [] k h = cc
enters node count (m ∷ ms) k h = enters_step (eqb m node) count m node ms (replaced node count ms) (λ q. eq-eqb m node q) k h (λ j g. enters node count ms j g)

found_old : (ev : Event) (count m : ℕ) (ms : List ℕ) → not (splits_node ev m) ≡ true → IsAmong m ms → IsAmong m (leaves_by ev count ms)
found_old (Split node lines put_off) count m ms whole among = stays node count ms m (λ q. not_true (eqb node m) whole (eq-eqb node m (sym q))) among.0 among.1
found_old _ count m ms whole among = among

found_new : (s : Setting) (past : List Entry) (w : ℕ) (ev : Event) (m : ℕ) → IsAsked s past w ev → nodes past ≤ m → m < nodes past + nodes_of ev → ((n : ℕ) → n < nodes past → is_leaf past n ≡ true → IsAmong n (leaves past))
    → ((n : ℕ) → claimed past w ≡ Some n → n < nodes past) → IsAmong m (leaves_by ev (nodes past) (leaves past))
found_new s past w (Split node lines put_off) m p high there each within =
    let a = each node (within node p.asked.holds.claims) p.asked.holds.leaf in
    let both = enters node (nodes past) (leaves past) a.0 a.1 in
    elim (cases_lt m (nodes past + 1)) [
      | inl low ↦ let q : m ≡ nodes past = omega arith in let f = both.first in (f.0, f.1 ∙ ap Some (sym q))
      | inr more ↦ let q : m ≡ nodes past + 1 = omega arith in let f = both.second in (f.0, f.1 ∙ ap Some (sym q))
    ]
found_new s past w _ m p high there each within = absurd (omega arith)

pub leaf_found : (s : Setting) (past : List Entry) → IsLegalJournal s past → ((w n : ℕ) → (p : List Entry) → IsLegalJournal s p → claimed p w ≡ Some n → n < nodes p) → (m : ℕ) → m < nodes past → is_leaf past m ≡ true → IsAmong m (leaves past)
leaf_found s [] legal within m there leaf = let z : 0 ≡ m = omega arith in (0, ap Some z)
leaf_found s (e ∷ past) legal within m there leaf =
    let parts = and_parts (not (splits_node e.event m)) (is_leaf past m) leaf in
    elim (cases_lt m (nodes past)) [
      | inl low ↦ found_old e.event (nodes past) m (leaves past) parts.0 (leaf_found s past legal.1 within m low parts.1)
      | inr high ↦ found_new s past e.by e.event m legal.0.asked high there (λ n low l. leaf_found s past legal.1 within n low l) (λ n h. within e.by n past legal.1 h)
    ]

-- ---- workers

claims_none : (ev : Event) (by workers w : ℕ) (o : Option ℕ) (n : ℕ) → by ≤ workers → 1 ≤ by → (o ≡ Some n → (1 ≤ w) × (w ≤ workers)) → cond (eqb by w) (claimed_by ev o) o ≡ Some n → (1 ≤ w) × (w ≤ workers)
claims_none ev by workers w o n fits some old h =
    elim (cases_Bool (eqb by w)) [
      | inl same ↦ let q = eqb-true by w same in (omega arith, omega arith)
      | inr other ↦ old (sym (cond-false (eqb by w) (claimed_by ev o) o other) ∙ h)
    ]

-- who has claimed is a worker
pub claimer_within : (s : Setting) (past : List Entry) → IsLegalJournal s past → (w n : ℕ) → claimed past w ≡ Some n → (1 ≤ w) × (w ≤ s.workers)
claimer_within s [] legal w n h = cc
claimer_within s (e ∷ past) legal w n h = claims_none e.event e.by s.workers w (claimed past w) n legal.0.worker legal.0.some (λ o. claimer_within s past legal.1 w n o) h
