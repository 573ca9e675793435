-- The past of a journal, and the room that it takes.
use Rattle.std.specs.Prelude.{◌==◌, if◌then◌else◌}
use Rattle.std.proofs.lemmas.Bool.{ne_eqb, cases_lt}
use Rattle.std.proofs.Common.{eq-eqb, sym, inl, inr, Bool, true, false, not, ◌&&◌, ◌||◌, ◌≡◌, ℕ, zero, suc, ◌+◌, ◌-◌, ◌*◌, ◌<◌, ◌≤◌, List, [], ◌∷◌, ◌++◌, length, reverse, replicate, Option, Some, None, refl, ◌∙◌, ap, arith, length-append}
use Rattle.std.proofs.lemmas.List.{reverse-append, reverse-reverse, length-reverse, length-replicate}
use Rattle.case_journal.specs.declared.event.Entry.{Entry}
use Rattle.case_journal.specs.declared.event.Event.{Event}
use Rattle.case_journal.specs.declared.event.Event.TheVariants.{Publish, Split}
use Rattle.case_journal.specs.Journal.{Setting, lines_of, nodes_of, nodes, steps, ledger}
use Rattle.case_journal.specs.Facts.{has_stopped, is_stop, waiting, cost_of}
use Rattle.case_journal.specs.Legal.{IsLegalJournal}
use Rattle.split_tree.specs.Caches.{past_of, branches, branches_by, homes, homes_by, AddsLines, spots, spots_upto, states, states_by, seats, seat_by}
use Rattle.proof_steps.specs.Spots.{changed_at}
use Rattle.case_journal.specs.PlaceLaws.{steps_more}
use Rattle.split_tree.proofs.Places.{AddsLines-legal}

pub past_of-push : (xs : List Entry) (e : Entry) → past_of (xs ++ e ∷ []) ≡ e ∷ past_of xs
unfolding past_of
past_of-push xs e = reverse-append xs (e ∷ [])

pub length-past_of : (xs : List Entry) → length (past_of xs) ≡ length xs
unfolding past_of
length-past_of xs = length-reverse xs

pub reverse-past_of : (xs : List Entry) → reverse (past_of xs) ≡ xs
unfolding past_of
reverse-past_of xs = reverse-reverse xs

pub past_of-nil : past_of [] ≡ []
unfolding past_of
past_of-nil = refl

-- ---- one more entry

pub branches-push : (e : Entry) (past : List Entry) → branches (e ∷ past) ≡ branches past ++ branches_by e.event
unfolding branches
branches-push e past = refl

pub homes-push : (s : Setting) (e : Entry) (past : List Entry) → homes s (e ∷ past) ≡ homes s past ++ homes_by e.event (nodes past)
unfolding homes
homes-push s e past = refl

pub spots-push : (e : Entry) (past : List Entry) → spots (e ∷ past) ≡ spots past ++ spots_upto (length past) (length (lines_of e.event))
unfolding spots
spots-push e past = refl

pub states-push : (e : Entry) (past : List Entry) → states (e ∷ past) ≡ states_by e.event (states past)
unfolding states
states-push e past = refl

pub seats-push : (workers : ℕ) (e : Entry) (past : List Entry) → seats workers (e ∷ past) ≡ changed_at (e.by - 1) (seat_by e.event) (seats workers past)
unfolding seats
seats-push workers e past = refl

-- ---- lengths

pub length-branches_by : (ev : Event) → length (branches_by ev) ≡ nodes_of ev
length-branches_by (Split node lines put_off) = refl
length-branches_by _ = refl

pub length-branches : (past : List Entry) → length (branches past) ≡ nodes past
unfolding branches
length-branches [] = refl
length-branches (e ∷ past) = omega (arith, length-append (branches past) (branches_by e.event), length-branches past, length-branches_by e.event)

pub length-homes_by : (ev : Event) (count : ℕ) → AddsLines ev → length (homes_by ev count) ≡ length (lines_of ev)
length-homes_by (Publish node chain put_off) count h = omega (arith, length-append (replicate (length chain - 1) None) (Some node ∷ []), length-replicate (length chain - 1) (let n : Option ℕ = None in n))
length-homes_by (Split node lines put_off) count h = omega (arith, length-replicate (length lines - 1) (Some (count + 1)))
length-homes_by _ count h = refl

pub length-homes : (s : Setting) (past : List Entry) → IsLegalJournal s past → length s.input ≡ length (ledger s []) → length (homes s past) ≡ steps s past
unfolding homes
length-homes s [] legal long = length-replicate (length s.input) (Some 0) ∙ long
length-homes s (e ∷ past) legal long = omega (arith, length-append (homes s past) (homes_by e.event (nodes past)), length-homes s past legal.1 long, length-homes_by e.event (nodes past) (AddsLines-legal s past e.by e.event legal.0.asked), steps_more s past e)

pub nodes_cost : (past : List Entry) (w : ℕ) (ev : Event) → nodes_of ev ≤ 2 * cost_of past w ev
nodes_cost past w (Split node lines put_off) = omega arith
nodes_cost past w _ = omega arith

-- ---- the workers that have not stopped

bit_few : (b : Bool) → (if b then 0 else 1) ≤ 1
bit_few true = omega arith
bit_few false = omega arith

bit_whole : (b : Bool) → (if b then 0 else 1) + (if b then 1 else 0) ≡ 1
bit_whole true = refl
bit_whole false = refl

bits : (x y z : Bool) → (if (x && y) || z then 0 else 1) + (if x && (y && not z) then 1 else 0) ≡ (if z then 0 else 1)
bits true true true = refl
bits true true false = refl
bits true false true = refl
bits true false false = refl
bits false y true = refl
bits false y false = refl

waiting_bit : (past : List Entry) (e : Entry) (w : ℕ) → (if has_stopped (e ∷ past) w then 0 else 1) + (if (e.by == w) && (is_stop e.event && not (has_stopped past w)) then 1 else 0) ≡ (if has_stopped past w then 0 else 1)
waiting_bit past e w = bits (e.by == w) (is_stop e.event) (has_stopped past w)

waiting_below : (past : List Entry) (e : Entry) (w : ℕ) → w < e.by → waiting w (e ∷ past) ≡ waiting w past
waiting_below past e zero h = refl
waiting_below past e (suc w) h = omega (arith, waiting_below past e w (omega arith), waiting_bit past e (suc w), ap {B = ℕ} (λ b. if b && (is_stop e.event && not (has_stopped past (suc w))) then 1 else 0) (ne_eqb e.by (suc w) (λ q. omega arith)))

-- an event that takes no spare room takes that of a worker who has not stopped
pub waiting_more : (past : List Entry) (e : Entry) (w : ℕ) → 1 ≤ e.by → e.by ≤ w → waiting w (e ∷ past) + 1 ≡ waiting w past + cost_of past e.by e.event
waiting_more past e zero some fits = absurd (omega arith)
waiting_more past e (suc w) some fits =
    elim (cases_lt e.by (suc w)) [
      | inl low ↦ omega (arith, waiting_more past e w some (omega arith), waiting_bit past e (suc w), ap {B = ℕ} (λ b. if b && (is_stop e.event && not (has_stopped past (suc w))) then 1 else 0) (ne_eqb e.by (suc w) (λ q. omega arith)))
      | inr high ↦
          let same : suc w ≡ e.by = omega arith in
          let b = is_stop e.event && not (has_stopped past (suc w)) in
          omega (arith, waiting_below past e w (omega arith), waiting_bit past e (suc w), ap {B = ℕ} (λ x. if x && b then 1 else 0) (eq-eqb e.by (suc w) (sym same)), bit_whole b, ap {B = ℕ} (λ n. if is_stop e.event && not (has_stopped past n) then 0 else 1) same)
    ]

pub waiting_start : (w : ℕ) → waiting w [] ≡ w
waiting_start zero = refl
waiting_start (suc w) = omega (arith, waiting_start w)

pub waiting_few : (w : ℕ) (past : List Entry) → waiting w past ≤ w
waiting_few zero past = omega arith
waiting_few (suc w) past = omega (arith, waiting_few w past, bit_few (has_stopped past (suc w)))
