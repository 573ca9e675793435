-- Where clauses are listed and steps stand is what the journal says.
use Rattle.std.proofs.Common.{◌≡◌, ℕ, zero, suc, ◌+◌, ◌-◌, ◌<◌, ◌≤◌, inl, inr, Bool, false, ◌&&◌, ◌||◌, eqb, ltb, leb, List, [], ◌∷◌, ◌++◌, length, reverse, replicate, Option, Some, None, refl, sym, ◌∙◌, ap, arith, length-append}
use Rattle.std.proofs.lemmas.Bool.{cases_lt, false_from_ne_true}
use Rattle.std.proofs.lemmas.Bool.Decides.{nat_tests}
use Rattle.std.proofs.lemmas.List.{length-replicate, reverse-append, length-reverse}
use Rattle.std.proofs.lemmas.Option.{slice_get_within}
use Rattle.std.specs.List.{slice_get}
use Rattle.proof_steps.specs.declared.step.Line.{Line}
use Rattle.case_journal.specs.declared.event.Entry.{Entry}
use Rattle.case_journal.specs.declared.event.Event.{Event}
use Rattle.case_journal.specs.declared.event.Event.TheVariants.{Publish, Split}
use Rattle.case_journal.specs.ListedLaws.{listed_within}
use Rattle.split_tree.specs.declared.caches.Spot.{Spot}
use Rattle.case_journal.specs.Journal.{Setting, input_lines, lines_of, nodes_of, nodes, ledger, steps}
use Rattle.case_journal.specs.Paths.{stem, on_path}
use Rattle.case_journal.specs.Facts.{lists, listed}
use Rattle.case_journal.specs.Legal.{IsAsked, IsLegalJournal}
use Rattle.split_tree.specs.Caches.{homes, homes_by, at_home, IsHome, spots, spots_upto}
use Rattle.case_journal.specs.ListLaws.{get_more, get_left, get_right, length-input_lines}
use Rattle.split_tree.proofs.Lists.{length-spots_upto, get_copies}
use Rattle.case_journal.specs.PlaceLaws.{steps_more, lists_new, stem_there, publish_there, one_line}
use Rattle.case_journal.specs.PathLaws.{or_absorb, on_path_within, on_path_grow, or_no}
use Rattle.split_tree.proofs.Past.{length-homes}

-- ---- homes

at_home_grow : (past : List Entry) (e : Entry) (m : ℕ) (o : Option ℕ) → IsHome (nodes past) o → at_home (on_path past (stem e.event (nodes past) m)) o ≡ at_home (on_path (e ∷ past) m) o
at_home_grow past e m None h = refl
at_home_grow past e m (Some node) h = sym (on_path_grow past e m node h)

IsHome_more : (a b : ℕ) (o : Option ℕ) → a ≤ b → IsHome a o → IsHome b o
IsHome_more a b None le h = tt
IsHome_more a b (Some node) le h = omega arith

first_homes : (m i n : ℕ) → m < 1 → 1 ≤ i → i - 1 < n → (eqb m 0 && (leb 1 i && leb i n)) ≡ eqb 0 m
first_homes m i n a b c = grind (arith, nat_tests)

not_last : (on : Bool) (i size n k : ℕ) → i ≡ size + k + 1 → k < n - 1 → (on && (ltb size i && eqb i (size + n))) ≡ false
not_last on i size n k e h = grind (arith, nat_tests)

is_last : (on : Bool) (i size n k : ℕ) → i ≡ size + k + 1 → k + 1 ≡ n → (on && (ltb size i && eqb i (size + n))) ≡ on
is_last on i size n k e h = grind (arith, nat_tests)

left_new : (m count i size n : ℕ) → i ≡ size + 1 → ((eqb m count && eqb i (size + 1)) || (eqb m (count + 1) && (leb (size + 2) i && leb i (size + n)))) ≡ (eqb count m || false)
left_new m count i size n e = grind (arith, nat_tests)

right_new : (m count i size n k : ℕ) → i ≡ size + k + 2 → k + 2 ≤ n → ((eqb m count && eqb i (size + 1)) || (eqb m (count + 1) && (leb (size + 2) i && leb i (size + n)))) ≡ (eqb (count + 1) m || false)
right_new m count i size n k e h = grind (arith, nat_tests)

-- what the event lists, by the homes that it adds
pub new_housed : (s : Setting) (past : List Entry) (w : ℕ) (ev : Event) (m i k : ℕ) → IsLegalJournal s past → IsAsked s past w ev → m < nodes past + nodes_of ev
    → i ≡ steps s past + k + 1 → (o : Option ℕ) → slice_get (homes_by ev (nodes past)) k ≡ Some o
    → (lists ev (nodes past) (steps s past) (on_path past m) m i ≡ at_home (on_path (record { by = w; event = ev } ∷ past) m) o) × IsHome (nodes past + nodes_of ev) o
new_housed s past w (Publish node chain put_off) m i k legal now there is o h =
    let none : List (Option ℕ) = replicate (length chain - 1) None in
    let long : length none ≡ length chain - 1 = length-replicate (length chain - 1) None in
    let one = one_line s past w node chain put_off now.asked in
    let low = publish_there s past legal w node chain put_off now.asked in
    elim (cases_lt k (length chain - 1)) [
      | inl early ↦
          let e : Some None ≡ Some o = sym (get_left none (Some node ∷ []) k (omega arith) ∙ get_copies (length chain - 1) k None early) ∙ h in
          let q : None ≡ o = cc in
          rw (← q) (not_last (on_path past m node) i (steps s past) (length chain) k is early, tt)
      | inr late ↦
          let within = slice_get_within (none ++ Some node ∷ []) k o h in
          let at : k ≡ length none + 0 = omega (arith, length-append none (Some node ∷ [])) in
          let e : Some (Some node) ≡ Some o = sym (ap (slice_get (none ++ Some node ∷ [])) at ∙ get_right none (Some node ∷ []) 0) ∙ h in
          let q : Some node ≡ o = cc in
          rw (← q) (is_last (on_path past m node) i (steps s past) (length chain) k is (omega arith) ∙ sym (on_path_grow past (record { by = w; event = Publish node chain put_off }) m node low), omega arith)
    ]
new_housed s past w (Split node lines put_off) m i zero legal now there is o h =
    let q : Some (nodes past) ≡ o = cc in
    let u = stem (Split node lines put_off) (nodes past) m in
    let off : on_path past u (nodes past) ≡ false = false_from_ne_true (on_path past u (nodes past)) (λ t. let b = on_path_within s past legal u (nodes past) (stem_there s past legal w (Split node lines put_off) m now there) t in omega arith) in
    rw (← q) (left_new m (nodes past) i (steps s past) (length lines) (omega arith) ∙ ap (λ x. eqb (nodes past) m || x) (sym off), omega arith)
new_housed s past w (Split node lines put_off) m i (suc k) legal now there is o h =
    let within = slice_get_within (replicate (length lines - 1) (Some (nodes past + 1))) k o h in
    let low : k < length lines - 1 = omega (arith, length-replicate (length lines - 1) (Some (nodes past + 1))) in
    let e : Some (Some (nodes past + 1)) ≡ Some o = sym (get_copies (length lines - 1) k (Some (nodes past + 1)) low) ∙ h in
    let q : Some (nodes past + 1) ≡ o = cc in
    let u = stem (Split node lines put_off) (nodes past) m in
    let off : on_path past u (nodes past + 1) ≡ false = false_from_ne_true (on_path past u (nodes past + 1)) (λ t. let b = on_path_within s past legal u (nodes past + 1) (stem_there s past legal w (Split node lines put_off) m now there) t in omega arith) in
    rw (← q) (right_new m (nodes past) i (steps s past) (length lines) k (omega arith) (omega arith) ∙ ap (λ x. eqb (nodes past + 1) m || x) (sym off), omega arith)
new_housed s past w _ m i k legal now there is o h = cc

-- a clause is listed where its home is on the path
pub housed : (s : Setting) (past : List Entry) → IsLegalJournal s past → (m i : ℕ) → m < nodes past → 1 ≤ i → (o : Option ℕ) → slice_get (homes s past) (i - 1) ≡ Some o
    → (listed s past m i ≡ at_home (on_path past m) o) × IsHome (nodes past) o
unfolding homes
housed s [] legal m i there low o h =
    let within : i - 1 < length s.input = (let b = slice_get_within (replicate (length s.input) (Some 0)) (i - 1) o h in omega (arith, length-replicate {A = Option ℕ} (length s.input) (Some 0))) in
    let e : Some (Some 0) ≡ Some o = sym (get_copies (length s.input) (i - 1) (Some 0) within) ∙ h in
    let q : Some 0 ≡ o = cc in
    rw (← q) (first_homes m i (length s.input) there low within, omega arith)
housed s (e ∷ past) legal m i there low o h =
    let u = stem e.event (nodes past) m in
    let on = on_path past m in
    let long = length-homes s past legal.1 (sym (length-input_lines 1 s.input)) in
    let add = homes_by e.event (nodes past) in
    let u_there = stem_there s past legal.1 e.by e.event m legal.0.asked there in
    elim (cases_lt (i - 1) (steps s past)) [
      | inl old ↦
          let before = housed s past legal.1 u i u_there low o (sym (get_left (homes s past) add (i - 1) (omega arith)) ∙ h) in
          let none = or_absorb (lists e.event (nodes past) (steps s past) on m i) (listed s past u i) (λ t. let b = lists_new s past e.by e.event (nodes past) on m i legal.0.asked t in absurd (omega arith)) in
          (none ∙ (before.0 ∙ at_home_grow past e m o before.1), IsHome_more (nodes past) (nodes past + nodes_of e.event) o (omega arith) before.1)
      | inr new ↦
          let k = i - 1 - steps s past in
          let at : i - 1 ≡ length (homes s past) + k = omega arith in
          let there_now = new_housed s past e.by e.event m i k legal.1 legal.0.asked there (omega arith) o (sym (ap (slice_get (homes s past ++ add)) at ∙ get_right (homes s past) add k) ∙ h) in
          let off : listed s past u i ≡ false = false_from_ne_true (listed s past u i) (λ t. let b = listed_within s past legal.1 u i t in omega arith) in
          (ap (λ x. lists e.event (nodes past) (steps s past) on m i || x) off ∙ (or_no (lists e.event (nodes past) (steps s past) on m i) ∙ there_now.0), there_now.1)
    ]

-- ---- spots

-- the step at place k behind those of the input stands at the spot
pub record Spotted (s : Setting) (past : List Entry) (k : ℕ) (p : Spot) : Type 0 where
  pub entry : Entry
  pub is : slice_get (reverse past) p.event ≡ Some entry
  pub within : p.place < length (lines_of entry.event)
  pub line : slice_get (ledger s past) (length s.input + k) ≡ slice_get (lines_of entry.event) p.place

get_spot : (event n k : ℕ) (p : Spot) → slice_get (spots_upto event n) k ≡ Some p → (k < n) × (p.event ≡ event) × (p.place ≡ k)
get_spot event zero k p h = absurd (let b = slice_get_within [] k p h in omega arith)
get_spot event (suc n) k p h =
    let long = length-spots_upto event n in
    let last : List Spot = record { event = event; place = n } ∷ [] in
    elim (cases_lt k n) [
      | inl low ↦ let r = get_spot event n k p (sym (get_left (spots_upto event n) last k (omega arith)) ∙ h) in (omega arith, r.1, r.2)
      | inr high ↦
          let within = slice_get_within (spots_upto event n ++ last) k p h in
          let at : k ≡ length (spots_upto event n) + 0 = omega (arith, length-append (spots_upto event n) last) in
          let e : Some (record { event = event; place = n }) ≡ Some p = sym (ap (slice_get (spots_upto event n ++ last)) at ∙ get_right (spots_upto event n) last 0) ∙ h in
          let q : record { event = event; place = n } ≡ p = cc in
          (omega arith, ap (λ x. x.event) (sym q), ap (λ x. x.place) (sym q) ∙ omega arith)
    ]

pub length-spots : (s : Setting) (past : List Entry) → length s.input + length (spots past) ≡ steps s past
unfolding spots
length-spots s [] = omega (arith, length-input_lines 1 s.input)
length-spots s (e ∷ past) = omega (arith, length-spots s past, length-append (spots past) (spots_upto (length past) (length (lines_of e.event))), length-spots_upto (length past) (length (lines_of e.event)), steps_more s past e)

pub spotted : (s : Setting) (past : List Entry) (k : ℕ) (p : Spot) → slice_get (spots past) k ≡ Some p → Spotted s past k p
unfolding spots
spotted s [] k p h = absurd (let b = slice_get_within [] k p h in omega arith)
spotted s (e ∷ past) k p h =
    let add = spots_upto (length past) (length (lines_of e.event)) in
    let more : List Line = lines_of e.event in
    let turned : reverse (e ∷ past) ≡ reverse past ++ e ∷ [] = reverse-append (e ∷ []) past in
    let long = length-spots s past in
    elim (cases_lt k (length (spots past))) [
      | inl old ↦
          let r = spotted s past k p (sym (get_left (spots past) add k old) ∙ h) in
          record {
            entry = r.entry;
            is = rw turned (get_more (reverse past) (e ∷ []) p.event r.entry r.is);
            within = r.within;
            line = get_left (ledger s past) more (length s.input + k) (omega arith) ∙ r.line;
          }
      | inr new ↦
          let j = k - length (spots past) in
          let at : k ≡ length (spots past) + j = omega arith in
          let r = get_spot (length past) (length (lines_of e.event)) j p (sym (ap (slice_get (spots past ++ add)) at ∙ get_right (spots past) add j) ∙ h) in
          let at_event : p.event ≡ length (reverse past) + 0 = omega (arith, r.1, length-reverse past) in
          let at_line : length s.input + k ≡ length (ledger s past) + j = omega arith in
          record {
            entry = e;
            is = rw turned (ap (slice_get (reverse past ++ e ∷ [])) at_event ∙ get_right (reverse past) (e ∷ []) 0);
            within = omega (arith, r.0, r.2);
            line = ap (slice_get (ledger s past ++ more)) at_line ∙ (get_right (ledger s past) more j ∙ ap (slice_get (lines_of e.event)) (sym r.2));
          }
    ]

-- the first lines are those of the input
pub opening_at : (s : Setting) (past : List Entry) (k : ℕ) (l : Line) → slice_get (input_lines 1 s.input) k ≡ Some l → slice_get (ledger s past) k ≡ Some l
opening_at s [] k l h = h
opening_at s (e ∷ past) k l h = get_more (ledger s past) (lines_of e.event) k l (opening_at s past k l h)
