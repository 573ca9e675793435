-- What is listed and worked off at a node is a function of its path and of the events on it.
use Rattle.std.proofs.Common.{◌≡◌, ℕ, ◌+◌, ◌<◌, ◌≤◌, inl, inr, Bool, true, false, ◌&&◌, ◌||◌, eqb, ltb, leb, List, [], ◌∷◌, length, Option, Some, None, refl, sym, ◌∙◌, ap, arith}
use Rattle.std.proofs.lemmas.Bool.{ne_eqb, cases_lt, cases_Bool, false_from_ne_true, cond-true, cond-false, and_left, or_from, both_ways, false≢true}
use Rattle.std.proofs.lemmas.Bool.Decides.{nat_tests}
use Rattle.spl_terms.specs.declared.clause.Clause.{Clause}
use Rattle.case_journal.specs.declared.event.Entry.{Entry}
use Rattle.case_journal.specs.declared.event.Event.{Event}
use Rattle.case_journal.specs.declared.event.Event.TheVariants.{Choose, Publish, Split, Activate}
use Rattle.case_journal.specs.Journal.{Setting, nodes, nodes_of, steps}
use Rattle.case_journal.specs.Paths.{stem, on_path}
use Rattle.case_journal.specs.Facts.{lists, listed, worked, activates, chosen, chosen_by, is_number}
use Rattle.case_journal.specs.Legal.{IsAsked, IsLegalJournal}
use Rattle.case_journal.specs.PlaceLaws.{claimed_within, split_there, stem_there, publish_there}
use Rattle.case_journal.specs.PathLaws.{on_path-self, on_path_within, on_path_grow, stem_high}
use Rattle.journal_laws.specs.PathEvents.{Stamped, is_at, events_on, SamePath}

-- what a stamped event lists on the path
abbrev pub lists_on : Event → ℕ → ℕ → (ℕ → Bool) → ℕ → Bool
lists_on (Publish node chain put_off) count size on i = on node && (ltb size i && eqb i (size + length chain))
lists_on (Split node lines put_off) count size on i = (on count && eqb i (size + 1)) || (on (count + 1) && (leb (size + 2) i && leb i (size + length lines)))
lists_on _ count size on i = false

abbrev pub listed_on : List Clause → (ℕ → Bool) → List Stamped → ℕ → Bool
listed_on input on [] i = on 0 && (leb 1 i && leb i (length input))
listed_on input on (t ∷ ts) i = lists_on t.event t.count t.size on i || listed_on input on ts i

abbrev pub chosen_on : List Stamped → ℕ → Option ℕ
chosen_on [] n = None
chosen_on (t ∷ ts) n = chosen_by t.event n (chosen_on ts n)

abbrev pub worked_on : (ℕ → Bool) → List Stamped → ℕ → Bool
worked_on on [] i = false
worked_on on (t ∷ ts) i = activates t.event (chosen_on ts) on i || worked_on on ts i

-- `on` says what is on the path of m
abbrev Agrees : (ℕ → Bool) → List Entry → ℕ → Type 0
Agrees on past m = (n : ℕ) → n < nodes past → on n ≡ on_path past m n

Agrees_before : (on : ℕ → Bool) (past : List Entry) (e : Entry) (m : ℕ) → Agrees on (e ∷ past) m → Agrees on past (stem e.event (nodes past) m)
Agrees_before on past e m h n low = h n (omega arith) ∙ on_path_grow past e m n low

new_nodes : (m count i size n : ℕ) → ((eqb m count && eqb i (size + 1)) || (eqb m (count + 1) && (leb (size + 2) i && leb i (size + n))))
    ≡ (((eqb count m || false) && eqb i (size + 1)) || ((eqb (count + 1) m || false) && (leb (size + 2) i && leb i (size + n))))
new_nodes m count i size n = grind (arith, nat_tests)

module _ (s : Setting) (past : List Entry) (w : ℕ) (on : ℕ → Bool) (m i : ℕ) (legal : IsLegalJournal s past) where
  -- the event lists on the path what it lists at m
  lists_same : (ev : Event) → IsAsked s past w ev → m < nodes past + nodes_of ev → Agrees on (record { by = w; event = ev } ∷ past) m
      → lists ev (nodes past) (steps s past) (on_path past m) m i ≡ lists_on ev (nodes past) (steps s past) on i
  lists_same (Publish node chain put_off) now there h =
      let low = publish_there s past legal w node chain put_off now.asked in
      ap (λ x. x && (ltb (steps s past) i && eqb i (steps s past + length chain)))
      (sym (h node (omega (arith, low)) ∙ on_path_grow past (record { by = w; event = Publish node chain put_off }) m node low))
  lists_same (Split node lines put_off) now there h =
      let u = stem (Split node lines put_off) (nodes past) m in
      let u_there = stem_there s past legal w (Split node lines put_off) m now there in
      let off = λ (n : ℕ) (high : nodes past ≤ n). (let q : on_path past u n ≡ false = false_from_ne_true (on_path past u n) (λ t. let b = on_path_within s past legal u n u_there t in omega arith) in q) in
      let left : (eqb (nodes past) m || false) ≡ on (nodes past) = ap (λ x. eqb (nodes past) m || x) (sym (off (nodes past) (omega arith))) ∙ sym (h (nodes past) (omega arith)) in
      let right : (eqb (nodes past + 1) m || false) ≡ on (nodes past + 1) = ap (λ x. eqb (nodes past + 1) m || x) (sym (off (nodes past + 1) (omega arith))) ∙ sym (h (nodes past + 1) (omega arith)) in
      new_nodes m (nodes past) i (steps s past) (length lines)
      ∙ (ap (λ x. (x && eqb i (steps s past + 1)) || ((eqb (nodes past + 1) m || false) && (leb (steps s past + 2) i && leb i (steps s past + length lines)))) left
      ∙ ap (λ x. (on (nodes past) && eqb i (steps s past + 1)) || (x && (leb (steps s past + 2) i && leb i (steps s past + length lines)))) right)
  lists_same _ now there h = refl

  -- an event off the path lists nothing on it
  lists_off : (ev : Event) → IsAsked s past w ev → m < nodes past + nodes_of ev → Agrees on (record { by = w; event = ev } ∷ past) m → is_at ev on ≡ false → lists_on ev (nodes past) (steps s past) on i ≡ false
  lists_off (Publish node chain put_off) now there h off = and_left (on node) (ltb (steps s past) i && eqb i (steps s past + length chain)) off
  lists_off (Split node lines put_off) now there h off =
      let e : Entry = record { by = w; event = Split node lines put_off } in
      let low_node : node < nodes past = split_there s past legal w node lines put_off now in
      elim (cases_lt m (nodes past)) [
        | inl low ↦
            let u = stem (Split node lines put_off) (nodes past) m in
            let u_there = stem_there s past legal w (Split node lines put_off) m now there in
            let none = λ (n : ℕ) (high : nodes past ≤ n) (fits : n < nodes past + 2). (let q : on n ≡ false = h n fits ∙ or_from (eqb n m) (on_path past u n) (ne_eqb n m (λ q. absurd (omega arith))) (false_from_ne_true (on_path past u n) (λ t. let b = on_path_within s past legal u n u_there t in omega arith)) in q) in
            or_from (on (nodes past) && eqb i (steps s past + 1)) (on (nodes past + 1) && (leb (steps s past + 2) i && leb i (steps s past + length lines)))
            (and_left (on (nodes past)) (eqb i (steps s past + 1)) (none (nodes past) (omega arith) (omega arith)))
            (and_left (on (nodes past + 1)) (leb (steps s past + 2) i && leb i (steps s past + length lines)) (none (nodes past + 1) (omega arith) (omega arith)))
        | inr high ↦
            absurd (both_ways (on node) off (h node (omega (arith, low_node)) ∙ (on_path_grow past e m node low_node ∙ (ap (λ x. on_path past x node) (stem_high node (nodes past) m high) ∙ on_path-self past node))))
      ]
  lists_off _ now there h off = refl

  activates_same : (ev : Event) (at : ℕ → Option ℕ) → IsAsked s past w ev → Agrees on (record { by = w; event = ev } ∷ past) m → ((n : ℕ) → on n ≡ true → chosen past n ≡ at n) → activates ev (chosen past) (on_path past (stem ev (nodes past) m)) i ≡ activates ev at on i
  activates_same (Activate node) at now h same =
      let low : node < nodes past = claimed_within s past legal w node now.holds.claims in
      let is = h node (omega (arith, low)) ∙ on_path_grow past (record { by = w; event = Activate node }) m node low in
      elim (cases_Bool (on node)) [
        | inl yes' ↦ ap (λ x. x && is_number (chosen past node) i) (sym is) ∙ ap (λ o. on node && is_number o i) (same node yes')
        | inr no' ↦ and_left (on_path past m node) (is_number (chosen past node) i) (sym is ∙ no') ∙ sym (and_left (on node) (is_number (at node) i) no')
      ]
  activates_same _ at now h same = refl

activates_off : (ev : Event) (at : ℕ → Option ℕ) (on : ℕ → Bool) (i : ℕ) → is_at ev on ≡ false → activates ev at on i ≡ false
activates_off (Activate node) at on i off = and_left (on node) (is_number (at node) i) off
activates_off _ at on i off = refl

apart : (on : ℕ → Bool) (node n : ℕ) → on node ≡ false → on n ≡ true → eqb node n ≡ false
apart on node n off at = ne_eqb node n (λ q. false≢true (sym off ∙ (ap on q ∙ at)))

chosen_off : (ev : Event) (on : ℕ → Bool) (n : ℕ) (o : Option ℕ) → is_at ev on ≡ false → on n ≡ true → chosen_by ev n o ≡ o
chosen_off (Choose node clause selected) on n o off at = cond-false (eqb node n) (Some clause) o (apart on node n off at)
chosen_off (Activate node) on n o off at = cond-false (eqb node n) None o (apart on node n off at)
chosen_off _ on n o off at = refl

chosen_same : (s : Setting) (on : ℕ → Bool) (past : List Entry) (n : ℕ) → on n ≡ true → chosen past n ≡ chosen_on (events_on on s past) n
chosen_same s on [] n at = refl
chosen_same s on (e ∷ past) n at =
    let rest = events_on on s past in
    let t : Stamped = record { count = nodes past; size = steps s past; event = e.event } in
    let more = ap (chosen_by e.event n) (chosen_same s on past n at) in
    elim (cases_Bool (is_at e.event on)) [
      | inl here ↦ more ∙ sym (ap (λ ts. chosen_on ts n) (cond-true (is_at e.event on) (t ∷ rest) rest here))
      | inr off ↦ more ∙ (chosen_off e.event on n (chosen_on rest n) off at ∙ sym (ap (λ ts. chosen_on ts n) (cond-false (is_at e.event on) (t ∷ rest) rest off)))
    ]

first : (m : ℕ) → m < 1 → eqb m 0 ≡ eqb 0 m
first m h = grind (arith, nat_tests)

pub listed_same : (s : Setting) (on : ℕ → Bool) (past : List Entry) → IsLegalJournal s past → (m i : ℕ) → m < nodes past → Agrees on past m → listed s past m i ≡ listed_on s.input on (events_on on s past) i
listed_same s on [] legal m i there h =
    let zero_on : eqb m 0 ≡ on 0 = first m there ∙ sym (h 0 (omega arith)) in
    ap (λ x. x && (leb 1 i && leb i (length s.input))) zero_on
listed_same s on (e ∷ past) legal m i there h =
    let u = stem e.event (nodes past) m in
    let rest = events_on on s past in
    let t : Stamped = record { count = nodes past; size = steps s past; event = e.event } in
    let more = listed_same s on past legal.1 u i (stem_there s past legal.1 e.by e.event m legal.0.asked there) (Agrees_before on past e m h) in
    let now = lists_same s past e.by on m i legal.1 e.event legal.0.asked there h in
    elim (cases_Bool (is_at e.event on)) [
      | inl at ↦
          ap (λ x. x || listed s past u i) now ∙ (ap (λ x. lists_on e.event (nodes past) (steps s past) on i || x) more
          ∙ sym (ap (λ ts. listed_on s.input on ts i) (cond-true (is_at e.event on) (t ∷ rest) rest at)))
      | inr off ↦
          ap (λ x. x || listed s past u i) (now ∙ lists_off s past e.by on m i legal.1 e.event legal.0.asked there h off) ∙ (more
          ∙ sym (ap (λ ts. listed_on s.input on ts i) (cond-false (is_at e.event on) (t ∷ rest) rest off)))
    ]

pub worked_same : (s : Setting) (on : ℕ → Bool) (past : List Entry) → IsLegalJournal s past → (m i : ℕ) → m < nodes past → Agrees on past m → worked past m i ≡ worked_on on (events_on on s past) i
worked_same s on [] legal m i there h = refl
worked_same s on (e ∷ past) legal m i there h =
    let u = stem e.event (nodes past) m in
    let rest = events_on on s past in
    let t : Stamped = record { count = nodes past; size = steps s past; event = e.event } in
    let more = worked_same s on past legal.1 u i (stem_there s past legal.1 e.by e.event m legal.0.asked there) (Agrees_before on past e m h) in
    let now = activates_same s past e.by on m i legal.1 e.event (chosen_on rest) legal.0.asked h (λ n at. chosen_same s on past n at) in
    elim (cases_Bool (is_at e.event on)) [
      | inl at ↦
          ap (λ x. x || worked past u i) now ∙ (ap (λ x. activates e.event (chosen_on rest) on i || x) more
          ∙ sym (ap (λ ts. worked_on on ts i) (cond-true (is_at e.event on) (t ∷ rest) rest at)))
      | inr off ↦
          ap (λ x. x || worked past u i) (now ∙ activates_off e.event (chosen_on rest) on i off) ∙ (more
          ∙ sym (ap (λ ts. worked_on on ts i) (cond-false (is_at e.event on) (t ∷ rest) rest off)))
    ]

-- two legal journals with the same path of m and the same events on it
pub path_alone : (s z : Setting) (past other : List Entry) → IsLegalJournal s past → IsLegalJournal z other → s.input ≡ z.input → (m : ℕ) → m < nodes past → m < nodes other → SamePath past other m → events_on (on_path past m) s past ≡ events_on (on_path past m) z other
    → (i : ℕ) → (listed s past m i ≡ listed z other m i) × (worked past m i ≡ worked other m i)
path_alone s z past other legal legal' input m there there' path events i =
    let on = on_path past m in (
      listed_same s on past legal m i there (λ n low. refl)
          ∙ (ap (λ ts. listed_on s.input on ts i) events ∙ (ap (λ xs. listed_on xs on (events_on on z other) i) input
          ∙ sym (listed_same z on other legal' m i there' (λ n low. path n)))),
      worked_same s on past legal m i there (λ n low. refl)
          ∙ (ap (λ ts. worked_on on ts i) events
          ∙ sym (worked_same z on other legal' m i there' (λ n low. path n))),
    )
