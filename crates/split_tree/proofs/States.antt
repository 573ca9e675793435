-- What is kept of each node and of each worker is what the journal says.
use Rattle.std.proofs.Common.{◌≡◌, ℕ, zero, suc, ◌+◌, ◌-◌, ◌<◌, ◌≤◌, ◌^◌, inl, inr, Bool, true, false, cond, not, ◌&&◌, ◌||◌, eqb, List, [], ◌∷◌, ◌++◌, length, Option, Some, None, refl, sym, ◌∙◌, ap, arith, eq-eqb, length-append}
use Rattle.std.proofs.lemmas.Bool.{eqb-true, cases_Bool, cases_lt, cond-true, cond-false, and_from, false_from_ne_true}
use Rattle.std.proofs.lemmas.List.{length-replicate}
use Rattle.std.proofs.lemmas.Option.{slice_get_within}
use Rattle.std.specs.List.{slice_get}
use Rattle.std.specs.Option.{option_map}
use Rattle.proof_steps.specs.Spots.{changed_at}
use Rattle.case_journal.specs.declared.event.Entry.{Entry}
use Rattle.case_journal.specs.declared.event.Event.{Event}
use Rattle.case_journal.specs.declared.event.Event.TheVariants.{Claim, Choose, Publish, Split, Activate, Saturated, Spent, Big, Full, Stop}
use Rattle.case_journal.specs.FreshLaws.{fresh_chosen, fresh_leaf, fresh_split}
use Rattle.split_tree.specs.declared.caches.NodeState.{NodeState}
use Rattle.split_tree.specs.declared.caches.Seat.{Seat}
use Rattle.case_journal.specs.Journal.{Setting, nodes, nodes_of}
use Rattle.case_journal.specs.Paths.{stem, on_path, is_leaf, splits_node}
use Rattle.case_journal.specs.Facts.{chosen, claimed, claimed_by, has_stopped, is_stop}
use Rattle.case_journal.specs.Picking.{choices}
use Rattle.case_journal.specs.Legal.{IsAsked, IsLegalJournal}
use Rattle.split_tree.specs.Caches.{states, states_by, state_by, new_state, child_of, HasFewChoices, seats, seat_by}
use Rattle.case_journal.specs.ListLaws.{get_left, get_right}
use Rattle.split_tree.proofs.Lists.{length-changed_at, changed_at-here, changed_at-elsewhere, get_copies}
use Rattle.split_tree.proofs.Places.{node_there}
use Rattle.case_journal.specs.PathLaws.{on_path-self, stem_old, leaf_path, stem_high}
use Rattle.case_journal.specs.BoundLaws.{choices_bound, rounds_bound}

-- ---- nodes

pub length-states_by : (ev : Event) (xs : List NodeState) → length (states_by ev xs) ≡ length xs + nodes_of ev
length-states_by (Choose node clause selected) xs = omega (arith, length-changed_at node (state_by (Choose node clause selected)) xs)
length-states_by (Activate node) xs = omega (arith, length-changed_at node (state_by (Activate node)) xs)
length-states_by (Split node lines put_off) xs =
    let f = state_by (Split node lines put_off) in
    let child = child_of (slice_get (changed_at node f xs) node) in
    omega (arith, length-append (changed_at node f xs) (child ∷ child ∷ []), length-changed_at node f xs)
length-states_by _ xs = omega arith

pub length-states : (past : List Entry) → length (states past) ≡ nodes past
unfolding states
length-states [] = refl
length-states (e ∷ past) = omega (arith, length-states_by e.event (states past), length-states past)

-- what the journal says of a node
abbrev pub state_of : List Entry → ℕ → NodeState
state_of past m = record { leaf = is_leaf past m; chosen = chosen past m; choices = choices past m }

same_state : (a b : Bool) (c d : Option ℕ) (e f : ℕ) → a ≡ b → c ≡ d → e ≡ f
    → (let x : NodeState = record { leaf = a; chosen = c; choices = e } in x) ≡ (let y : NodeState = record { leaf = b; chosen = d; choices = f } in y)
same_state a b c d e f p q r = λ i. record { leaf = p i; chosen = q i; choices = r i }

-- a node at which the event has no state to change
changed_none : (xs : List NodeState) (node m : ℕ) (f : NodeState → NodeState) (x : NodeState) → (m ≡ node → ⊥) → slice_get xs m ≡ Some x → slice_get (changed_at node f xs) m ≡ Some x
changed_none xs node m f x other got = changed_at-elsewhere node m f xs other ∙ got

changed_one : (xs : List NodeState) (node m : ℕ) (f : NodeState → NodeState) (x : NodeState) → m ≡ node → slice_get xs m ≡ Some x → slice_get (changed_at node f xs) m ≡ Some (f x)
changed_one xs node m f x same got = ap (slice_get (changed_at node f xs)) same ∙ (changed_at-here node f xs ∙ ap (option_map f) (ap (slice_get xs) (sym same) ∙ got))

-- a node that was there
state_old : (s : Setting) (past : List Entry) → IsLegalJournal s past → (w : ℕ) (ev : Event) (m : ℕ) → IsAsked s past w ev → m < nodes past → slice_get (states past) m ≡ Some (state_of past m)
    → slice_get (states_by ev (states past)) m ≡ Some (state_of (record { by = w; event = ev } ∷ past) m)
state_old s past legal w (Choose node clause selected) m p low got =
    let f = state_by (Choose node clause selected) in
    elim (cases_Bool (eqb node m)) [
      | inl same ↦
          let q = eqb-true node m same in
          changed_one (states past) node m f (state_of past m) (sym q) got
          ∙ ap Some (same_state (is_leaf past m) (is_leaf past m) (Some clause) (cond (eqb node m) (Some clause) (chosen past m)) (choices past m + 1) (cond (on_path past m node) (choices past m + 1) (choices past m)) refl
          (sym (cond-true (eqb node m) (Some clause) (chosen past m) same))
          (sym (cond-true (on_path past m node) (choices past m + 1) (choices past m) (ap (on_path past m) q ∙ on_path-self past m))))
      | inr other ↦
          let off : on_path past m node ≡ false = false_from_ne_true (on_path past m node) (λ t. let q = leaf_path s past legal m node low p.holds.leaf t in let bad = eq-eqb node m q in cc) in
          changed_none (states past) node m f (state_of past m) (λ q. let bad = eq-eqb node m (sym q) in cc) got
          ∙ ap Some (same_state (is_leaf past m) (is_leaf past m) (chosen past m) (cond (eqb node m) (Some clause) (chosen past m)) (choices past m) (cond (on_path past m node) (choices past m + 1) (choices past m)) refl
          (sym (cond-false (eqb node m) (Some clause) (chosen past m) other))
          (sym (cond-false (on_path past m node) (choices past m + 1) (choices past m) off)))
    ]
state_old s past legal w (Activate node) m p low got =
    let f = state_by (Activate node) in
    elim (cases_Bool (eqb node m)) [
      | inl same ↦
          changed_one (states past) node m f (state_of past m) (sym (eqb-true node m same)) got
          ∙ ap Some (same_state (is_leaf past m) (is_leaf past m) None (cond (eqb node m) None (chosen past m)) (choices past m) (choices past m) refl
          (sym (cond-true (eqb node m) None (chosen past m) same)) refl)
      | inr other ↦
          changed_none (states past) node m f (state_of past m) (λ q. let bad = eq-eqb node m (sym q) in cc) got
          ∙ ap Some (same_state (is_leaf past m) (is_leaf past m) (chosen past m) (cond (eqb node m) None (chosen past m)) (choices past m) (choices past m) refl
          (sym (cond-false (eqb node m) None (chosen past m) other)) refl)
    ]
state_old s past legal w (Split node lines put_off) m p low got =
    let f = state_by (Split node lines put_off) in
    let xs = changed_at node f (states past) in
    let child = child_of (slice_get xs node) in
    let at = get_left xs (child ∷ child ∷ []) m (omega (arith, length-changed_at node f (states past), length-states past)) in
    let stays : choices past m ≡ choices past (stem (Split node lines put_off) (nodes past) m) = ap (choices past) (sym (stem_old (Split node lines put_off) (nodes past) m low)) in
    elim (cases_Bool (eqb node m)) [
      | inl same ↦
          at ∙ (changed_one (states past) node m f (state_of past m) (sym (eqb-true node m same)) got
          ∙ ap Some (same_state false (not (eqb node m) && is_leaf past m) (chosen past m) (chosen past m) (choices past m) (choices past (stem (Split node lines put_off) (nodes past) m))
          (sym (ap (λ b. not b && is_leaf past m) same)) refl stays))
      | inr other ↦
          at ∙ (changed_none (states past) node m f (state_of past m) (λ q. let bad = eq-eqb node m (sym q) in cc) got
          ∙ ap Some (same_state (is_leaf past m) (not (eqb node m) && is_leaf past m) (chosen past m) (chosen past m) (choices past m) (choices past (stem (Split node lines put_off) (nodes past) m))
          (sym (ap (λ b. not b && is_leaf past m) other)) refl stays))
    ]
state_old s past legal w (Claim node) m p low got = got
state_old s past legal w (Publish node chain put_off) m p low got = got
state_old s past legal w (Saturated node) m p low got = got
state_old s past legal w (Spent node) m p low got = got
state_old s past legal w (Big node partner symbols) m p low got = got
state_old s past legal w (Full node chain) m p low got = got
state_old s past legal w Stop m p low got = got

get_two : {A : Type 0} (x : A) (k : ℕ) → k < 2 → slice_get (x ∷ x ∷ []) k ≡ Some x
get_two x zero h = refl
get_two x (suc zero) h = refl
get_two x (suc (suc k)) h = absurd (omega arith)

-- a node that a Split makes
state_new : (s : Setting) (past : List Entry) → IsLegalJournal s past → (w : ℕ) (ev : Event) (m : ℕ) → IsAsked s past w ev → nodes past ≤ m → m < nodes past + nodes_of ev
    → ((n : ℕ) → n < nodes past → slice_get (states past) n ≡ Some (state_of past n))
    → slice_get (states_by ev (states past)) m ≡ Some (state_of (record { by = w; event = ev } ∷ past) m)
state_new s past legal w (Split node lines put_off) m p high there each =
    let ev = Split node lines put_off in
    let f = state_by ev in
    let xs = changed_at node f (states past) in
    let child = child_of (slice_get xs node) in
    let below = node_there s past legal w ev p in
    let long : length xs ≡ nodes past = omega (arith, length-changed_at node f (states past), length-states past) in
    let at : m ≡ length xs + (m - nodes past) = omega arith in
    let got = changed_one (states past) node node f (state_of past node) refl (each node below) in
    let is : child ≡ new_state (choices past node) = ap child_of got in
    ap (slice_get (xs ++ child ∷ child ∷ [])) at ∙ (get_right xs (child ∷ child ∷ []) (m - nodes past) ∙ (get_two child (m - nodes past) (omega arith) ∙ (ap Some is
    ∙ ap Some (same_state true (not (eqb node m) && is_leaf past m) None (chosen past m) (choices past node) (choices past (stem ev (nodes past) m))
    (sym (fresh_leaf_now s past legal w ev m p high)) (sym (fresh_chosen s past legal m high)) (ap (choices past) (sym (stem_high node (nodes past) m high)))))))
  where
    fresh_leaf_now : (s : Setting) (past : List Entry) → IsLegalJournal s past → (w : ℕ) (ev : Event) (m : ℕ) → IsAsked s past w ev → nodes past ≤ m → (not (splits_node ev m) && is_leaf past m) ≡ true
    fresh_leaf_now s past legal w ev m p high = and_from (not (splits_node ev m)) (is_leaf past m) (ap not (fresh_split s past legal w ev m p high)) (fresh_leaf s past legal m high)
state_new s past legal w _ m p high there each = absurd (omega arith)

-- what is kept of a node
pub state_at : (s : Setting) (past : List Entry) → IsLegalJournal s past → (m : ℕ) → m < nodes past → slice_get (states past) m ≡ Some (state_of past m)
unfolding states
state_at s [] legal zero there = refl
state_at s [] legal (suc m) there = absurd (omega arith)
state_at s (e ∷ past) legal m there =
    elim (cases_lt m (nodes past)) [
      | inl low ↦ state_old s past legal.1 e.by e.event m legal.0.asked low (state_at s past legal.1 m low)
      | inr high ↦ state_new s past legal.1 e.by e.event m legal.0.asked high there (λ n low. state_at s past legal.1 n low)
    ]

-- the counts of choices are small
pub few_choices : (s : Setting) (past : List Entry) → IsLegalJournal s past → s.limits.rounds < 2 ^ 32 → HasFewChoices (states past)
few_choices s past legal small k x got =
    let low = slice_get_within (states past) k x got in
    let is = state_at s past legal k (omega (arith, length-states past)) in
    let same : Some x ≡ Some (state_of past k) = sym got ∙ is in
    let q : x ≡ state_of past k = cc in
    omega (arith, ap (λ y. y.choices) q, choices_bound past k, rounds_bound s past legal)

-- ---- workers

pub length-seats : (workers : ℕ) (past : List Entry) → length (seats workers past) ≡ workers
unfolding seats
length-seats workers [] = length-replicate workers (let x : Seat = record { claimed = None; stopped = false } in x)
length-seats workers (e ∷ past) = length-changed_at (e.by - 1) (seat_by e.event) (seats workers past) ∙ length-seats workers past

-- what the journal says of a worker
abbrev pub seat_of : List Entry → ℕ → Seat
seat_of past w = record { claimed = claimed past w; stopped = has_stopped past w }

same_seat : (a b : Option ℕ) (c d : Bool) → a ≡ b → c ≡ d → (let x : Seat = record { claimed = a; stopped = c } in x) ≡ (let y : Seat = record { claimed = b; stopped = d } in y)
same_seat a b c d p q = λ i. record { claimed = p i; stopped = q i }

-- what is kept of a worker
pub seat_at : (s : Setting) (past : List Entry) → IsLegalJournal s past → (w : ℕ) → 1 ≤ w → w ≤ s.workers → slice_get (seats s.workers past) (w - 1) ≡ Some (seat_of past w)
unfolding seats
seat_at s [] legal w some there = get_copies s.workers (w - 1) (let x : Seat = record { claimed = None; stopped = false } in x) (omega arith)
seat_at s (e ∷ past) legal w some there =
    let more = seat_at s past legal.1 w some there in
    let f = seat_by e.event in
    let xs = seats s.workers past in
    let by = legal.0.some in
    elim (cases_Bool (eqb e.by w)) [
      | inl own ↦
          let q : e.by - 1 ≡ w - 1 = (let r = eqb-true e.by w own in omega arith) in
          ap (λ k. slice_get (changed_at k f xs) (w - 1)) q ∙ (changed_at-here (w - 1) f xs ∙ (ap (option_map f) more
          ∙ ap Some (same_seat (claimed_by e.event (claimed past w)) (cond (eqb e.by w) (claimed_by e.event (claimed past w)) (claimed past w)) (is_stop e.event || has_stopped past w) (((eqb e.by w) && is_stop e.event) || has_stopped past w)
          (sym (cond-true (eqb e.by w) (claimed_by e.event (claimed past w)) (claimed past w) own))
          (sym (ap (λ b. (b && is_stop e.event) || has_stopped past w) own)))))
      | inr other ↦
          let apart : w - 1 ≡ e.by - 1 → ⊥ = λ q. (let r : e.by ≡ w = omega arith in let bad = eq-eqb e.by w r in cc) in
          changed_at-elsewhere (e.by - 1) (w - 1) f xs apart ∙ (more
          ∙ ap Some (same_seat (claimed past w) (cond (eqb e.by w) (claimed_by e.event (claimed past w)) (claimed past w)) (has_stopped past w) (((eqb e.by w) && is_stop e.event) || has_stopped past w)
          (sym (cond-false (eqb e.by w) (claimed_by e.event (claimed past w)) (claimed past w) other))
          (sym (ap (λ b. (b && is_stop e.event) || has_stopped past w) other))))
    ]
