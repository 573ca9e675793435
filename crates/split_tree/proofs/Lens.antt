-- How long the lists are that a table keeps, and what a read of them tells.
use Rattle.std.proofs.Common.{◌≡◌, ℕ, suc, ◌-◌, ◌<◌, ◌≤◌, ◌∙◌, Option, Some, ap, sym, length, reverse, refl, arith, vec_len, get_or}
use Rattle.std.specs.List.{slice_get}
use Rattle.std.proofs.lemmas.List.{length-reverse}
use Rattle.std.proofs.lemmas.Option.{slice_get_read, slice_get_within, get_or_from_slice_get}
use Rattle.spl_terms.specs.Clauses.{clause_symbols}
use Rattle.proof_steps.specs.declared.step.Line.{Line}
use Rattle.proof_steps.specs.Steps.{numbered}
use Rattle.case_journal.specs.declared.event.Entry.{Entry}
use Rattle.case_journal.specs.declared.branch.Branch.{Branch}
use Rattle.split_tree.specs.declared.caches.Spot.{Spot}
use Rattle.case_journal.specs.Paths.{on_path, branch}
use Rattle.case_journal.specs.Facts.{listed}
use Rattle.split_tree.proofs.Branches.{branch_at}
use Rattle.split_tree.proofs.Homes.{housed, Spotted, spotted}
use Rattle.case_journal.specs.Journal.{ledger, nodes, steps}
use Rattle.split_tree.specs.declared.table.Table.TheInside.{Inside}
use Rattle.split_tree.specs.declared.caches.Seat.{Seat}
use Rattle.split_tree.specs.declared.caches.NodeState.{NodeState}
use Rattle.split_tree.specs.Fields.{setting_of, IsTable}
use Rattle.split_tree.specs.Caches.{past_of, at_home, IsHome, homes, own_empty, retired, newest}
use Rattle.case_journal.specs.ListLaws.{length-input_lines, numbered_get}
use Rattle.split_tree.proofs.Lists.{length-upto, upto_at, length-weights, weights_at}
use Rattle.split_tree.proofs.Past.{length-branches, length-homes, reverse-past_of}
use Rattle.split_tree.proofs.States.{length-states, length-seats, seat_at, seat_of, state_at, state_of}

pub branches_len : (t : Inside) → IsTable t → vec_len t.branches ≡ nodes (past_of t.journal.items)
branches_len t ok = omega (arith, t.branches.ok.0, ap length ok.branches_are, length-branches (past_of t.journal.items))

pub homes_len : (t : Inside) → IsTable t → vec_len t.homes ≡ steps (setting_of t) (past_of t.journal.items)
homes_len t ok = omega (arith, t.homes.ok.0, ap length ok.homes_are, length-homes (setting_of t) (past_of t.journal.items) ok.legal (sym (length-input_lines 1 t.input)))

pub states_len : (t : Inside) → IsTable t → vec_len t.states ≡ nodes (past_of t.journal.items)
states_len t ok = omega (arith, t.states.ok.0, ap length ok.states_are, length-states (past_of t.journal.items))

pub seats_len : (t : Inside) → IsTable t → vec_len t.seats ≡ t.workers
seats_len t ok = omega (arith, t.seats.ok.0, ap length ok.seats_are, length-seats t.workers (past_of t.journal.items))

pub empties_len : (t : Inside) → IsTable t → vec_len t.empties ≡ nodes (past_of t.journal.items)
empties_len t ok = omega (arith, t.empties.ok.0, ap length ok.empties_are, length-upto (λ node. own_empty node 1 (homes (setting_of t) (past_of t.journal.items)) (ledger (setting_of t) (past_of t.journal.items))) (nodes (past_of t.journal.items)))

pub newest_len : (t : Inside) → IsTable t → vec_len t.newest ≡ steps (setting_of t) (past_of t.journal.items)
newest_len t ok = omega (arith, t.newest.ok.0, ap length ok.newest_are, length-upto (λ k. newest (suc k) (retired (past_of t.journal.items))) (steps (setting_of t) (past_of t.journal.items)))

pub retired_len : (t : Inside) → IsTable t → vec_len t.retired ≡ length (retired (past_of t.journal.items))
retired_len t ok = omega (arith, t.retired.ok.0, ap length ok.retired_are, length-reverse (retired (past_of t.journal.items)))

-- the seat that is read
pub read_seat : (t : Inside) → IsTable t → (w : ℕ) (x : Seat) → 1 ≤ w → w ≤ t.workers → x ≡ get_or t.seats.items (w - 1) x → seat_of (past_of t.journal.items) w ≡ x
read_seat t ok w x some there read =
    let got = slice_get_read t.seats.items (length t.seats.items) (w - 1) x refl (omega (arith, t.seats.ok.0, seats_len t ok)) read in
    let is = seat_at (setting_of t) (past_of t.journal.items) ok.legal w some there in
    let same : Some (seat_of (past_of t.journal.items) w) ≡ Some x = sym is ∙ (ap (λ xs. slice_get xs (w - 1)) (sym ok.seats_are) ∙ got) in
    cc

-- the node that is read
pub read_state : (t : Inside) → IsTable t → (m : ℕ) (x : NodeState) → m < nodes (past_of t.journal.items) → x ≡ get_or t.states.items m x → state_of (past_of t.journal.items) m ≡ x
read_state t ok m x there read =
    let got = slice_get_read t.states.items (length t.states.items) m x refl (omega (arith, t.states.ok.0, states_len t ok)) read in
    let is = state_at (setting_of t) (past_of t.journal.items) ok.legal m there in
    let same : Some (state_of (past_of t.journal.items) m) ≡ Some x = sym is ∙ (ap (λ xs. slice_get xs m) (sym ok.states_are) ∙ got) in
    cc

-- the branch that is read
pub read_branch : (t : Inside) → IsTable t → (m : ℕ) (x : Option Branch) → m < nodes (past_of t.journal.items) → x ≡ get_or t.branches.items m x → branch (past_of t.journal.items) m ≡ x
read_branch t ok m x there read =
    let got = slice_get_read t.branches.items (length t.branches.items) m x refl (omega (arith, t.branches.ok.0, branches_len t ok)) read in
    let same : Some (branch (past_of t.journal.items) m) ≡ Some x = sym (branch_at (past_of t.journal.items) m there) ∙ (ap (λ xs. slice_get xs m) (sym ok.branches_are) ∙ got) in
    cc

-- the home that is read
pub read_home : (t : Inside) → IsTable t → (m i : ℕ) (o : Option ℕ) → m < nodes (past_of t.journal.items) → 1 ≤ i → i ≤ steps (setting_of t) (past_of t.journal.items) → o ≡ get_or t.homes.items (i - 1) o
    → (listed (setting_of t) (past_of t.journal.items) m i ≡ at_home (on_path (past_of t.journal.items) m) o) × IsHome (nodes (past_of t.journal.items)) o
read_home t ok m i o there some in_range read =
    let long = homes_len t ok in
    let got = slice_get_read t.homes.items (length t.homes.items) (i - 1) o refl (omega (arith, t.homes.ok.0)) read in
    housed (setting_of t) (past_of t.journal.items) ok.legal m i there some o (ap (λ xs. slice_get xs (i - 1)) (sym ok.homes_are) ∙ got)

-- the first empty clause of the node, as it is read
pub read_empty : (t : Inside) → IsTable t → (m : ℕ) (o : Option ℕ) → m < nodes (past_of t.journal.items) → o ≡ get_or t.empties.items m o → own_empty m 1 (homes (setting_of t) (past_of t.journal.items)) (ledger (setting_of t) (past_of t.journal.items)) ≡ o
read_empty t ok m o there read =
    let f = λ (node : ℕ). own_empty node 1 (homes (setting_of t) (past_of t.journal.items)) (ledger (setting_of t) (past_of t.journal.items)) in
    let got = slice_get_read t.empties.items (length t.empties.items) m o refl (omega (arith, t.empties.ok.0, empties_len t ok)) read in
    let same : Some (f m) ≡ Some o = sym (upto_at f (nodes (past_of t.journal.items)) m there) ∙ (ap (λ xs. slice_get xs m) (sym ok.empties_are) ∙ got) in
    cc

-- the spot that is read
pub read_spot : (t : Inside) → IsTable t → (k : ℕ) (p : Spot) → k < vec_len t.spots → p ≡ get_or t.spots.items k p → Spotted (setting_of t) (past_of t.journal.items) k p
read_spot t ok k p low read =
    let got = slice_get_read t.spots.items (length t.spots.items) k p refl (omega (arith, t.spots.ok.0)) read in
    spotted (setting_of t) (past_of t.journal.items) k p (ap (λ xs. slice_get xs k) (sym ok.spots_are) ∙ got)

-- the entry at a spot, as it is read
pub read_entry : (t : Inside) → (k : ℕ) (p : Spot) (e : Entry) → (r : Spotted (setting_of t) (past_of t.journal.items) k p) → e ≡ get_or t.journal.items p.event e → r.entry ≡ e
read_entry t k p e r read =
    let is : slice_get t.journal.items p.event ≡ Some r.entry = ap (λ xs. slice_get xs p.event) (sym (reverse-past_of t.journal.items)) ∙ r.is in
    sym (get_or_from_slice_get t.journal.items p.event r.entry e is) ∙ sym read

pub spot_within : (t : Inside) → (k : ℕ) (p : Spot) → Spotted (setting_of t) (past_of t.journal.items) k p → p.event < vec_len t.journal
spot_within t k p r =
    let b = slice_get_within (reverse (past_of t.journal.items)) p.event r.entry r.is in
    omega (arith, t.journal.ok.0, ap length (reverse-past_of t.journal.items))

-- the place of the clause's last record, as it is read
pub read_newest : (t : Inside) → IsTable t → (i : ℕ) (o : Option ℕ) → 1 ≤ i → i ≤ steps (setting_of t) (past_of t.journal.items) → o ≡ get_or t.newest.items (i - 1) o → newest i (retired (past_of t.journal.items)) ≡ o
read_newest t ok i o some there read =
    let p = past_of t.journal.items in
    let n = steps (setting_of t) p in
    let got = slice_get_read t.newest.items (length t.newest.items) (i - 1) o refl (omega (arith, t.newest.ok.0, newest_len t ok)) read in
    let at = upto_at (λ k. newest (suc k) (retired p)) n (i - 1) (omega arith) in
    let z : suc (i - 1) ≡ i = omega arith in
    let same : Some (newest (suc (i - 1)) (retired p)) ≡ Some o = sym at ∙ (ap (λ xs. slice_get xs (i - 1)) (sym ok.newest_are) ∙ got) in
    let q : newest (suc (i - 1)) (retired p) ≡ o = cc in
    ap (λ j. newest j (retired p)) (sym z) ∙ q

-- the size that is read
pub read_weight : (t : Inside) → IsTable t → (i w : ℕ) (l : Line) → 1 ≤ i → i ≤ steps (setting_of t) (past_of t.journal.items) → numbered (ledger (setting_of t) (past_of t.journal.items)) i ≡ Some l → w ≡ get_or t.weights.items (i - 1) w → w ≡ clause_symbols l.stated.clause
read_weight t ok i w l some there found read =
    let p = past_of t.journal.items in
    let ls = ledger (setting_of t) p in
    let got = slice_get_read t.weights.items (length t.weights.items) (i - 1) w refl (omega (arith, ap length ok.weights_are, length-weights ls)) read in
    let is = weights_at (i - 1) ls l (sym (numbered_get ls i some) ∙ found) in
    let same : Some w ≡ Some (clause_symbols l.stated.clause) = sym got ∙ (ap (λ xs. slice_get xs (i - 1)) ok.weights_are ∙ is) in
    cc
