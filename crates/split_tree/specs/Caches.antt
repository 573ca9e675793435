-- What a table keeps beside its journal, computed from the journal.
use Rattle.std.specs.Prelude.{◌≡◌, ℕ, zero, suc, ◌+◌, ◌-◌, ◌<◌, ◌≤◌, ◌^◌, min, Bool, true, false, ◌&&◌, ◌||◌, ◌==◌, List, [], ◌∷◌, ◌++◌, length, map, option_map, reverse, replicate, Option, Some, None, slice_get, if◌then◌else◌}
use Rattle.spl_terms.specs.Clauses.{is_empty, clause_symbols}
use Rattle.proof_steps.specs.declared.step.Line.{Line}
use Rattle.proof_steps.specs.Spots.{changed_at}
use Rattle.case_journal.specs.declared.event.Entry.{Entry}
use Rattle.case_journal.specs.declared.event.Event.{Event}
use Rattle.case_journal.specs.declared.event.Event.TheVariants.{Choose, Publish, Split, Activate}
use Rattle.case_journal.specs.declared.branch.Branch.{Branch}
use Rattle.split_tree.specs.declared.caches.Spot.{Spot}
use Rattle.split_tree.specs.declared.caches.NodeState.{NodeState}
use Rattle.split_tree.specs.declared.caches.Retired.{Retired}
use Rattle.split_tree.specs.declared.caches.Seat.{Seat}
use Rattle.split_tree.specs.declared.caches.Tally.{Tally}
use Rattle.case_journal.specs.Journal.{Setting, nodes, lines_of, count_of, choices_of, splits_of, counted, rounds, splits}
use Rattle.case_journal.specs.Paths.{branch_to, subject}
use Rattle.case_journal.specs.Facts.{chosen, claimed_by, is_stop, is_number}
use Rattle.case_journal.specs.Ending.{end_by, first_end, or_else}

-- the entries of a journal, the newest first
unfoldable pub past_of : List Entry → List Entry
past_of entries = reverse entries

-- ---- for each node how it hangs in the tree

abbrev pub branches_by : Event → List (Option Branch)
branches_by (Split node lines put_off) = Some (branch_to node (subject lines) 1) ∷ Some (branch_to node (subject lines) 2) ∷ []
branches_by _ = []

unfoldable pub branches : List Entry → List (Option Branch)
branches [] = None ∷ []
branches (e ∷ past) = branches past ++ branches_by e.event

-- ---- for each clause number the node where it is listed

abbrev pub homes_by : Event → ℕ → List (Option ℕ)
homes_by (Publish node chain put_off) count = replicate (length chain - 1) None ++ Some node ∷ []
homes_by (Split node lines put_off) count = Some count ∷ replicate (length lines - 1) (Some (count + 1))
homes_by _ count = []

unfoldable pub homes : Setting → List Entry → List (Option ℕ)
homes s [] = replicate (length s.input) (Some 0)
homes s (e ∷ past) = homes s past ++ homes_by e.event (nodes past)

-- an event that adds to the ledger adds some step
abbrev pub AddsLines : Event → Type 0
AddsLines (Publish node chain put_off) = 0 < length chain
AddsLines (Split node lines put_off) = 0 < length lines
AddsLines _ = Unit {0}

-- whether a clause with this home is listed at a node whose path is `on`
abbrev pub at_home : (ℕ → Bool) → Option ℕ → Bool
at_home on None = false
at_home on (Some node) = on node

-- ---- where the steps stand that events add

-- where the first n steps of an event stand: its place in the journal, and theirs in the event
abbrev pub spots_upto : ℕ → ℕ → List Spot
spots_upto event zero = []
spots_upto event (suc n) = spots_upto event n ++ record { event = event; place = n } ∷ []

unfoldable pub spots : List Entry → List Spot
spots [] = []
spots (e ∷ past) = spots past ++ spots_upto (length past) (length (lines_of e.event))

-- ---- for each node the first empty clause that stands there

-- the values of f at the first n numbers, from 0
abbrev pub upto : {A : Type 0} → (ℕ → A) → ℕ → List A
upto f zero = []
upto f (suc n) = upto f n ++ f n ∷ []

-- the first number of a line that states the empty clause and has the node for its home, where the first line has the number n
abbrev pub own_empty : ℕ → ℕ → List (Option ℕ) → List Line → Option ℕ
own_empty node n [] ls = None
own_empty node n (h ∷ hs) [] = None
own_empty node n (h ∷ hs) (l ∷ ls) = if is_number h node && is_empty l.stated.clause then Some n else own_empty node (n + 1) hs ls

-- for the first m nodes
abbrev pub empties : ℕ → List (Option ℕ) → List Line → List (Option ℕ)
empties m hs ls = upto (λ node. own_empty node 1 hs ls) m

abbrev pub or_first : ℕ → Option ℕ → Option ℕ
or_first n (Some first) = Some first
or_first n None = Some n

-- with a line of this home and number
abbrev pub noted_empty : Option ℕ → Line → ℕ → List (Option ℕ) → List (Option ℕ)
noted_empty None l n xs = xs
noted_empty (Some node) l n xs = if is_empty l.stated.clause then changed_at node (or_first n) xs else xs

-- with lines of these homes, of which the first has the number n
abbrev pub noted_empties : List (Option ℕ) → List Line → ℕ → List (Option ℕ) → List (Option ℕ)
noted_empties [] ls n xs = xs
noted_empties (h ∷ hs) [] n xs = xs
noted_empties (h ∷ hs) (l ∷ ls) n xs = noted_empties hs ls (n + 1) (noted_empty h l n xs)

-- a home is one of so many nodes
abbrev pub IsHome : ℕ → Option ℕ → Type 0
IsHome count None = Unit {0}
IsHome count (Some node) = node < count

abbrev pub AreHomes : ℕ → List (Option ℕ) → Type 0
AreHomes count hs = (k : ℕ) (o : Option ℕ) → slice_get hs k ≡ Some o → IsHome count o

-- the smaller one of two numbers, as far as there are some
abbrev pub smaller : Option ℕ → Option ℕ → Option ℕ
smaller None o = o
smaller (Some a) None = Some a
smaller (Some a) (Some b) = Some (min a b)

-- ---- for each node what is known of it

abbrev pub state_by : Event → NodeState → NodeState
state_by (Choose node clause selected) x = record { leaf = x.leaf; chosen = Some clause; choices = x.choices + 1 }
state_by (Activate node) x = record { leaf = x.leaf; chosen = None; choices = x.choices }
state_by (Split node lines put_off) x = record { leaf = false; chosen = x.chosen; choices = x.choices }
state_by _ x = x

-- a new node, below one with so many choices
abbrev pub new_state : ℕ → NodeState
new_state choices = record { leaf = true; chosen = None; choices = choices }

abbrev pub child_of : Option NodeState → NodeState
child_of None = new_state 0
child_of (Some x) = new_state x.choices

abbrev pub with_children : ℕ → List NodeState → List NodeState
with_children node xs = xs ++ child_of (slice_get xs node) ∷ child_of (slice_get xs node) ∷ []

abbrev pub states_by : Event → List NodeState → List NodeState
states_by (Choose node clause selected) xs = changed_at node (state_by (Choose node clause selected)) xs
states_by (Activate node) xs = changed_at node (state_by (Activate node)) xs
states_by (Split node lines put_off) xs = with_children node (changed_at node (state_by (Split node lines put_off)) xs)
states_by _ xs = xs

unfoldable pub states : List Entry → List NodeState
states [] = new_state 0 ∷ []
states (e ∷ past) = states_by e.event (states past)

-- a node that the event changes is one of so many
abbrev pub IsNodeOf : Event → ℕ → Type 0
IsNodeOf (Choose node clause selected) count = node < count
IsNodeOf (Activate node) count = node < count
IsNodeOf (Split node lines put_off) count = node < count
IsNodeOf _ count = Unit {0}

-- the counts of choices are few, so that one more is a number of 64 bits
abbrev pub HasFewChoices : List NodeState → Type 0
HasFewChoices xs = (k : ℕ) (x : NodeState) → slice_get xs k ≡ Some x → x.choices < 2 ^ 32

-- ---- for each worker what is known of it

abbrev pub seat_by : Event → Seat → Seat
seat_by ev x = record { claimed = claimed_by ev x.claimed; stopped = is_stop ev || x.stopped }

unfoldable pub seats : ℕ → List Entry → List Seat
seats workers [] = replicate workers (record { claimed = None; stopped = false })
seats workers (e ∷ past) = changed_at (e.by - 1) (seat_by e.event) (seats workers past)

-- ---- counts

abbrev pub tally_by : Event → Tally → Tally
tally_by ev t = record {
  counted = t.counted + count_of (lines_of ev);
  rounds = t.rounds + choices_of ev;
  splits = t.splits + splits_of ev;
  end = or_else t.end (end_by ev);
}

abbrev pub tally : List Entry → Tally
tally past = record { counted = counted past; rounds = rounds past; splits = splits past; end = first_end past }

-- ---- the sizes of clauses

abbrev pub weights : List Line → List ℕ
weights = map (λ l. clause_symbols l.stated.clause)

-- ---- clauses that were activated or split

-- the place of the last record of clause i, where the last of all records stands first
abbrev pub newest : ℕ → List Retired → Option ℕ
newest i [] = None
newest i (r ∷ rs) = if r.clause == i then Some (length rs) else newest i rs

-- the record of the clause and the node after these
abbrev pub retired_at : ℕ → ℕ → List Retired → Retired
retired_at clause node rs = record { clause = clause; node = node; older = newest clause rs }

-- the record of the clause that the event activates or splits, after these, where `at n` is what was chosen at n
abbrev pub retired_by : Event → (ℕ → Option ℕ) → List Retired → Option Retired
retired_by (Activate node) at rs = option_map (λ i. retired_at i node rs) (at node)
retired_by (Split node lines put_off) at rs = Some (retired_at (subject lines) node rs)
retired_by _ at rs = None

abbrev pub pushed : {A : Type 0} → List A → Option A → List A
pushed xs None = xs
pushed xs (Some x) = xs ++ x ∷ []

abbrev pub with_newest : Option Retired → List Retired → List Retired
with_newest None rs = rs
with_newest (Some r) rs = r ∷ rs

-- the last record first
unfoldable pub retired : List Entry → List Retired
retired [] = []
retired (e ∷ past) = with_newest (retired_by e.event (chosen past) (retired past)) (retired past)

-- ---- for each clause number the place of the clause's last record

-- for the first n numbers
abbrev pub newest_upto : ℕ → List Retired → List (Option ℕ)
newest_upto n rs = upto (λ k. newest (suc k) rs) n

-- the record is put in the place
abbrev pub with_retired : Option Retired → ℕ → List (Option ℕ) → List (Option ℕ)
with_retired None place xs = xs
with_retired (Some r) place xs = changed_at (r.clause - 1) (λ o. Some place) xs

-- the clause has one of so many numbers
abbrev pub IsNumbered : Option Retired → ℕ → Type 0
IsNumbered None n = Unit {0}
IsNumbered (Some r) n = (1 ≤ r.clause) × (r.clause ≤ n)
