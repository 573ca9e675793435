-- What a worker's view of a case has, and for which node and journal a view stands.
use Rattle.std.specs.Prelude.{◌≡◌, ◌⊎◌, ℕ, ◌+◌, ◌≤◌, Bool, true, ◌==◌, nat_le, List, [], ◌∷◌, ◌++◌, length, Option, Some, None, option_map, option_and_then, slice_get, if◌then◌else◌}
use Rattle.std.specs.List.{list_any}
use Rattle.spl_terms.specs.declared.clause.Part.{Part}
use Rattle.spl_terms.specs.Clauses.{renumbered}
use Rattle.dep_sets.specs.declared.deps.Assumption.{Assumption}
use Rattle.dep_sets.specs.Assumptions.{contains_assumption}
use Rattle.proof_steps.specs.declared.step.Line.{Line}
use Rattle.proof_steps.specs.declared.step.Statement.{Statement}
use Rattle.proof_steps.specs.Steps.{numbered, side_of, from_two, resolution}
use Rattle.case_journal.specs.declared.event.Entry.{Entry}
use Rattle.case_journal.specs.declared.event.Event.{Event}
use Rattle.case_journal.specs.declared.event.Event.TheVariants.{Split, Activate}
use Rattle.case_journal.specs.Journal.{Setting, ledger, steps, nodes, splits}
use Rattle.case_journal.specs.Paths.{stem, on_path, subject}
use Rattle.case_journal.specs.Facts.{listed, worked, chosen, Holds}
use Rattle.case_view.specs.declared.kept.Kept.{Kept}
use Rattle.case_view.specs.declared.kept.Case.{Case}

-- ---- the path of a node

-- the nodes on the path of m after the event, where `above` are those of the node at which m hung before
abbrev pub path_by : Event → ℕ → ℕ → List ℕ → List ℕ
path_by (Split node lines put_off) count m above = if nat_le count m then above ++ m ∷ [] else above
path_by _ count m above = above

-- the nodes of the path of m, from the root down
abbrev pub path_nodes : List Entry → ℕ → List ℕ
path_nodes [] m = m ∷ []
path_nodes (e ∷ past) m = path_by e.event (nodes past) m (path_nodes past (stem e.event (nodes past) m))

abbrev pub sides_by : Event → ℕ → ℕ → List Assumption → List Assumption
sides_by (Split node lines put_off) count m above =
    if m == count then above ++ side_of (subject lines) 1 ∷ []
    else (if m == count + 1 then above ++ side_of (subject lines) 2 ∷ [] else above)
sides_by _ count m above = above

-- what is assumed at the nodes of the path of m, from the root down; nothing at the root
abbrev pub path_sides : List Entry → ℕ → List Assumption
path_sides [] m = []
path_sides (e ∷ past) m = sides_by e.event (nodes past) m (path_sides past (stem e.event (nodes past) m))

-- of these nodes with what is assumed there, the last one whose assumption is one of `deps`; else the node `at`
abbrev pub owner_among : ℕ → List ℕ → List Assumption → List Assumption → ℕ
owner_among at (n ∷ ns) (a ∷ path) deps = owner_among (if contains_assumption deps a then n else at) ns path deps
owner_among at ns path deps = at

-- the deepest node of the path whose assumption is one of these; else the root
abbrev pub owner_on : List ℕ → List Assumption → List Assumption → ℕ
owner_on [] path deps = 0
owner_on (root ∷ ns) path deps = owner_among root ns path deps

-- clause i was split where one of these is assumed
abbrev pub is_split_on : List Assumption → ℕ → Bool
is_split_on path i = list_any (λ a. a.split == i) path

-- ---- clauses at a node

abbrev pub keep : ℕ → Line → Kept
keep n l = record { number = n; stated = l.stated }

-- the clause with this number
abbrev pub kept_line : List Line → ℕ → Option Kept
kept_line lines n = option_map (keep n) (numbered lines n)

-- of these lines, the first of which has the number n, those whose number passes
abbrev pub kept_lines : (ℕ → Bool) → ℕ → List Line → List Kept
kept_lines on n [] = []
kept_lines on n (l ∷ ls) = if on n then keep n l ∷ kept_lines on (n + 1) ls else kept_lines on (n + 1) ls

-- the clauses listed at m, by ascending number
abbrev pub listed_at : Setting → List Entry → ℕ → List Kept
listed_at s past m = kept_lines (listed s past m) 1 (ledger s past)

-- the clause that is chosen at m
abbrev pub given_at : Setting → List Entry → ℕ → Option Kept
given_at s past m = option_and_then (kept_line (ledger s past)) (chosen past m)

abbrev pub and_more : List Kept → Option Kept → List Kept
and_more list None = list
and_more list (Some k) = list ++ k ∷ []

-- the list with the clause that the event activates at a node of the path, where `given n` is chosen at n
abbrev pub worked_by : Event → (ℕ → Option Kept) → (ℕ → Bool) → List Kept → List Kept
worked_by (Activate node) given on list = if on node then and_more list (given node) else list
worked_by _ given on list = list

-- the clauses that were activated at nodes of the path of m, in this order; all of them are kept, since nothing is hidden yet
abbrev pub worked_at : Setting → List Entry → ℕ → List Kept
worked_at s [] m = []
worked_at s (e ∷ past) m =
    worked_by e.event (given_at s past) (on_path past (stem e.event (nodes past) m)) (worked_at s past (stem e.event (nodes past) m))

-- ---- views

-- the view has what the journal says of its node
pub record IsCaseOf (s : Setting) (past : List Entry) (v : Case) : Type 0 where
  pub events : v.events ≡ length past
  pub base : v.base ≡ steps s past
  pub splits : v.splits ≡ splits past
  pub nodes : v.nodes ≡ path_nodes past v.node
  pub path : v.path ≡ path_sides past v.node
  pub given : v.given ≡ given_at s past v.node
  pub worked : v.worked ≡ worked_at s past v.node
  pub listed : v.listed ≡ listed_at s past v.node

-- the view is that of the leaf which the worker holds, after this journal
pub record StandsFor (s : Setting) (past : List Entry) (v : Case) : Type 0 where
  pub is : IsCaseOf s past v
  pub holds : Holds s past v.worker v.node

-- the journal goes on from one for which the view stands
pub record GoesOn (s : Setting) (past : List Entry) (v : Case) : Type 0 where
  pub start : List Entry
  pub later : List Entry
  pub more : past ≡ later ++ start
  pub stands : StandsFor s start v

-- ---- what a view has, said one clause at a time

-- x stands in the list
abbrev pub IsIn : {A : Type 0} → List A → A → Type 0
IsIn xs x = (k : ℕ) × (slice_get xs k ≡ Some x)

-- the clause has this number in the ledger, and states this there
abbrev pub IsKeptLine : Setting → List Entry → Kept → Type 0
IsKeptLine s past k = kept_line (ledger s past) k.number ≡ Some k

-- one of these has the number
abbrev pub HasNumber : List Kept → ℕ → Type 0
HasNumber list n = (k : Kept) × IsIn list k × (k.number ≡ n)

pub record HasClauses (s : Setting) (past : List Entry) (v : Case) : Type 0 where
  pub given : (k : Kept) → v.given ≡ Some k → IsKeptLine s past k × (chosen past v.node ≡ Some k.number)
  pub none : v.given ≡ None → chosen past v.node ≡ None
  pub are_worked : (k : Kept) → IsIn v.worked k → IsKeptLine s past k × (worked past v.node k.number ≡ true)
  pub all_worked : (n : ℕ) → worked past v.node n ≡ true → HasNumber v.worked n
  pub are_listed : (k : Kept) → IsIn v.listed k → IsKeptLine s past k × (listed s past v.node k.number ≡ true)
  pub all_listed : (n : ℕ) → listed s past v.node n ≡ true → HasNumber v.listed n

-- ---- what is known of each view

-- each clause is its own renumbering
abbrev pub AreOrdered : List Kept → Type 0
AreOrdered list = (k : Kept) → IsIn list k → renumbered k.stated.clause ≡ k.stated.clause

-- no number comes after a larger one
abbrev pub IsRising : List ℕ → Type 0
IsRising ns = (i j x y : ℕ) → i ≤ j → slice_get ns i ≡ Some x → slice_get ns j ≡ Some y → x ≤ y

-- the clauses of a view are in order
pub record IsOrdered (v : Case) : Type 0 where
  pub given : (k : Kept) → v.given ≡ Some k → renumbered k.stated.clause ≡ k.stated.clause
  pub worked : AreOrdered v.worked
  pub listed : AreOrdered v.listed

-- ---- partners

-- what resolution concludes from them at these places
abbrev pub conclusion_of : ℕ → Part → ℕ → Kept → Kept → Option Statement
conclusion_of i part j p q = from_two (resolution i part j [] []) p.stated q.stated

-- something is concluded from the two, in this order
pub record Resolves (p q : Kept) : Type 0 where
  pub i : ℕ
  pub part : Part
  pub j : ℕ
  pub conclusion : Statement
  pub is : conclusion_of i part j p q ≡ Some conclusion

-- the clause resolves with the given one, in one order or the other
pub record IsPartnerOf (v : Case) (other : Kept) : Type 0 where
  pub given : Kept
  pub is : v.given ≡ Some given
  pub resolves : Resolves given other ⊎ Resolves other given
