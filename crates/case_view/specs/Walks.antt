-- How a view goes on by one event of the journal, down to the leaf for which it is made.
use Rattle.std.specs.Prelude.{◌≡◌, ◌⊎◌, ℕ, ◌+◌, ◌*◌, ◌<◌, ◌≤◌, ◌^◌, Bool, ◌==◌, ◌||◌, List, [], ◌∷◌, ◌++◌, length, Option, Some, None, if◌then◌else◌}
use Rattle.std.specs.List.{list_any}
use Rattle.dep_sets.specs.declared.deps.Assumption.{Assumption}
use Rattle.proof_steps.specs.declared.step.Line.{Line}
use Rattle.proof_steps.specs.Steps.{side_of}
use Rattle.case_journal.specs.declared.event.Entry.{Entry}
use Rattle.case_journal.specs.declared.event.Event.{Event}
use Rattle.case_journal.specs.declared.event.Event.TheVariants.{Choose, Split, Activate}
use Rattle.case_journal.specs.Journal.{Setting, ledger, nodes, nodes_of, lines_of, splits_of}
use Rattle.case_journal.specs.Paths.{stem, subject}
use Rattle.case_journal.specs.Facts.{lists}
use Rattle.case_view.specs.declared.kept.Kept.{Kept}
use Rattle.case_view.specs.declared.kept.Case.{Case}
use Rattle.case_view.specs.Views.{kept_line, kept_lines, and_more, path_nodes, IsRising, IsCaseOf}

-- where m hung before these later events
abbrev pub hung : List Entry → List Entry → ℕ → ℕ
hung [] past m = m
hung (e ∷ later) past m = hung later past (stem e.event (nodes (later ++ past)) m)

-- n is one of the nodes
abbrev pub is_among : List ℕ → ℕ → Bool
is_among ns n = list_any (λ x. n == x) ns

-- the number of nodes where so many clauses were split
abbrev pub count_with : ℕ → ℕ
count_with splits = 2 * splits + 1

-- the node of the view after the event, where `next` is the node below it on the path to the leaf
abbrev pub node_after : Event → ℕ → Option ℕ → ℕ → ℕ
node_after (Split node lines put_off) count (Some next) m = if next == count || next == count + 1 then next else m
node_after _ count next m = m

-- the side of the split by which it is entered
abbrev pub side_into : List Line → ℕ → ℕ → Assumption
side_into lines count m = if m == count then side_of (subject lines) 1 else side_of (subject lines) 2

abbrev pub nodes_into : ℕ → ℕ → List ℕ → List ℕ
nodes_into m into ns = if into == m then ns else ns ++ into ∷ []

abbrev pub sides_into : ℕ → ℕ → ℕ → List Line → List Assumption → List Assumption
sides_into m into count lines path = if into == m then path else path ++ side_into lines count into ∷ []

-- the given clause after the event at the node m, which is `into` then; `lines` is the ledger
abbrev pub given_by : Event → List Line → ℕ → ℕ → Option Kept → Option Kept
given_by (Choose node clause selected) lines m into given = if node == m then kept_line lines clause else given
given_by (Activate node) lines m into given = if node == m then None else given
given_by (Split node steps put_off) lines m into given = if into == m then given else None
given_by _ lines m into given = given

abbrev pub worked_with : Event → ℕ → Option Kept → List Kept → List Kept
worked_with (Activate node) m given list = if node == m then and_more list given else list
worked_with _ m given list = list

-- the view after the event, at the node `into`; `ledger` has the clause that it chooses
abbrev pub noted_at : List Line → Event → ℕ → Case → Case
noted_at ledger ev into v = record {
  worker = v.worker;
  node = into;
  events = v.events + 1;
  base = v.base + length (lines_of ev);
  splits = v.splits + splits_of ev;
  nodes = nodes_into v.node into v.nodes;
  path = sides_into v.node into (count_with v.splits) (lines_of ev) v.path;
  given = given_by ev ledger v.node into v.given;
  worked = worked_with ev v.node v.given v.worked;
  listed = v.listed ++ kept_lines (lists ev (count_with v.splits) v.base (is_among v.nodes) into) (v.base + 1) (lines_of ev);
}

-- the view after the event, where `next` is the node below its own on the path to the leaf
abbrev pub with_event : List Line → Event → Option ℕ → Case → Case
with_event ledger ev next v = noted_at ledger ev (node_after ev (count_with v.splits) next v.node) v

-- the event may be noted: its numbers fit, what it chooses is in the ledger, and the nodes rise
pub record IsNotable (ledger : List Line) (ev : Event) (v : Case) : Type 0 where
  pub steps : v.base + length (lines_of ev) < 2 ^ 32
  pub nodes : count_with v.splits + nodes_of ev < 2 ^ 32
  pub events : v.events + 1 < 2 ^ 64
  pub chosen : (node clause : ℕ) (selected : Option ℕ) → ev ≡ Choose node clause selected → (1 ≤ clause) × (clause ≤ length ledger)
  pub rises : IsRising v.nodes

-- the list of nodes says where the path to m goes on: it has the whole path, or none where m was there already
abbrev pub IsWay : List Entry → List Entry → ℕ → List ℕ → Type 0
IsWay past start m way = (way ≡ path_nodes past m) ⊎ ((way ≡ []) × (m < nodes start))

-- the journal has reached so many events, and the view is that of the node at which m hung then
pub record Reaches (s : Setting) (past : List Entry) (m : ℕ) (way : List ℕ) (at : ℕ) (v : Case) : Type 0 where
  pub start : List Entry
  pub later : List Entry
  pub more : past ≡ later ++ start
  pub count : length start ≡ at
  pub is : IsCaseOf s start v
  pub node : v.node ≡ hung later start m
  pub goes : IsWay past start m way
