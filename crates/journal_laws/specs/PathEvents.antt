-- What a node has from the events on its path alone.
use Rattle.std.specs.Prelude.{◌≡◌, ℕ, Bool, false, List, [], ◌∷◌, if◌then◌else◌}
use Rattle.case_journal.specs.declared.event.Entry.{Entry}
use Rattle.case_journal.specs.declared.event.Event.{Event}
use Rattle.case_journal.specs.declared.event.Event.TheVariants.{Claim, Choose, Publish, Split, Activate, Saturated, Spent, Big, Full, Stop}
use Rattle.case_journal.specs.Journal.{Setting, nodes, steps}
use Rattle.case_journal.specs.Paths.{on_path}

-- an event, with the numbers of nodes and of steps before it
pub record Stamped : Type 0 where
  pub count : ℕ
  pub size : ℕ
  pub event : Event

-- the event is at a node of the path
abbrev pub is_at : Event → (ℕ → Bool) → Bool
is_at (Claim node) on = on node
is_at (Choose node clause selected) on = on node
is_at (Publish node chain put_off) on = on node
is_at (Split node lines put_off) on = on node
is_at (Activate node) on = on node
is_at (Saturated node) on = on node
is_at (Spent node) on = on node
is_at (Big node partner symbols) on = on node
is_at (Full node chain) on = on node
is_at Stop on = false

-- the events at nodes of the path, the newest first
abbrev pub events_on : (ℕ → Bool) → Setting → List Entry → List Stamped
events_on on s [] = []
events_on on s (e ∷ past) =
    if is_at e.event on
    then record { count = nodes past; size = steps s past; event = e.event } ∷ events_on on s past
    else events_on on s past

-- the nodes have the same path
abbrev pub SamePath : List Entry → List Entry → ℕ → Type 0
SamePath past other m = (n : ℕ) → on_path past m n ≡ on_path other m n
