-- The tree of cases: each Split gives a node two children, which have the next two numbers.
use Rattle.std.specs.Prelude.{ℕ, ◌+◌, Bool, true, false, not, ◌&&◌, ◌||◌, ◌==◌, nat_le, List, [], ◌∷◌, Option, Some, None, if◌then◌else◌}
use Rattle.dep_sets.specs.declared.deps.Assumption.{Assumption}
use Rattle.dep_sets.specs.Assumptions.{contains_assumption}
use Rattle.proof_steps.specs.declared.step.Line.{Line}
use Rattle.proof_steps.specs.Steps.{side_of}
use Rattle.case_journal.specs.declared.event.Entry.{Entry}
use Rattle.case_journal.specs.declared.event.Event.{Event}
use Rattle.case_journal.specs.declared.event.Event.TheVariants.{Split}
use Rattle.case_journal.specs.declared.branch.Branch.{Branch}
use Rattle.case_journal.specs.Journal.{nodes}

-- where m hung before the event: a node that it makes hung at the node that was split, any other one where it does
abbrev pub stem : Event → ℕ → ℕ → ℕ
stem (Split node steps put_off) count m = if nat_le count m then node else m
stem _ count m = m

-- n is on the path from the root to m
abbrev pub on_path : List Entry → ℕ → ℕ → Bool
on_path [] m n = n == m
on_path (e ∷ past) m n = (n == m) || on_path past (stem e.event (nodes past) m) n

abbrev pub first_number : List ℕ → ℕ
first_number [] = 0
first_number (n ∷ ns) = n

-- the clause that the steps of a Split are about
abbrev pub subject : List Line → ℕ
subject [] = 0
subject (l ∷ ls) = first_number l.step.parents

abbrev pub branch_to : ℕ → ℕ → ℕ → Branch
branch_to node split side = record { parent = node; assumed = side_of split side }

-- how m hangs in the tree after the event, where it hung there in the other way before
abbrev pub branch_by : Event → ℕ → ℕ → Option Branch → Option Branch
branch_by (Split node steps put_off) count m earlier =
    if m == count then Some (branch_to node (subject steps) 1)
    else (if m == count + 1 then Some (branch_to node (subject steps) 2) else earlier)
branch_by _ count m earlier = earlier

-- the parent of m and the side of its split that is assumed there; nothing at the root
abbrev pub branch : List Entry → ℕ → Option Branch
branch [] m = None
branch (e ∷ past) m = branch_by e.event (nodes past) m (branch past m)

-- the deepest node on the path of m after the event, where it is the other one before
abbrev pub owner_by : Event → ℕ → List Assumption → ℕ → ℕ → ℕ
owner_by (Split node steps put_off) count deps m above =
    if ((m == count) && contains_assumption deps (side_of (subject steps) 1)) || ((m == count + 1) && contains_assumption deps (side_of (subject steps) 2))
    then m else above
owner_by _ count deps m above = above

-- the deepest node on the path of m whose assumption is one of these; else the root
abbrev pub owner : List Entry → List Assumption → ℕ → ℕ
owner [] deps m = 0
owner (e ∷ past) deps m = owner_by e.event (nodes past) deps m (owner past deps (stem e.event (nodes past) m))

abbrev pub splits_node : Event → ℕ → Bool
splits_node (Split node steps put_off) m = node == m
splits_node _ m = false

-- no event has split m
abbrev pub is_leaf : List Entry → ℕ → Bool
is_leaf [] m = true
is_leaf (e ∷ past) m = not (splits_node e.event m) && is_leaf past m

-- the list with the two nodes in the place of the one that was split
abbrev pub replaced : ℕ → ℕ → List ℕ → List ℕ
replaced node count [] = []
replaced node count (m ∷ ms) = if m == node then count ∷ (count + 1) ∷ ms else m ∷ replaced node count ms

abbrev pub leaves_by : Event → ℕ → List ℕ → List ℕ
leaves_by (Split node steps put_off) count ms = replaced node count ms
leaves_by _ count ms = ms

-- the leaves, from left to right
abbrev pub leaves : List Entry → List ℕ
leaves [] = 0 ∷ []
leaves (e ∷ past) = leaves_by e.event (nodes past) (leaves past)
