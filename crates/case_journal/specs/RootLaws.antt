-- Laws that carry proofs, and no definitions that a reader must believe: what makes events legal while there is one node.
use Rattle.std.proofs.Common.{◌≡◌, ℕ, ◌+◌, ◌≤◌, Bool, true, false, cond, not, List, [], ◌∷◌, Option, Some, None, refl, arith}
use Rattle.std.proofs.lemmas.Bool.{and_from}
use Rattle.case_journal.specs.declared.event.Entry.{Entry}
use Rattle.case_journal.specs.declared.event.Event.{Event}
use Rattle.case_journal.specs.declared.event.Event.TheVariants.{Split}
use Rattle.case_journal.specs.declared.event.End.{End}
use Rattle.case_journal.specs.declared.event.End.TheVariants as ends
use Rattle.case_journal.specs.Journal.{Setting, nodes, nodes_of}
use Rattle.case_journal.specs.Paths.{is_leaf, splits_node}
use Rattle.case_journal.specs.Ending.{first_end, has_empty, reason}
use Rattle.case_journal.specs.Legal.{IsSettled}

unsplit_by : (ev : Event) (n m : ℕ) → n + nodes_of ev ≡ 1 → 1 ≤ n → not (splits_node ev m) ≡ true
unsplit_by (Split node lines put_off) n m one some = absurd (omega arith)
unsplit_by _ n m one some = refl

some_nodes : (past : List Entry) → 1 ≤ nodes past
some_nodes [] = omega arith
some_nodes (e ∷ past) = omega (arith, some_nodes past)

-- the root alone is a leaf
pub root_leaf : (past : List Entry) (m : ℕ) → nodes past ≡ 1 → is_leaf past m ≡ true
root_leaf [] m one = refl
root_leaf (e ∷ past) m one = and_from (not (splits_node e.event m)) (is_leaf past m) (unsplit_by e.event (nodes past) m one (some_nodes past)) (root_leaf past m (omega (arith, one, some_nodes past)))

pub settled_root : (s : Setting) (past : List Entry) → nodes past ≡ 1 → IsSettled s past
settled_root s past one m there inner live = let leaf = root_leaf past m one in absurd (cc)

reason_step : (b : Bool) (o : Option End) → cond b (Some ends.Proved) o ≡ None → o ≡ None
reason_step true o h = cc
reason_step false o h = h

pub unended : (s : Setting) (past : List Entry) → reason s past ≡ None → first_end past ≡ None
unended s past h = reason_step (has_empty s.input) (first_end past) h
