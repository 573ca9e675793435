-- Laws that carry proofs, and no definitions that a reader must believe: what the limits bound.
use Rattle.std.proofs.Common.{◌≡◌, ℕ, ◌+◌, ◌*◌, ◌≤◌, refl, Bool, true, false, cond, List, [], ◌∷◌, arith}
use Rattle.case_journal.specs.declared.event.Entry.{Entry}
use Rattle.case_journal.specs.declared.event.Event.{Event}
use Rattle.case_journal.specs.declared.event.Event.TheVariants.{Choose, Publish, Split}
use Rattle.case_journal.specs.Journal.{Setting, lines_of, nodes_of, nodes, choices_of, rounds, splits_of, splits, count_of, counted}
use Rattle.case_journal.specs.Paths.{stem, on_path}
use Rattle.case_journal.specs.Picking.{choices, choices_by}
use Rattle.case_journal.specs.Legal.{IsAsked, IsLegalJournal}

pub rounds_legal : (s : Setting) (past : List Entry) (w : ℕ) (ev : Event) → IsAsked s past w ev → rounds past ≤ s.limits.rounds → rounds past + choices_of ev ≤ s.limits.rounds
rounds_legal s past w (Choose node clause selected) p h = let q = p.few in omega arith
rounds_legal s past w _ p h = omega arith

pub rounds_bound : (s : Setting) (past : List Entry) → IsLegalJournal s past → rounds past ≤ s.limits.rounds
rounds_bound s [] legal = omega arith
rounds_bound s (e ∷ past) legal = rounds_legal s past e.by e.event legal.0.asked (rounds_bound s past legal.1)

pub splits_legal : (s : Setting) (past : List Entry) (w : ℕ) (ev : Event) → IsAsked s past w ev → splits past ≤ s.limits.splits → splits past + splits_of ev ≤ s.limits.splits
splits_legal s past w (Split node lines put_off) p h = let q = p.asked.free in omega arith
splits_legal s past w _ p h = omega arith

pub splits_bound : (s : Setting) (past : List Entry) → IsLegalJournal s past → splits past ≤ s.limits.splits
splits_bound s [] legal = omega arith
splits_bound s (e ∷ past) legal = splits_legal s past e.by e.event legal.0.asked (splits_bound s past legal.1)

pub counted_legal : (s : Setting) (past : List Entry) (w : ℕ) (ev : Event) → IsAsked s past w ev → counted past ≤ s.limits.steps → counted past + count_of (lines_of ev) ≤ s.limits.steps
counted_legal s past w (Publish node chain put_off) p h = p.few
counted_legal s past w (Split node lines put_off) p h = p.few
counted_legal s past w _ p h = omega arith

pub counted_bound : (s : Setting) (past : List Entry) → IsLegalJournal s past → counted past ≤ s.limits.steps
counted_bound s [] legal = omega arith
counted_bound s (e ∷ past) legal = counted_legal s past e.by e.event legal.0.asked (counted_bound s past legal.1)

one_more : (b : Bool) (n : ℕ) → cond b (n + 1) n ≤ n + 1
one_more true n = omega arith
one_more false n = omega arith

choices_step : (ev : Event) (on : ℕ → Bool) (n : ℕ) → choices_by ev on n ≤ n + choices_of ev
choices_step (Choose node clause selected) on n = one_more (on node) n
choices_step _ on n = omega arith

-- the choices on a path are among all
pub choices_bound : (past : List Entry) (m : ℕ) → choices past m ≤ rounds past
choices_bound [] m = omega arith
choices_bound (e ∷ past) m = omega (arith, choices_bound past (stem e.event (nodes past) m), choices_step e.event (on_path past (stem e.event (nodes past) m)) (choices past (stem e.event (nodes past) m)))

-- each Split makes two nodes
pub splits_nodes : (ev : Event) → nodes_of ev ≡ 2 * splits_of ev
splits_nodes (Split node lines put_off) = refl
splits_nodes _ = refl
