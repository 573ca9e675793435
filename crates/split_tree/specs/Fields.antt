-- What is true of the fields of a table.
use Rattle.std.specs.Prelude.{◌≡◌, ◌+◌, ◌*◌, ◌<◌, ◌≤◌, ◌^◌, reverse, vec_len, vec_capacity}
use Rattle.case_journal.specs.Journal.{Setting, IsSmall, ledger, input_lines, nodes, steps, AreSmall}
use Rattle.case_journal.specs.Paths.{leaves}
use Rattle.case_journal.specs.Facts.{waiting}
use Rattle.case_journal.specs.Ending.{has_empty}
use Rattle.case_journal.specs.Legal.{IsLegalJournal}
use Rattle.split_tree.specs.declared.table.Table.TheInside.{Inside}
use Rattle.split_tree.specs.Caches.{past_of, branches, homes, spots, empties, weights, retired, newest_upto, states, seats, tally}

abbrev pub setting_of : Inside → Setting
setting_of t = record { input = t.input; limits = t.limits; workers = t.workers }

pub record IsTable (t : Inside) : Type 0 where
  pub legal : IsLegalJournal (setting_of t) (past_of t.journal.items)
  pub opening_is : t.opening ≡ input_lines 1 t.input
  pub small_input : AreSmall (input_lines 1 t.input)
  pub refuted_is : t.refuted ≡ has_empty t.input
  pub branches_are : t.branches.items ≡ branches (past_of t.journal.items)
  pub homes_are : t.homes.items ≡ homes (setting_of t) (past_of t.journal.items)
  pub spots_are : t.spots.items ≡ spots (past_of t.journal.items)
  pub empties_are : t.empties.items ≡ empties (nodes (past_of t.journal.items)) (homes (setting_of t) (past_of t.journal.items)) (ledger (setting_of t) (past_of t.journal.items))
  pub weights_are : t.weights.items ≡ weights (ledger (setting_of t) (past_of t.journal.items))
  pub retired_are : t.retired.items ≡ reverse (retired (past_of t.journal.items))
  pub newest_are : t.newest.items ≡ newest_upto (steps (setting_of t) (past_of t.journal.items)) (retired (past_of t.journal.items))
  pub states_are : t.states.items ≡ states (past_of t.journal.items)
  pub seats_are : t.seats.items ≡ seats t.workers (past_of t.journal.items)
  pub leaves_are : t.leaves.items ≡ leaves (past_of t.journal.items)
  pub tally_is : t.tally ≡ tally (past_of t.journal.items)
  pub few_nodes : nodes (past_of t.journal.items) + 2 * t.spare_events < 2 ^ 32
  pub few_steps : steps (setting_of t) (past_of t.journal.items) + (t.spare_steps + 1) < 2 ^ 32
  pub small : IsSmall t.limits
  pub some_workers : 1 ≤ t.workers
  pub few_workers : t.workers ≤ 8
  pub events_room : vec_len t.journal + (t.spare_events + waiting t.workers (past_of t.journal.items)) ≤ vec_capacity t.journal
  pub branches_room : vec_len t.branches + 2 * t.spare_events ≤ vec_capacity t.branches
  pub states_room : vec_len t.states + 2 * t.spare_events ≤ vec_capacity t.states
  pub leaves_room : vec_len t.leaves + t.spare_events ≤ vec_capacity t.leaves
  pub homes_room : vec_len t.homes + t.spare_steps ≤ vec_capacity t.homes
  pub spots_room : vec_len t.spots + t.spare_steps ≤ vec_capacity t.spots
  pub empties_room : vec_len t.empties + 2 * t.spare_events ≤ vec_capacity t.empties
  pub weights_room : vec_len t.weights + t.spare_steps ≤ vec_capacity t.weights
  pub newest_room : vec_len t.newest + t.spare_steps ≤ vec_capacity t.newest
  pub retired_room : vec_len t.retired + t.spare_events ≤ vec_capacity t.retired
