use Rattle.std.proofs.Common.{◌≡◌, ◌∙◌, ℕ, ap, sym, subst, length, take, drop, replicate, reverse, Option, None, [], ◌++◌, ◌∷◌, ◌+◌, ◌-◌, List, vec_len, arith, length-append}
use Rattle.std.proofs.lemmas.List.{length-replicate}
use Rattle.case_journal.specs.declared.event.Entry.{Entry}
use Rattle.case_journal.specs.declared.event.Event.{Event}
use Rattle.case_journal.specs.Journal.{nodes, nodes_of, steps, ledger, lines_of, AreSmall}
use Rattle.case_journal.specs.Paths.{leaves, leaves_by}
use Rattle.case_journal.specs.Facts.{chosen}
use Rattle.case_journal.specs.Legal.{IsLegalJournal}
use Rattle.split_tree.specs.Fields.{setting_of}
use Rattle.split_tree.specs.Caches.{past_of, branches_by, homes, homes_by, spots, spots_upto, empties, noted_empties, AreHomes, tally, tally_by, weights, retired, retired_by, pushed, with_retired, newest_upto}
use Rattle.split_tree.proofs.Lists.{rest_slice, length-spots_upto, weights-append, length-weights}
use Rattle.split_tree.proofs.Places.{AddsLines-legal, node_there}
use Rattle.case_journal.specs.PlaceLaws.{steps_more}
use Rattle.case_journal.specs.BoundLaws.{rounds_legal, rounds_bound, splits_legal, splits_bound, counted_legal, counted_bound, splits_nodes}
use Rattle.split_tree.proofs.States.{few_choices, length-states_by}
use Rattle.split_tree.proofs.Picks.{retired_clause, newest_after, small_lines, retired_cost, retired-push}
use Rattle.split_tree.proofs.Empties.{new_homes_low, empties_after}
use Rattle.split_tree.proofs.Past.{past_of-push, length-past_of, branches-push, homes-push, spots-push, states-push, seats-push, length-branches_by, length-homes_by, nodes_cost, waiting_more}
use Rattle.split_tree.proofs.Lens.{newest_len, empties_len, retired_len, branches_len, homes_len, states_len, seats_len}
use Rattle.split_tree.proofs.table.Table.apply.Goals as goal

pub overflow_cast-nodes : goal.overflow_cast-nodes
overflow_cast-nodes c = omega (arith, c.len-nodes.ensures, branches_len c.self.inside c.self.invariant, c.self.invariant.few_nodes)

pub cost-cost-requires-clause-there : goal.cost-cost-requires-clause-there
cost-cost-requires-clause-there c = c.requires.legal.worker

pub add_homes-requires-clause-nodes : goal.add_homes-requires-clause-nodes
add_homes-requires-clause-nodes c =
    let t = c.self.inside in
    let fits = rw (← c.self.view_is) at c.requires.event_fits in
    omega (arith, c.len-nodes.ensures, branches_len t c.self.invariant, c.self.invariant.few_nodes, nodes_cost (past_of t.journal.items) c.args.by c.args.event)

pub overflow_cast-steps : goal.overflow_cast-steps
overflow_cast-steps c = omega (arith, c.len-steps.ensures, homes_len c.self.inside c.self.invariant, c.self.invariant.few_steps)

pub overflow_add-steps : goal.overflow_add-steps
overflow_add-steps c = omega (arith, c.len-steps.ensures, homes_len c.self.inside c.self.invariant, c.self.invariant.few_steps)

-- the homes that are added, as they are read
added : (old new : List (Option ℕ)) (ev : Event) (n m count : ℕ) (read : List (Option ℕ)) → n ≡ length old → m ≡ count → new ≡ old ++ homes_by ev m → read ≡ new → take (length read - n) (drop n read) ≡ homes_by ev count
added old new ev n m count read at is add same =
    let all = same ∙ add in
    ap (λ k. take (length read - k) (drop k read)) at
    ∙ (ap (λ xs. take (length xs - length old) (drop (length old) xs)) all
    ∙ (rest_slice old (homes_by ev m) ∙ ap (homes_by ev) is))

pub note_empties-requires-clause-each : goal.note_empties-requires-clause-each
note_empties-requires-clause-each c =
    let t = c.self.inside in
    let p = past_of t.journal.items in
    let legal = rw (← c.self.view_is) at c.requires.legal in
    let is = added t.homes.items c.add_homes.new.homes.items c.args.event c.len-steps.result c.len-nodes.result (nodes p) c.deref.result.now (omega (arith, c.len-steps.ensures, t.homes.ok.0)) (omega (arith, c.len-nodes.ensures, branches_len t c.self.invariant)) c.add_homes.ensures.items c.deref.ensures.value in
    ap length is ∙ (length-homes_by c.args.event (nodes p) (AddsLines-legal (setting_of t) p c.args.by c.args.event legal.asked) ∙ sym (ap length c.lines.ensures))

pub note_empties-requires-clause-few : goal.note_empties-requires-clause-few
note_empties-requires-clause-few c =
    let fits = rw (← c.self.view_is) at c.requires.steps_fit in
    omega (arith, c.len-steps.ensures, homes_len c.self.inside c.self.invariant, c.self.invariant.few_steps, ap length c.lines.ensures)

pub note_empties-requires-clause-there : goal.note_empties-requires-clause-there
note_empties-requires-clause-there c =
    let t = c.self.inside in
    let p = past_of t.journal.items in
    let ev = c.args.event in
    let legal = rw (← c.self.view_is) at c.requires.legal in
    let is = added t.homes.items c.add_homes.new.homes.items ev c.len-steps.result c.len-nodes.result (nodes p) c.deref.result.now (omega (arith, c.len-steps.ensures, t.homes.ok.0)) (omega (arith, c.len-nodes.ensures, branches_len t c.self.invariant)) c.add_homes.ensures.items c.deref.ensures.value in
    let none : List (Option ℕ) = replicate c.nodes_of.result None in
    let long : vec_len c.add_copies.new.items ≡ nodes p + nodes_of ev =
    omega (arith, c.add_copies.new.items.ok.0, ap length c.add_copies.ensures.items, length-append t.empties.items none, length-replicate {A = Option ℕ} c.nodes_of.result None, c.nodes_of.ensures, t.empties.ok.0, empties_len t c.self.invariant) in
    subst (AreHomes (vec_len c.add_copies.new.items)) (sym is) (subst (λ n. AreHomes n (homes_by ev (nodes p))) (sym long) (new_homes_low (setting_of t) p c.self.invariant.legal c.args.by ev legal.asked))

pub retires-retired-requires-clause-node : goal.retires-retired-requires-clause-node
retires-retired-requires-clause-node c =
    let t = c.self.inside in
    let legal = rw (← c.self.view_is) at c.requires.legal in
    rw (← c.self.view_is) (node_there (setting_of t) (past_of t.journal.items) c.self.invariant.legal c.args.by c.args.event legal.asked)

pub retires-retired-requires-clause-clause : goal.retires-retired-requires-clause-clause
retires-retired-requires-clause-clause c =
    let t = c.self.inside in
    let p = past_of t.journal.items in
    let legal = rw (← c.self.view_is) at c.requires.legal in
    rw (← c.self.view_is) (retired_clause (setting_of t) p c.self.invariant.legal c.args.by c.args.event (retired p) legal.asked)

pub add_weights-requires-clause-small : goal.add_weights-requires-clause-small
add_weights-requires-clause-small c =
    let t = c.self.inside in
    let legal = rw (← c.self.view_is) at c.requires.legal in
    subst AreSmall (sym c.lines-2.ensures) (small_lines (setting_of t) (past_of t.journal.items) c.args.by c.args.event legal.asked)

pub note_newest-requires : goal.note_newest-requires
note_newest-requires c =
    let t = c.self.inside in
    let p = past_of t.journal.items in
    let legal = rw (← c.self.view_is) at c.requires.legal in
    let is = rw (← c.self.view_is) at c.retires-retired.ensures in
    rw (is, newest_len t c.self.invariant) (retired_clause (setting_of t) p c.self.invariant.legal c.args.by c.args.event (retired p) legal.asked)

pub add_retired-requires : goal.add_retired-requires
add_retired-requires c =
    let t = c.self.inside in
    let p = past_of t.journal.items in
    let fits = rw (← c.self.view_is) at c.requires.event_fits in
    let is = rw (← c.self.view_is) at c.retires-retired.ensures in
    rw is (omega (arith, fits, c.self.invariant.retired_room, retired_cost p c.args.by c.args.event (chosen p) (retired p)))

pub note_node-requires-clause-there : goal.note_node-requires-clause-there
note_node-requires-clause-there c =
    let t = c.self.inside in
    let legal = rw (← c.self.view_is) at c.requires.legal in
    rw (states_len t c.self.invariant) (node_there (setting_of t) (past_of t.journal.items) c.self.invariant.legal c.args.by c.args.event legal.asked)

pub note_node-requires-clause-few : goal.note_node-requires-clause-few
note_node-requires-clause-few c =
    let t = c.self.inside in
    rw c.self.invariant.states_are (few_choices (setting_of t) (past_of t.journal.items) c.self.invariant.legal c.self.invariant.small.rounds)

pub note_leaves-requires-clause-few : goal.note_leaves-requires-clause-few
note_leaves-requires-clause-few c =
    let t = c.self.inside in
    let fits = rw (← c.self.view_is) at c.requires.event_fits in
    omega (arith, c.len-nodes.ensures, branches_len t c.self.invariant, c.self.invariant.few_nodes, nodes_cost (past_of t.journal.items) c.args.by c.args.event)

pub note_seat-requires-clause-there : goal.note_seat-requires-clause-there
note_seat-requires-clause-there c =
    let legal = rw (← c.self.view_is) at c.requires.legal in
    omega (arith, seats_len c.self.inside c.self.invariant, legal.worker)

pub after-self-inside-requires-clause-counted : goal.after-self-inside-requires-clause-counted
after-self-inside-requires-clause-counted c =
    let t = c.self.inside in
    let p = past_of t.journal.items in
    let s = setting_of t in
    let legal = rw (← c.self.view_is) at c.requires.legal in
    omega (arith, ap (λ x. x.counted) c.self.invariant.tally_is, counted_legal s p c.args.by c.args.event legal.asked (counted_bound s p c.self.invariant.legal), c.self.invariant.small.steps)

pub after-self-inside-requires-clause-rounds : goal.after-self-inside-requires-clause-rounds
after-self-inside-requires-clause-rounds c =
    let t = c.self.inside in
    let p = past_of t.journal.items in
    let s = setting_of t in
    let legal = rw (← c.self.view_is) at c.requires.legal in
    omega (arith, ap (λ x. x.rounds) c.self.invariant.tally_is, rounds_legal s p c.args.by c.args.event legal.asked (rounds_bound s p c.self.invariant.legal), c.self.invariant.small.rounds)

pub after-self-inside-requires-clause-splits : goal.after-self-inside-requires-clause-splits
after-self-inside-requires-clause-splits c =
    let t = c.self.inside in
    let p = past_of t.journal.items in
    let s = setting_of t in
    let legal = rw (← c.self.view_is) at c.requires.legal in
    omega (arith, ap (λ x. x.splits) c.self.invariant.tally_is, splits_legal s p c.args.by c.args.event legal.asked (splits_bound s p c.self.invariant.legal), c.self.invariant.small.splits)

pub push_reserved-requires : goal.push_reserved-requires
push_reserved-requires c =
    let t = c.self.inside in
    let fits = rw (← c.self.view_is) at c.requires.event_fits in
    let legal = rw (← c.self.view_is) at c.requires.legal in
    omega (arith, waiting_more (past_of t.journal.items) (record { by = c.args.by; event = c.args.event }) t.workers legal.some legal.worker, c.self.invariant.events_room)

pub returns-clause-past : goal.returns-clause-past
returns-clause-past c = rw (c.push_reserved.ensures.items, past_of-push, ← c.self.view_is)

pub invariant_of-self : goal.invariant_of-self
invariant_of-self c =
    let t = c.self.inside in
    let i = c.self.invariant in
    let p = past_of t.journal.items in
    let s = setting_of t in
    let ev = c.args.event in
    let e : Entry = record { by = c.args.by; event = ev } in
    let legal = rw (← c.self.view_is) at c.requires.legal in
    let fits = rw (← c.self.view_is) at c.requires.event_fits in
    let steps_fit = rw (← c.self.view_is) at c.requires.steps_fit in
    let after : IsLegalJournal s (e ∷ p) = (legal, i.legal) in
    let is_past : past_of c.push_reserved.new.self.items ≡ e ∷ p = rw (c.push_reserved.ensures.items, past_of-push) in
    let cost_is = rw (← c.self.view_is) at c.cost-cost.ensures in
    let lines_are = c.lines-lines.ensures in
    let count : c.len-nodes.result ≡ nodes p = omega (arith, c.len-nodes.ensures, branches_len t i) in
    let retires = rw (← c.self.view_is) at c.retires-retired.ensures in
    let first : c.len-steps.result + 1 ≡ 1 + steps s p = omega (arith, c.len-steps.ensures, homes_len t i) in
    let homes_read = added t.homes.items c.add_homes.new.homes.items ev c.len-steps.result c.len-nodes.result (nodes p) c.deref.result.now (omega (arith, c.len-steps.ensures, t.homes.ok.0)) count c.add_homes.ensures.items c.deref.ensures.value in
    let at : c.len.result ≡ length p = omega (arith, length-past_of t.journal.items, c.len.ensures, t.journal.ok.0) in
    let last = newest_upto (steps s p) (retired p) in
    let records : c.len-2.result ≡ length (retired p) = omega (arith, c.len-2.ensures, retired_len t i) in
    record {
      legal = rw is_past after;
      opening_is = i.opening_is;
      small_input = i.small_input;
      weights_are = c.add_weights.ensures.items ∙ (ap (λ xs. xs ++ weights c.lines-2.result.now) i.weights_are ∙ (ap (λ ls. weights (ledger s p) ++ weights ls) c.lines-2.ensures ∙ (sym (weights-append (ledger s p) (lines_of ev)) ∙ ap (λ q. weights (ledger s q)) (sym is_past))));
      retired_are = c.add_retired.ensures.items ∙ (ap (λ xs. pushed xs c.retires-retired.result) i.retired_are ∙ (ap (pushed (reverse (retired p))) retires ∙ (sym (retired-push e p) ∙ ap (λ q. reverse (retired q)) (sym is_past))));
      newest_are =
          c.add_copies-2.ensures.items
          ∙ (ap (λ xs. xs ++ replicate {A = Option ℕ} (length c.lines-lines.result.now) None) (c.note_newest.ensures.items ∙ (ap (with_retired c.retires-retired.result c.len-2.result) i.newest_are ∙ ap (λ o. with_retired o c.len-2.result last) retires))
          ∙ (ap (λ k. with_retired (retired_by ev (chosen p) (retired p)) k last ++ replicate {A = Option ℕ} (length c.lines-lines.result.now) None) records
          ∙ (ap (λ m. with_retired (retired_by ev (chosen p) (retired p)) (length (retired p)) last ++ replicate {A = Option ℕ} m None) (ap length lines_are)
          ∙ (newest_after s p i.legal e legal.asked ∙ ap (λ q. newest_upto (steps s q) (retired q)) (sym is_past)))));
      weights_room = omega (arith, c.add_weights.new.list.ok.0, ap length c.add_weights.ensures.items, length-append t.weights.items (weights c.lines-2.result.now), length-weights c.lines-2.result.now, t.weights.ok.0, i.weights_room, c.add_weights.ensures.capacity, ap length lines_are, ap length c.lines-2.ensures);
      newest_room = omega (arith, c.add_copies-2.new.items.ok.0, ap length c.add_copies-2.ensures.items, length-append c.note_newest.new.newest.items (replicate {A = Option ℕ} (length c.lines-lines.result.now) None), length-replicate {A = Option ℕ} (length c.lines-lines.result.now) None, c.note_newest.new.newest.ok.0, c.note_newest.ensures.len, c.note_newest.ensures.capacity, t.newest.ok.0, i.newest_room, c.add_copies-2.ensures.capacity, ap length lines_are);
      retired_room = omega (arith, c.add_retired.ensures.len, ap (λ o. length (pushed [] o)) retires, retired_cost p c.args.by ev (chosen p) (retired p), cost_is, i.retired_room, c.add_retired.ensures.capacity);
      refuted_is = i.refuted_is;
      branches_are = rw (is_past, branches-push, c.add_branches.ensures.items, i.branches_are);
      homes_are = rw (is_past, homes-push, c.add_homes.ensures.items, i.homes_are) (ap (λ n. homes s p ++ homes_by ev n) count);
      spots_are = rw (is_past, spots-push, c.add_spots.ensures.items, i.spots_are) (ap (λ n. spots p ++ spots_upto n (length c.lines-lines.result.now)) at ∙ ap (λ n. spots p ++ spots_upto (length p) n) (ap length lines_are));
      empties_are =
          c.note_empties.ensures.items
          ∙ (ap (λ hs. noted_empties hs c.lines.result.now (c.len-steps.result + 1) c.add_copies.new.items.items) homes_read
          ∙ (ap (λ ls. noted_empties (homes_by ev (nodes p)) ls (c.len-steps.result + 1) c.add_copies.new.items.items) c.lines.ensures
          ∙ (ap (λ n. noted_empties (homes_by ev (nodes p)) (lines_of ev) n c.add_copies.new.items.items) first
          ∙ (ap (noted_empties (homes_by ev (nodes p)) (lines_of ev) (1 + steps s p)) (c.add_copies.ensures.items ∙ (ap (λ xs. xs ++ replicate c.nodes_of.result None) i.empties_are ∙ ap (λ n. empties (nodes p) (homes s p) (ledger s p) ++ replicate {A = Option ℕ} n None) c.nodes_of.ensures))
          ∙ (empties_after s p i.legal e legal.asked ∙ ap (λ q. empties (nodes q) (homes s q) (ledger s q)) (sym is_past))))));
      states_are = rw (is_past, states-push, c.note_node.ensures.items, i.states_are);
      seats_are = rw (is_past, seats-push, c.note_seat.ensures, i.seats_are);
      leaves_are = c.note_leaves.ensures.items ∙ (ap (leaves_by ev c.len-nodes.result) i.leaves_are ∙ (ap (λ n. leaves_by ev n (leaves p)) count ∙ ap leaves (sym is_past)));
      tally_is = c.after-self-inside.ensures ∙ (ap (tally_by ev) i.tally_is ∙ ap tally (sym is_past));
      few_nodes = rw is_past (omega (arith, i.few_nodes, cost_is, nodes_cost p c.args.by ev));
      few_steps = rw is_past (omega (arith, i.few_steps, steps_more s p e, ap length lines_are));
      small = i.small;
      some_workers = i.some_workers;
      few_workers = i.few_workers;
      events_room = rw is_past (omega (arith, c.push_reserved.ensures.len, c.push_reserved.ensures.capacity, i.events_room, waiting_more p e t.workers legal.some legal.worker, cost_is));
      branches_room = omega (arith, c.add_branches.new.branches.ok.0, ap length c.add_branches.ensures.items, length-append t.branches.items (branches_by ev), length-branches_by ev, nodes_cost p c.args.by ev, cost_is, t.branches.ok.0, i.branches_room, c.add_branches.ensures.capacity);
      states_room = omega (arith, c.note_node.new.states.ok.0, ap length c.note_node.ensures.items, length-states_by ev t.states.items, nodes_cost p c.args.by ev, cost_is, t.states.ok.0, i.states_room, c.note_node.ensures.capacity);
      leaves_room = omega (arith, c.note_leaves.ensures.len, splits_nodes ev, nodes_cost p c.args.by ev, cost_is, i.leaves_room, c.note_leaves.ensures.capacity);
      homes_room = omega (arith, c.add_homes.new.homes.ok.0, ap length c.add_homes.ensures.items, length-append t.homes.items (homes_by ev c.len-nodes.result), length-homes_by ev c.len-nodes.result (AddsLines-legal s p c.args.by ev legal.asked), t.homes.ok.0, i.homes_room, c.add_homes.ensures.capacity, ap length lines_are);
      spots_room = omega (arith, c.add_spots.new.spots.ok.0, ap length c.add_spots.ensures.items, length-append t.spots.items (spots_upto c.len.result (length c.lines-lines.result.now)), length-spots_upto c.len.result (length c.lines-lines.result.now), t.spots.ok.0, i.spots_room, c.add_spots.ensures.capacity, ap length lines_are);
      empties_room = omega (arith, c.note_empties.ensures.len, c.note_empties.ensures.capacity, c.add_copies.new.items.ok.0, ap length c.add_copies.ensures.items, length-append t.empties.items (replicate {A = Option ℕ} c.nodes_of.result None), length-replicate {A = Option ℕ} c.nodes_of.result None, c.nodes_of.ensures, nodes_cost p c.args.by ev, cost_is, t.empties.ok.0, i.empties_room, c.add_copies.ensures.capacity);
    }
