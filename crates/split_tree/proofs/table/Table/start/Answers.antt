use Rattle.std.proofs.Common.{◌∙◌, ◌∷◌, [], ap, sym, subst, arith, length, Option, None, Some, ℕ, replicate}
use Rattle.std.proofs.lemmas.List.{length-replicate}
use Rattle.case_journal.specs.Journal.{input_lines, AreSmall}
use Rattle.case_journal.specs.Ending.{has_empty}
use Rattle.split_tree.specs.Caches.{branches, homes, spots, empties, weights, retired, states, AreHomes}
use Rattle.case_journal.specs.ListLaws.{length-input_lines}
use Rattle.split_tree.proofs.Lists.{newest_none}
use Rattle.split_tree.proofs.Empties.{root_homes}
use Rattle.split_tree.proofs.Past.{past_of-nil, waiting_start}
use Rattle.split_tree.proofs.table.Table.start.Goals as goal

pub new_weights-requires : goal.new_weights-requires
new_weights-requires c = subst AreSmall (sym c.as_slice.ensures) c.in_ok-opening.ensures.small

pub new_empties-requires-clause-each : goal.new_empties-requires-clause-each
new_empties-requires-clause-each c =
    ap length (c.deref.ensures.value ∙ c.in_ok-homes.ensures.items) ∙ (length-replicate {A = Option ℕ} (length c.args.input.now) (Some 0) ∙ (sym (length-input_lines 1 c.args.input.now) ∙ sym (ap length (c.as_slice-2.ensures ∙ c.in_ok-opening.ensures.is))))

pub new_empties-requires-clause-few : goal.new_empties-requires-clause-few
new_empties-requires-clause-few c = omega (arith, ap length c.as_slice-2.ensures, ap length c.in_ok-opening.ensures.is, length-input_lines 1 c.args.input.now, c.requires.few_clauses)

pub new_empties-requires-clause-root : goal.new_empties-requires-clause-root
new_empties-requires-clause-root c = subst (AreHomes 1) (sym (c.deref.ensures.value ∙ c.in_ok-homes.ensures.items)) (root_homes (length c.args.input.now))

pub returns-clause-past : goal.returns-clause-past
returns-clause-past c = rw (c.in_ok-journal.ensures.items, past_of-nil)

pub invariant_of-result : goal.invariant_of-result
unfolding branches homes spots states retired
invariant_of-result c =
    let same = c.in_ok-copies.ensures in
    record {
      legal = rw (c.in_ok-journal.ensures.items, past_of-nil) tt;
      opening_is = c.in_ok-opening.ensures.is ∙ ap (input_lines 1) (sym same);
      small_input = subst AreSmall (c.in_ok-opening.ensures.is ∙ ap (input_lines 1) (sym same)) c.in_ok-opening.ensures.small;
      weights_are = rw (c.in_ok-journal.ensures.items, past_of-nil) (c.in_ok-weights.ensures.items ∙ (ap weights (c.as_slice.ensures ∙ c.in_ok-opening.ensures.is) ∙ ap (λ cs. weights (input_lines 1 cs)) (sym same)));
      retired_are = rw (c.in_ok-journal.ensures.items, past_of-nil) c.new-2.ensures.items;
      newest_are = rw (c.in_ok-journal.ensures.items, past_of-nil) (c.in_ok-newest.ensures.items ∙ (ap (λ m. replicate {A = Option ℕ} m None) (omega (arith, ap length same, length-input_lines 1 c.in_ok-copies.field-0)) ∙ sym (newest_none (length (input_lines 1 c.in_ok-copies.field-0)))));
      weights_room = omega (arith, c.in_ok-weights.weights.ok.1);
      newest_room = omega (arith, c.in_ok-newest.newest.ok.1);
      retired_room = omega (arith, c.new-2.result.ok.1);
      refuted_is = c.has_empty.ensures ∙ ap has_empty (sym same);
      branches_are = rw (c.in_ok-journal.ensures.items, past_of-nil) c.in_ok-branches.ensures.items;
      homes_are = rw (c.in_ok-journal.ensures.items, past_of-nil) (c.in_ok-homes.ensures.items ∙ ap (λ cs. replicate {A = Option ℕ} (length cs) (Some 0)) (sym same));
      spots_are = rw (c.in_ok-journal.ensures.items, past_of-nil) c.new.ensures.items;
      empties_are = rw (c.in_ok-journal.ensures.items, past_of-nil)
          (c.in_ok-empties.ensures.items
          ∙ (ap (λ hs. empties 1 hs c.as_slice-2.result.now) (c.deref.ensures.value ∙ c.in_ok-homes.ensures.items)
          ∙ (ap (empties 1 (replicate (length c.args.input.now) (Some 0))) (c.as_slice-2.ensures ∙ c.in_ok-opening.ensures.is)
          ∙ ap (λ cs. empties 1 (replicate {A = Option ℕ} (length cs) (Some 0)) (input_lines 1 cs)) (sym same))));
      states_are = rw (c.in_ok-journal.ensures.items, past_of-nil) (c.in_ok-states.ensures.items ∙ ap (λ x. x ∷ []) c.new_state.ensures);
      seats_are = rw (c.in_ok-journal.ensures.items, past_of-nil) c.in_ok-seats.ensures;
      leaves_are = rw (c.in_ok-journal.ensures.items, past_of-nil) c.in_ok-leaves.ensures.items;
      tally_is = rw (c.in_ok-journal.ensures.items, past_of-nil);
      few_nodes = rw (c.in_ok-journal.ensures.items, past_of-nil) (omega arith);
      few_steps = rw (c.in_ok-journal.ensures.items, past_of-nil) (omega (arith, ap length same, length-input_lines 1 c.in_ok-copies.field-0, c.requires.few_clauses));
      small = c.fit.ensures;
      some_workers = c.requires.some_workers;
      few_workers = c.requires.few_workers;
      events_room = rw (c.in_ok-journal.ensures.items, past_of-nil) (omega (arith, c.in_ok-journal.ensures.len, c.in_ok-journal.ensures.exact, waiting_start c.args.workers));
      branches_room = omega (arith, c.in_ok-branches.branches.ok.1);
      states_room = omega (arith, c.in_ok-states.states.ok.1);
      leaves_room = omega (arith, c.in_ok-leaves.leaves.ok.1);
      homes_room = omega (arith, c.in_ok-homes.homes.ok.1);
      spots_room = omega (arith, c.new.result.ok.1);
      empties_room = omega (arith, c.in_ok-empties.empties.ok.1);
    }
