use Rattle.std.proofs.Common.{arith}
use Rattle.split_tree.specs.Caches.{past_of}
use Rattle.split_tree.proofs.Past.{waiting_few}
use Rattle.split_tree.proofs.Lens.{branches_len, homes_len}
use Rattle.split_tree.proofs.table.Table.reserve.Goals as goal

pub invariant_of-self-2 : goal.invariant_of-self-2
invariant_of-self-2 c =
    let t = c.self.inside in
    let i = c.self.invariant in
    record {
      legal = rw c.reserve.ensures.items i.legal;
      opening_is = i.opening_is;
      small_input = i.small_input;
      refuted_is = i.refuted_is;
      branches_are = rw (c.reserve.ensures.items, c.reserve-2.ensures.items) i.branches_are;
      homes_are = rw (c.reserve.ensures.items, c.reserve-5.ensures.items) i.homes_are;
      spots_are = rw (c.reserve.ensures.items, c.reserve-6.ensures.items) i.spots_are;
      empties_are = rw (c.reserve.ensures.items, c.reserve-7.ensures.items) i.empties_are;
      weights_are = rw (c.reserve.ensures.items, c.reserve-8.ensures.items) i.weights_are;
      retired_are = rw (c.reserve.ensures.items, c.reserve-10.ensures.items) i.retired_are;
      newest_are = rw (c.reserve.ensures.items, c.reserve-9.ensures.items) i.newest_are;
      states_are = rw (c.reserve.ensures.items, c.reserve-3.ensures.items) i.states_are;
      seats_are = rw c.reserve.ensures.items i.seats_are;
      leaves_are = rw (c.reserve.ensures.items, c.reserve-4.ensures.items) i.leaves_are;
      tally_is = rw c.reserve.ensures.items i.tally_is;
      few_nodes = rw c.reserve.ensures.items (omega (arith, branches_len t i, c.len.ensures, c.if-len-events.false));
      few_steps = rw c.reserve.ensures.items (omega (arith, homes_len t i, c.len-2.ensures, c.if-len-steps.false));
      small = i.small;
      some_workers = i.some_workers;
      few_workers = i.few_workers;
      events_room = rw c.reserve.ensures.items (omega (arith, waiting_few t.workers (past_of t.journal.items), i.few_workers, c.reserve.ensures.len, c.in_ok-reserve.ensures.ok));
      branches_room = omega (arith, c.reserve-2.ensures.len, c.in_ok-reserve-2.ensures.ok);
      states_room = omega (arith, c.reserve-3.ensures.len, c.in_ok-reserve-3.ensures.ok);
      leaves_room = omega (arith, c.reserve-4.ensures.len, c.in_ok-reserve-4.ensures.ok);
      homes_room = omega (arith, c.reserve-5.ensures.len, c.in_ok-reserve-5.ensures.ok);
      spots_room = omega (arith, c.reserve-6.ensures.len, c.in_ok-reserve-6.ensures.ok);
      empties_room = omega (arith, c.reserve-7.ensures.len, c.in_ok-reserve-7.ensures.ok);
      weights_room = omega (arith, c.reserve-8.ensures.len, c.in_ok-reserve-8.ensures.ok);
      newest_room = omega (arith, c.reserve-9.ensures.len, c.in_ok-reserve-9.ensures.ok);
      retired_room = omega (arith, c.reserve-10.ensures.len, c.in_ok-reserve-10.ensures.ok);
    }
