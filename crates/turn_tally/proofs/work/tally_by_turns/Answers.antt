use Rattle.std.proofs.Common.{◌≤◌, sym, ◌∙◌, subst}
use Rattle.turn_cell.specs.Lists.{HasAllSeats, IsOfSeats}
use Rattle.turn_cell.specs.Seats.{had}
use Rattle.turn_tally.specs.Tallies.{seat_of}
use Rattle.turn_tally.proofs.Counting.{length_whole}
use Rattle.turn_tally.proofs.work.tally_by_turns.Goals as goal

pub end-tally-requires-clause-all : goal.end-tally-requires-clause-all
end-tally-requires-clause-all g c = subst (λ n. HasAllSeats n (had c.work_all-seat.result.seat)) (c.in-Ok.ensures.count ∙ sym c.in-Ok.ensures.cell) c.work_all-seat.ensures.all

pub returns-then-complete-clause-entries : goal.returns-then-complete-clause-entries
returns-then-complete-clause-entries g c = λ k low high.
    let among = c.work_all-seat.ensures.all k low (subst (λ n. k ≤ n) (sym c.in-Ok.ensures.count) high) in
    c.end-tally.ensures.list.1 k among ∙ c.work_all-seat.ensures.done.entries c.if-complete.true k among

pub returns-then-complete-clause-count : goal.returns-then-complete-clause-count
returns-then-complete-clause-count g c =
    length_whole c.args.workers c.args.turns c.end-tally.result.entries (subst (λ n. IsOfSeats seat_of n c.end-tally.result.entries) c.in-Ok.ensures.cell c.end-tally.ensures.ours)
    (λ k low high.
    let among = c.work_all-seat.ensures.all k low (subst (λ n. k ≤ n) (sym c.in-Ok.ensures.count) high) in
    c.end-tally.ensures.list.1 k among ∙ c.work_all-seat.ensures.done.entries c.if-complete.true k among)
