use Rattle.std.proofs.Common.{◌≡◌, ◌+◌, [], ◌∷◌, vec_len, ap, ◌∙◌, arith}
use Rattle.turn_cell.specs.Seats.{new_seat, had}
use Rattle.turn_tally.proofs.Rows.{last_of, all_more}
use Rattle.turn_tally.proofs.work.+fn-work_all-join+arg2+work_all.Goals as goal

pub returns-clause-all : goal.returns-clause-all
returns-clause-all g t c =
    let left = c.pop.new.self in
    let last = last_of c.args.seats.items left.items c.in-Some.last (vec_len left) (λ k s. s ≡ new_seat c.args.cell.now (k + 1) c.args.turns) c.in-Some.ensures.items left.ok.0 c.requires.each in
    let more : vec_len c.args.seats ≡ vec_len left + 1 = (let is : left.len + 1 ≡ c.args.seats.len = c.in-Some.ensures.len in omega arith) in
    all_more (vec_len c.args.seats) (vec_len left) (had c.join-all.result.0.seat) (had c.join-all.result.1.seat) (had c.merge.result.seat) more
    c.merge.ensures.numbers
    c.join-all.ensures.first.1
    (c.join-all.ensures.second.1 ∙ ap (λ s. s.number ∷ []) last)
