use Rattle.std.proofs.Common.{◌≡◌, ℕ, suc, ◌+◌, ◌-◌, ◌<◌, ◌≤◌, Some, length, sym, ap, ◌∙◌, subst, arith}
use Rattle.std.specs.Prelude.{slice_get, vec_len, vec_capacity}
use Rattle.turn_cell.specs.Seats.{new_seat}
use Rattle.turn_cell.specs.Rule.{Row, dealing, cell_of}
use Rattle.turn_cell.proofs.Rows.{get_first, rows_more, row_later}
use Rattle.turn_cell.proofs.cell.deal_all.Goals as goal

pub deal-next-requires-clause-first : goal.deal-next-requires-clause-first
deal-next-requires-clause-first g c =
    let all = c.loop-number.all in
    let n : all.len ≡ c.loop-number.number = c.loop-number.invariant.0 in
    let at = c.loop-number.auto.number in
    let x = c.requires.first.0 in
    let here = get_first all.items c.index_mut.result.now (let k : all.len ≡ length all.items = all.ok.0 in omega arith) c.index_mut.ensures.value in
    let one : c.from.result ≡ c.loop-number.number = c.from.ensures in
    let two : c.from-in-loop-number.result ≡ c.args.seats - c.loop-number.number - 1 = c.from-in-loop-number.ensures in
    let test : c.loop-number.number < c.args.seats = c.loop-number-test.true in
    let left : c.args.seats - c.loop-number.number ≡ c.from-in-loop-number.result + 1 = omega arith in
    (x, c.loop-number.invariant.2 x c.requires.first.1 0 c.index_mut.result.now here ∙ ap (λ (p : ℕ × ℕ). dealing (cell_of c.args.words.now.table_id c.args.words.now.key.seats) x (p.0 + 1) p.1) (λ i. (sym one i, left i)))

pub loop-number-preserved : goal.loop-number-preserved
loop-number-preserved g c =
    let all = c.loop-number.all in
    let n : all.len ≡ c.loop-number.number = c.loop-number.invariant.0 in
    let at : 1 ≤ c.loop-number.number = c.loop-number.auto.number in
    let len : all.len ≡ length all.items = all.ok.0 in
    let here = get_first all.items c.index_mut.result.now (omega arith) c.index_mut.ensures.value in
    let one : c.from.result ≡ c.loop-number.number = c.from.ensures in
    let two : c.from-in-loop-number.result ≡ c.args.seats - c.loop-number.number - 1 = c.from-in-loop-number.ensures in
    let test : c.loop-number.number < c.args.seats = c.loop-number-test.true in
    let left : c.args.seats - c.loop-number.number ≡ c.from-in-loop-number.result + 1 = omega arith in
    let next : c.from-in-loop-number.result ≡ c.args.seats - (c.loop-number.number + 1) = omega arith in
    let pushed = c.push_reserved.ensures in
    let id = cell_of c.args.words.now.table_id c.args.words.now.key.seats in (
      (let q : vec_len c.push_reserved.new.self ≡ all.len + 1 = pushed.len in omega arith),
      (let q : vec_capacity c.push_reserved.new.self ≡ all.cap = pushed.capacity in let r : c.args.seats ≤ all.cap = c.loop-number.invariant.1 in omega arith),
      λ x first k s e.
          let row = c.loop-number.invariant.2 x first 0 c.index_mut.result.now here in
          let d = c.deal-next.ensures.first x (row ∙ ap (λ (p : ℕ × ℕ). dealing id x (p.0 + 1) p.1) (λ i. (sym one i, left i))) in
          rows_more (λ j z. Row id x (c.loop-number.number + 1) (c.args.seats - (c.loop-number.number + 1)) j z) all.items c.deal-next.new.first c.deal-next.result (omega arith)
          (d.0 ∙ ap (λ (p : ℕ × ℕ). dealing id x (p.0 + 1 + 1) p.1) (λ i. (one i, next i)))
          (row_later id x (c.loop-number.number + 1) (c.args.seats - (c.loop-number.number + 1)) (length all.items) c.deal-next.result (omega arith) (d.1 ∙ ap (λ j. new_seat id (j + 1) x) (let j : c.from.result ≡ length all.items = omega arith in j)))
          (λ j z f. c.loop-number.invariant.2 x first (suc j) z f)
          k s (subst (λ l. slice_get l k ≡ Some s) pushed.items e),
    )

pub returns-clause-each : goal.returns-clause-each
returns-clause-each g c = λ x first k s e.
    let test : c.args.seats ≤ c.loop-number.number = c.loop-number-test.false in
    let end = c.loop-number.auto.number-end in
    let some : 0 < c.args.seats = c.requires.some in
    let same : c.loop-number.number ≡ c.args.seats = (let q = end (omega arith) in omega arith) in
    let none : c.args.seats - c.args.seats ≡ 0 = omega arith in
    subst (λ m. Row (cell_of c.args.words.now.table_id c.args.words.now.key.seats) x c.args.seats m k s) none
    (subst (λ n. Row (cell_of c.args.words.now.table_id c.args.words.now.key.seats) x n (c.args.seats - n) k s) same (c.loop-number.invariant.2 x first k s e))
