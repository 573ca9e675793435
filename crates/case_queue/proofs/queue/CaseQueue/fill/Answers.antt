use Rattle.std.proofs.Common.{◌≡◌, Some}
use Rattle.std.specs.Prelude.{slice_index_or}
use Rattle.std.specs.List.{slice_get}
use Rattle.std.proofs.lemmas.Option.{slice_get-get_or}
use Rattle.case_queue.proofs.Holding.{these_puts, these_all}
use Rattle.case_queue.proofs.queue.CaseQueue.fill.Goals as goal

pub loop-k-preserved : goal.loop-k-preserved
loop-k-preserved c = λ m.
    let t = c.args.table.now in
    let numbers = c.args.numbers.now in
    let k = c.loop-k.k in
    let here : slice_get numbers k ≡ Some (slice_index_or numbers k 0) = slice_get-get_or numbers k 0 c.loop-k-test.true in
    these_puts t.setting t.past m numbers k (slice_index_or numbers k 0) c.loop-k.self c.put.new.self here (c.requires k (slice_index_or numbers k 0) here).0 (c.loop-k.invariant m) c.in_ok-put.ensures

pub returns : goal.returns
returns c = record { queue = λ m all. these_all c.args.table.now.setting c.args.table.now.past m c.args.numbers.now c.loop-k.k c.loop-k.self c.loop-k-test.false all (c.loop-k.invariant m) }
