use Rattle.std.specs.List.{slice_get}
use Rattle.std.proofs.Common.{◌≡◌, Some, get_or, arith}
use Rattle.std.proofs.lemmas.Option.{slice_get-get_or, slice_get_within}
use Rattle.case_view.proofs.FiledSteps.{under_more}
use Rattle.case_view.proofs.filed.file_under_all.Goals as goal

pub loop-place-preserved : goal.loop-place-preserved
loop-place-preserved c =
    let list = c.args.clauses.now in
    let place = c.loop-place.place in
    let read = c.index-clauses-place.result in
    let here : slice_get list place ≡ Some (get_or list place read) = slice_get-get_or list place read (omega (arith, c.loop-place-test.true)) in
    under_more list c.loop-place.filing c.file_under_all.new.self place (get_or list place read) c.file_under_all.ensures.keeps here c.in_ok-file_under_all.ensures.filed c.loop-place.invariant

pub returns : goal.returns
returns c = λ i k at. c.loop-place.invariant i k (omega (arith, slice_get_within c.args.clauses.now i k at, c.loop-place-test.false)) at
