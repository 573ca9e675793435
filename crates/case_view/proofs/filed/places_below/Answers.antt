use Rattle.std.specs.Prelude.{slice_index_or}
use Rattle.std.specs.List.{slice_get}
use Rattle.std.proofs.Common.{◌≡◌, ◌+◌, Some, sym, ap, subst, arith}
use Rattle.std.proofs.lemmas.Option.{slice_get-get_or}
use Rattle.case_view.proofs.FiledSteps.{IsBelow, below_more, below_passed, below_all}
use Rattle.case_view.proofs.filed.places_below.Goals as goal
use Rattle.case_view.proofs.filed.places_below.Goals.{then-places-k+in_ok-push, else-places-k}

pub loop-k-preserved : goal.loop-k-preserved
loop-k-preserved c =
    let places = c.args.places.now in
    let k = c.loop-k.k in
    let count = c.args.count in
    let x = slice_index_or places k 0 in
    let here : slice_get places k ≡ Some x = slice_get-get_or places k 0 (omega (arith, c.loop-k-test.true, c.loop-k.auto.k-end)) in
    elim c.if-places-k.branch [
      | then-places-k+in_ok-push w ↦ subst (λ kept. IsBelow places kept count (k + 1)) (sym (ap (λ v. v.items) w.kept-is)) (below_more places c.loop-k.kept.items w.push.new.self.items count k x here w.in_ok-push.ensures.items (omega (arith, w.if-places-k.true)) c.loop-k.invariant)
      | else-places-k w ↦ subst (λ kept. IsBelow places kept count (k + 1)) (sym (ap (λ v. v.items) w.kept-is)) (below_passed places c.loop-k.kept.items count k x here (omega (arith, w.if-places-k.false)) c.loop-k.invariant)
    ]

pub returns-clause-all : goal.returns-clause-all
returns-clause-all c = λ n at small. below_all c.args.places.now c.loop-k.kept.items c.args.count c.loop-k.k n (omega (arith, c.loop-k-test.false, c.loop-k.auto.k-end)) c.loop-k.invariant at small
