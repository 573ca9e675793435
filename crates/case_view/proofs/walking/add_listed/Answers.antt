use Rattle.std.proofs.Common.{◌∙◌, ◌++◌, [], ◌∷◌, length, sym, ap, arith}
use Rattle.case_journal.specs.Journal.{lines_of}
use Rattle.case_journal.specs.Facts.{lists}
use Rattle.case_view.specs.Walks.{is_among}
use Rattle.case_view.proofs.ListSteps.{listed_pushed, listed_at_place}
use Rattle.case_view.proofs.walking.add_listed.Goals as goal
use Rattle.case_view.proofs.walking.add_listed.Goals.{then-lists+in_ok-keep+in_ok-push, else-lists}

pub loop-place-preserved : goal.loop-place-preserved
loop-place-preserved c =
    let a = c.args in
    let ev = a.event.now in
    let on = lists ev a.count a.base (is_among a.nodes.now) a.node in
    let k = c.loop-place.place in
    let old = c.loop-place.listed in
    elim c.if-lists.branch [
      | then-lists+in_ok-keep+in_ok-push w ↦
          listed_pushed on a.base (lines_of ev) k w.line.result.now a.listed.now old c.if-lists.listed w.line.ensures (sym c.lists.ensures ∙ w.if-lists.true) c.loop-place.invariant
          (w.listed-is ∙ (w.in_ok-push.ensures.ok ∙ ap (λ x. old ++ x ∷ []) w.in_ok-keep.ensures))
      | else-lists w ↦
          w.listed-is
          ∙ listed_at_place on a.base (lines_of ev) k a.listed.now old (omega (arith, c.loop-place-test.true, ap length c.lines-place-end.ensures)) (sym c.lists.ensures ∙ w.if-lists.false) c.loop-place.invariant
    ]
