use Rattle.std.specs.Prelude.{slice_index_or}
use Rattle.std.specs.List.{slice_get}
use Rattle.std.proofs.Common.{◌≡◌, ◌+◌, ◌∙◌, Some, sym, ap, subst, arith}
use Rattle.std.proofs.lemmas.Option.{slice_get-get_or}
use Rattle.case_turns.proofs.Desks.{AreWithout, without_more, without_passed, without_all}
use Rattle.case_turns.proofs.desk.without.Goals as goal
use Rattle.case_turns.proofs.desk.without.Goals.{then-not-is_among+in_ok-push, else-not-is_among}

pub loop-k-preserved : goal.loop-k-preserved
loop-k-preserved c =
    let numbers = c.args.numbers.now in
    let others = c.args.others.now in
    let k = c.loop-k.k in
    let x = slice_index_or numbers k 0 in
    let here : slice_get numbers k ≡ Some x = slice_get-get_or numbers k 0 (omega (arith, c.loop-k-test.true)) in
    elim c.if-not-is_among.branch [
      | then-not-is_among+in_ok-push w ↦ subst (λ kept. AreWithout numbers others kept (k + 1)) (sym (ap (λ v. v.items) w.kept-is)) (without_more numbers others c.loop-k.kept.items w.push.new.self.items k x here w.in_ok-push.ensures.items c.loop-k.invariant)
      | else-not-is_among w ↦ subst (λ kept. AreWithout numbers others kept (k + 1)) (sym (ap (λ v. v.items) w.kept-is)) (without_passed numbers others c.loop-k.kept.items k x here (sym c.is_among.ensures ∙ w.if-not-is_among.false) c.loop-k.invariant)
    ]

pub returns-clause-all : goal.returns-clause-all
returns-clause-all c = λ n at free. without_all c.args.numbers.now c.args.others.now c.loop-k.kept.items c.loop-k.k (omega (arith, c.loop-k-test.false)) c.loop-k.invariant n at free
