use Rattle.std.proofs.Common.{true≢false, sym, ◌∙◌}
use Rattle.turn_tally.proofs.Merging.{done-joined}
use Rattle.turn_tally.proofs.work.merge.Goals.{then-complete, else-complete}
use Rattle.turn_tally.proofs.work.merge.Goals as goal

pub returns-clause-done : goal.returns-clause-done
returns-clause-done c = λ n da db. done-joined c.args.cell.now n c.args.all.seat c.args.one.seat c.join.new.into c.args.all.complete c.args.one.complete c.if-complete.result
    c.join.ensures.joined c.join.ensures.into c.join.ensures.other
    (elim c.if-complete.branch [ then-complete w ↦ λ e. (w.if-complete.true, sym w.result-is ∙ e) | else-complete w ↦ λ e. absurd (true≢false (sym e ∙ w.result-is ∙ w.if-complete.false)) ])
    da db
