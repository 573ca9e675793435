use Rattle.std.proofs.Common.{◌+◌, fold, take, drop, arith, ◌∙◌}
use Rattle.spl_terms.specs.Clauses.{added}
use Rattle.spl_terms.proofs.ListLemmas.{repeated_stays, other_kept}
use Rattle.spl_terms.proofs.number.move_distinct.Goals as goal
use Rattle.spl_terms.proofs.number.move_distinct.Goals.{then-not-is_repeat, else-not-is_repeat}

pub loop-i-preserved : goal.loop-i-preserved
loop-i-preserved c =
    elim c.if-not-is_repeat.branch [
      | then-not-is_repeat w ↦ record {
        within = omega arith;
        length = omega arith;
        kept =
            (let p = w.atoms-is ∙ w.swap.ensures.after in λ j. fold added (take (w.kept-is j) (p j)) (drop (c.loop-i.i + 1) (p j)))
            ∙ other_kept c.loop-i.atoms _ c.loop-i.kept c.loop-i.i c.is_repeat.result (omega arith) (omega arith) c.is_repeat.ensures w.if-not-is_repeat.true c.loop-i.invariant.kept;
      }
      | else-not-is_repeat w ↦ record {
        within = omega arith;
        length = omega arith;
        kept =
            (λ j. fold added (take (w.kept-is j) (w.atoms-is j)) (drop (c.loop-i.i + 1) (w.atoms-is j)))
            ∙ repeated_stays c.loop-i.atoms _ c.loop-i.kept c.loop-i.i c.is_repeat.result (omega arith) c.is_repeat.ensures w.if-not-is_repeat.false c.loop-i.invariant.kept;
      }
    ]
