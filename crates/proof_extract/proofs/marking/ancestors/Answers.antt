use Rattle.std.proofs.Common.{◌-◌, refl, arith}
use Rattle.case_journal.specs.Journal.{ledger}
use Rattle.proof_extract.proofs.Parents.{parents_before}
use Rattle.proof_extract.proofs.MarkLemmas.{marked_down_at}
use Rattle.proof_extract.proofs.marking.ancestors.Goals as goal

pub loop-number-preserved : goal.loop-number-preserved
loop-number-preserved c =
    let lines = ledger c.args.table.now.setting c.args.table.now.past in
    record {
      marked = marked_down_at lines c.args.clause c.loop-number.number (c.loop-number.number - 1) c.loop-number.marks c.mark_parents.new.marks (parents_before c.args.table.now.setting.input lines c.laws.ensures.concluded) c.loop-number.invariant.marked c.loop-number-test.true refl c.mark_parents.ensures;
      below = omega (arith, c.loop-number.invariant.below);
    }
