use Rattle.std.proofs.Common.{◌≡◌, ◌-◌, suc, arith}
use Rattle.proof_extract.specs.Extracting.{IsMarked, new_number}
use Rattle.proof_extract.proofs.Renumbered.{renumbered_from}
use Rattle.proof_extract.proofs.Counts.{new_numbers_rise}
use Rattle.proof_extract.proofs.renumbering.new_deps.Goals as goal

pub loop-left-preserved : goal.loop-left-preserved
loop-left-preserved c =
    let bs = c.args.marks.now in
    let up : c.loop-left.left ≡ suc (c.loop-left.left - 1) = omega (arith, c.loop-left-test.true) in
    record {
      made = rw (c.in_ok-made.ensures.exact, c.in_ok-one.ensures, c.new_number-split.ensures, c.loop-left.invariant.made)
          (renumbered_from (IsMarked bs) (new_number bs) (new_numbers_rise bs) c.args.deps.now (c.loop-left.left - 1) c.loop-left.left c.at-split.result c.requires.marked c.law.ensures.ascending c.at-split.ensures up);
      within = omega (arith, c.loop-left.invariant.within);
    }
