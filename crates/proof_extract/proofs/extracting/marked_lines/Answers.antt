use Rattle.std.proofs.Common.{◌∙◌}
use Rattle.case_journal.specs.Journal.{ledger}
use Rattle.proof_extract.specs.Extracting.{new_number}
use Rattle.proof_extract.proofs.Extracts.{extract_next}
use Rattle.proof_extract.proofs.extracting.marked_lines.Goals as goal

pub loop-k-preserved : goal.loop-k-preserved
loop-k-preserved c =
    extract_next (new_number c.args.marks.now) c.args.marks.now (ledger c.args.table.now.setting c.args.table.now.past) c.loop-k.k _ _ c.loop-k-test.true c.requires.there c.in_ok-add_line.ensures ∙ c.loop-k.invariant
