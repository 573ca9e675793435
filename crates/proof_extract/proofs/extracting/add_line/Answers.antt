use Rattle.case_journal.specs.Journal.{ledger}
use Rattle.proof_steps.specs.Steps.{numbered}
use Rattle.proof_extract.specs.Extracting.{new_number}
use Rattle.proof_extract.proofs.Extracts.{taken_none}
use Rattle.proof_extract.proofs.extracting.add_line.Goals as goal

pub returns-else-marks-number : goal.returns-else-marks-number
returns-else-marks-number c = taken_none (new_number c.args.marks.now) c.args.marks.now c.args.number (numbered (ledger c.args.table.now.setting c.args.table.now.past) c.args.number) c.args.out.now c.requires.some c.if-marks-number.false
