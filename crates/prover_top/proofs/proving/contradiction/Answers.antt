use Rattle.case_journal.specs.Journal.{ledger}
use Rattle.prover_top.proofs.Ends.{proved_by}
use Rattle.prover_top.proofs.Contradicted.{has_contradiction, contradictory_within}
use Rattle.prover_top.proofs.proving.contradiction.Goals as goal

pub unreachable-requires : goal.unreachable-requires
unreachable-requires c =
    let t = c.args.table.now in
    absurd (has_contradiction t (proved_by t c.journal_is_legal.ensures c.requires) c.in-None.ensures)

pub returns-clause-there : goal.returns-clause-there
returns-clause-there c =
    let first = c.in-Some.ensures in
    (contradictory_within (ledger c.args.table.now.setting c.args.table.now.past) c.in-Some.number first.is).1
