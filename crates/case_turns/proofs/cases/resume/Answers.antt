use Rattle.case_journal.specs.PlaceLaws.{claimed_within}
use Rattle.case_turns.proofs.cases.resume.Goals as goal

pub chosen-requires : goal.chosen-requires
chosen-requires c =
    let t = c.args.table.now in
    claimed_within t.setting t.past c.laws.ensures.legal 1 c.args.node c.requires.holds.claims
