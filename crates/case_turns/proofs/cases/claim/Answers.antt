use Rattle.std.proofs.Common.{◌≡◌, None}
use Rattle.case_journal.specs.Ending.{first_end}
use Rattle.case_turns.proofs.Rounds.{claim_free, between_moved, moved_open}
use Rattle.case_turns.proofs.cases.claim.Goals as goal

pub returns-clause-free : goal.returns-clause-free
returns-clause-free c =
    let t = c.args.table.now in
    let r = c.reserve.new.self in
    let e = c.reserve.ensures in
    let n = c.apply.new.self in
    let unended : first_end r.past ≡ None = c.laws.ensures.unended (moved_open t r e.setting e.past c.requires.going) in
    claim_free c.dead_nodes_stay_dead.ensures c.chosen_leaves_are_held.ensures r n c.in-Some.node c.laws.ensures.legal c.apply.ensures.setting c.apply.ensures.past unended (between_moved t r 1 e.setting e.past c.requires.between) c.in-Some.ensures.claimable
