use Rattle.case_turns.proofs.Rounds.{choice_busy}
use Rattle.case_turns.proofs.leaves.choose.Goals as goal

pub returns-clause-busy : goal.returns-clause-busy
returns-clause-busy c = choice_busy c.dead_nodes_stay_dead.ensures c.args.table.now c.apply.new.self c.args.node c.args.clause c.apply.ensures.setting c.apply.ensures.past c.requires.free
