use Rattle.case_turns.specs.TurnLaws.{continues_closing}
use Rattle.worker_tests.proofs.turns.goes_on.Goals as goal

pub returns-clause-more : goal.returns-clause-more
returns-clause-more c = continues_closing c.args.by c.args.table.now.past c.settle.new.table.past c.settle.ensures.closes
