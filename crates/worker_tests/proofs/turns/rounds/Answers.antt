use Rattle.std.proofs.Common.{◌∙◌}
use Rattle.case_turns.specs.TurnLaws.{continues_more}
use Rattle.worker_tests.proofs.turns.rounds.Goals as goal

pub loop-preserved : goal.loop-preserved
loop-preserved c = record {
  setting = c.round.ensures.setting ∙ c.loop.invariant.setting;
  more = continues_more c.args.table.now.past c.loop.table.past c.round.new.table.past c.loop.invariant.more c.in_ok-round.ensures.more;
}

pub returns-clause-more : goal.returns-clause-more
returns-clause-more c = continues_more c.args.table.now.past c.loop.table.past c.goes_on.new.table.past c.loop.invariant.more c.in_ok-on.ensures.more
