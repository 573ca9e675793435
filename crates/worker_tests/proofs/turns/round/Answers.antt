use Rattle.case_turns.specs.TurnLaws.{continues_more}
use Rattle.worker_tests.proofs.turns.round.Goals as goal

pub returns-then-not-branch-clause-more : goal.returns-then-not-branch-clause-more
returns-then-not-branch-clause-more c =
    let start = c.args.table.now.past in
    continues_more start c.choose.new.table.past c.goes_on.new.table.past (continues_more start c.claim.new.table.past c.choose.new.table.past c.in_ok-claim.ensures.more c.in_ok-choose.ensures.more) c.in_ok-goes_on.ensures.more

pub returns-in_default-clause-more : goal.returns-in_default-clause-more
returns-in_default-clause-more c =
    let start = c.args.table.now.past in
    continues_more start c.choose.new.table.past c.goes_on.new.table.past (continues_more start c.claim.new.table.past c.choose.new.table.past c.in_ok-claim.ensures.more c.in_ok-choose.ensures.more) c.in_ok-goes_on.ensures.more

pub returns-in_ok-append-clause-more : goal.returns-in_ok-append-clause-more
returns-in_ok-append-clause-more c =
    let start = c.args.table.now.past in
    let mid = c.goes_on.new.table.past in
    continues_more start mid c.append.new.table.past
    (continues_more start c.choose.new.table.past mid (continues_more start c.claim.new.table.past c.choose.new.table.past c.in_ok-claim.ensures.more c.in_ok-choose.ensures.more) c.in_ok-goes_on.ensures.more)
    c.in_ok-append.ensures.more
