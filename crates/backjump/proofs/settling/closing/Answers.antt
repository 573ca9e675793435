use Rattle.case_journal.specs.ListedLaws.{listed_within}
use Rattle.backjump.specs.Cases.{IsClosingEvent}
use Rattle.backjump.proofs.Steps.{closing_event, split_within, if_ok}
use Rattle.backjump.proofs.settling.closing.Goals as goal

pub line-requires-clause-some : goal.line-requires-clause-some
line-requires-clause-some c = (split_within c.args.table.now.setting c.args.table.now.past c.laws.ensures.legal c.args.closed.inner c.args.closed.split _ _ c.args.closed.left_empty c.args.closed.right_empty c.requires.closed).0

pub line-requires-clause-there : goal.line-requires-clause-there
line-requires-clause-there c = (split_within c.args.table.now.setting c.args.table.now.past c.laws.ensures.legal c.args.closed.inner c.args.closed.split _ _ c.args.closed.left_empty c.args.closed.right_empty c.requires.closed).1

pub line-requires-2-clause-there : goal.line-requires-2-clause-there
line-requires-2-clause-there c = (listed_within c.args.table.now.setting c.args.table.now.past c.laws.ensures.legal _ c.args.closed.left_empty c.requires.closed.first_left.empty.lists).1

pub line-requires-3-clause-there : goal.line-requires-3-clause-there
line-requires-3-clause-there c = (listed_within c.args.table.now.setting c.args.table.now.past c.laws.ensures.legal _ c.args.closed.right_empty c.requires.closed.first_right.empty.lists).1

pub returns : goal.returns
returns c =
    let s = c.args.table.now.setting in
    let p = c.args.table.now.past in
    let d = c.args.closed in
    if_ok {Q = IsClosingEvent s p c.args.by d.inner} c.publication.result c.publication.ensures (λ ev is.
    closing_event s p c.laws.ensures.legal c.args.by c.requires.some c.requires.worker c.requires.unended d.inner d.split _ _ d.left_empty d.right_empty c.requires.closed
    c.line.result.now c.line-2.result.now c.line-3.result.now c.line.ensures c.line-2.ensures c.line-3.ensures c.in_ok-line.line c.in_ok-line.ensures ev is)
