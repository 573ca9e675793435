use Rattle.std.proofs.Common.{arith}
use Rattle.case_journal.specs.ListedLaws.{listed_within}
use Rattle.backjump.proofs.Follow.{twin_there, parent_read, next_event}
use Rattle.backjump.proofs.closing.next_step.Goals as goal

pub first_empty-requires : goal.first_empty-requires
first_empty-requires c = omega (arith, c.twin_of.ensures, twin_there c.args.table.now.setting c.args.table.now.past c.laws.ensures.legal c.args.at c.requires.some c.requires.there)

pub sided_line-requires-clause-split_some : goal.sided_line-requires-clause-split_some
sided_line-requires-clause-split_some c =
    (parent_read c.args.table.now.setting c.args.table.now.past c.laws.ensures.legal c.args.at c.split_above-inner.result.0 c.split_above-inner.result.1 c.requires.some c.requires.there c.split_above-inner.ensures).1.0

pub sided_line-requires-clause-split_there : goal.sided_line-requires-clause-split_there
sided_line-requires-clause-split_there c =
    (parent_read c.args.table.now.setting c.args.table.now.past c.laws.ensures.legal c.args.at c.split_above-inner.result.0 c.split_above-inner.result.1 c.requires.some c.requires.there c.split_above-inner.ensures).1.1

pub sided_line-requires-clause-twin_there : goal.sided_line-requires-clause-twin_there
sided_line-requires-clause-twin_there c = (listed_within c.args.table.now.setting c.args.table.now.past c.laws.ensures.legal c.twin_of.result c.in-Some.twin_empty c.in-Some.ensures.empty.lists).1

pub owner-node-requires : goal.owner-node-requires
owner-node-requires c =
    (parent_read c.args.table.now.setting c.args.table.now.past c.laws.ensures.legal c.args.at c.split_above-inner.result.0 c.split_above-inner.result.1 c.requires.some c.requires.there c.split_above-inner.ensures).0

pub publication-requires : goal.publication-requires
publication-requires c =
    (parent_read c.args.table.now.setting c.args.table.now.past c.laws.ensures.legal c.args.at c.split_above-inner.result.0 c.split_above-inner.result.1 c.requires.some c.requires.there c.split_above-inner.ensures).0

pub returns : goal.returns
returns c =
    next_event c.args.table.now.setting c.args.table.now.past c.laws.ensures.legal c.args.at c.args.number c.split_above-inner.result.0 c.split_above-inner.result.1 c.twin_of.result c.in-Some.twin_empty c.owner-node.result
    c.args.deps.now c.in_ok-deps.deps c.in_ok-line.line c.in_ok-event.event c.requires.some c.requires.there c.split_above-inner.ensures c.twin_of.ensures c.in-Some.ensures c.in_ok-line.ensures c.in_ok-deps.ensures c.owner-node.ensures c.in_ok-event.ensures
