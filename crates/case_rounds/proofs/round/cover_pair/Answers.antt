use Rattle.case_rounds.proofs.Lines.{line_first, line_second, covers_from, covers_extends}
use Rattle.case_rounds.proofs.round.cover_pair.Goals as goal

pub keep_all-requires-clause-each : goal.keep_all-requires-clause-each
keep_all-requires-clause-each c = λ l at. line_first c.args.view.now c.args.given.now c.args.other.now l c.requires.given c.requires.other (c.in_ok-made.ensures.are l at)

pub keep_all-requires-2-clause-each : goal.keep_all-requires-2-clause-each
keep_all-requires-2-clause-each c = λ l at. line_second c.args.view.now c.args.given.now c.args.other.now l c.requires.given c.requires.other (c.in_ok-back.ensures.are l at)

pub returns-clause-first : goal.returns-clause-first
returns-clause-first c =
    let v = c.args.view.now in
    let other = c.args.other.now in
    covers_extends v c.keep_all.new.lines c.keep_all-2.new.lines c.args.given.now other c.in_ok-keep_all-2.ensures.extends
    (covers_from v c.keep_all.new.lines c.in_ok-made.made c.args.given.now other c.in_ok-made.ensures.all c.in_ok-keep_all.ensures.covered)

pub returns-clause-second : goal.returns-clause-second
returns-clause-second c =
    let v = c.args.view.now in
    let other = c.args.other.now in
    covers_from v c.keep_all-2.new.lines c.in_ok-back.back other c.args.given.now c.in_ok-back.ensures.all c.in_ok-keep_all-2.ensures.covered
