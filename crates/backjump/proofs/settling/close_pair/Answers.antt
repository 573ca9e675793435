use Rattle.std.proofs.Common.{◌+◌, ◌*◌, ◌∙◌, sym, subst}
use Rattle.backjump.specs.Cases.{IsSettledAbove}
use Rattle.backjump.proofs.Steps.{closed_by}
use Rattle.backjump.proofs.settling.close_pair.Goals as goal

pub returns-clause-step : goal.returns-clause-step
returns-clause-step c =
    let s = c.args.table.now.setting in
    let d = c.args.closed in
    (closed_by s c.reserve.new.self.setting c.args.table.now.past c.reserve.new.self.past c.laws.ensures.legal c.args.by c.args.place d.inner d.split d.left_empty d.right_empty c.requires.closed
    c.in_ok-event.event c.reserve.ensures.setting c.reserve.ensures.past c.in_ok-event.ensures c.apply.new.self.past c.apply.ensures.past).0

pub returns-clause-settled : goal.returns-clause-settled
returns-clause-settled c =
    let s = c.args.table.now.setting in
    let d = c.args.closed in
    subst (λ x. IsSettledAbove x c.apply.new.self.past (2 * c.args.place + 1)) (sym (c.apply.ensures.setting ∙ c.reserve.ensures.setting))
    (closed_by s c.reserve.new.self.setting c.args.table.now.past c.reserve.new.self.past c.laws.ensures.legal c.args.by c.args.place d.inner d.split d.left_empty d.right_empty c.requires.closed
    c.in_ok-event.event c.reserve.ensures.setting c.reserve.ensures.past c.in_ok-event.ensures c.apply.new.self.past c.apply.ensures.past).1
