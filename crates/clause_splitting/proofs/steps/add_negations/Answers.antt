use Rattle.std.proofs.Common.{◌<◌, ap, arith}
use Rattle.clause_splitting.proofs.Lines.{negations_push, assumed_push, negation_assumed}
use Rattle.clause_splitting.proofs.steps.add_negations.Goals as goal

pub negation_line-requires : goal.negation_line-requires
negation_line-requires c = c.requires.there c.loop-number.number (omega (arith, c.loop-number-test.true))

pub loop-number-preserved : goal.loop-number-preserved
loop-number-preserved c =
    let i = c.loop-number.invariant in
    let n = c.loop-number.number in
    let h = c.in_ok-line.ensures in
    let below : n < c.args.count = omega (arith, c.loop-number-test.true) in
    record {
      steps = negations_push c.loop-number.lines c.push.new.self c.args.lines.now c.args.clause n c.in_ok-line.line i.steps (ap (λ l. l.step) h.is) c.in_ok-push.ensures.ok;
      each = assumed_push c.args.clause c.args.parts.now c.loop-number.lines c.push.new.self c.in_ok-line.line i.each (negation_assumed c.args.clause n c.args.parts.now c.in_ok-line.line (c.requires.ground n below) h) c.in_ok-push.ensures.ok;
    }
