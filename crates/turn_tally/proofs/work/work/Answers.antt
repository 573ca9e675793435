use Rattle.std.proofs.Common.{ap, ◌∙◌, arith}
use Rattle.turn_tally.proofs.work.work.Goals as goal

pub append_once-requires-clause-limit : goal.append_once-requires-clause-limit
append_once-requires-clause-limit g c = (c.args.turns, ap (λ s. s.setting) c.loop-number.invariant.0.0 ∙ ap (λ s. s.setting) c.requires, omega arith)
