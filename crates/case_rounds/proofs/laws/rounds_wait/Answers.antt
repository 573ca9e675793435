use Rattle.std.proofs.Common.{arith}
use Rattle.case_rounds.proofs.Growth.{steps_more}
use Rattle.case_rounds.proofs.laws.rounds_wait.Goals as goal

pub returns : goal.returns
returns c = λ s past later w m batch legal none live h. record {
  lines = h.lines;
  finish = h.finish;
  can = record { start = h.can.start; legal = h.can.legal; way = c.ready_stays.ensures.stays s h.can.start past later w m h.lines legal none live h.can.way; ends = h.can.ends };
  last = h.last;
  finishes = h.finishes;
  events = h.events;
  base = omega (arith, h.base, steps_more s past later);
  over = h.over;
}
