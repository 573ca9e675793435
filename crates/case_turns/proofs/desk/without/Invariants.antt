use Rattle.case_turns.proofs.Desks.{AreWithout}
use Rattle.case_turns.proofs.desk.without.Given as goal

abbrev pub invariant-loop-k : goal.invariant-loop-k
invariant-loop-k l = AreWithout l.numbers l.others l.kept.items l.k
