use Rattle.std.proofs.Common.{◌≡◌, take}
use Rattle.std.specs.Prelude.{map}
use Rattle.case_view.specs.declared.kept.Kept.{Kept}
use Rattle.case_turns.proofs.desk.numbers_of.Given as goal

abbrev pub invariant-loop-clause : goal.invariant-loop-clause
invariant-loop-clause l = l.numbers.items ≡ map (λ (k : Kept). k.number) (take l.clause-index l.clauses)
