use Rattle.std.proofs.Common.{◌≡◌, ◌++◌, take}
use Rattle.std.specs.Prelude.{map}
use Rattle.dep_sets.specs.declared.deps.Assumption.{Assumption}
use Rattle.case_turns.proofs.desk.add_splits.Given as goal

abbrev pub invariant-loop-side : goal.invariant-loop-side
invariant-loop-side l = l.numbers.items ≡ l.fn.numbers.items ++ map (λ (a : Assumption). a.split) (take l.side-index l.path)
