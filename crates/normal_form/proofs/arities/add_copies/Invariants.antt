use Rattle.std.proofs.Common.{◌≡◌, ◌++◌, replicate}
use Rattle.normal_form.proofs.arities.add_copies.Given as goal

abbrev pub invariant-loop : goal.invariant-loop
invariant-loop l = l.found ≡ l.fn.found ++ replicate l.counter l.number
