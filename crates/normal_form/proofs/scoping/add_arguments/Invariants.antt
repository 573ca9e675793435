use Rattle.std.proofs.Common.{◌≡◌, ◌++◌}
use Rattle.std.specs.List.{filter}
use Rattle.formulas.specs.Bindings.{numbers_from}
use Rattle.normal_form.specs.Marking.{is_marked}
use Rattle.normal_form.proofs.scoping.add_arguments.Given as goal

abbrev pub invariant-loop-place : goal.invariant-loop-place
invariant-loop-place l = l.found ≡ l.fn.found ++ filter (is_marked l.marks) (numbers_from l.block.first l.place)
