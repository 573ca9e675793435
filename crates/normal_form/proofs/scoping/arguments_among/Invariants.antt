use Rattle.std.proofs.Common.{◌≡◌, take}
use Rattle.std.specs.List.{filter}
use Rattle.normal_form.specs.Blocks.{scope_in}
use Rattle.normal_form.specs.Marking.{is_marked}
use Rattle.normal_form.proofs.scoping.arguments_among.Given as goal

abbrev pub invariant-loop-block : goal.invariant-loop-block
invariant-loop-block l = l.found ≡ filter (is_marked l.marks) (scope_in (take l.block-index l.blocks))
