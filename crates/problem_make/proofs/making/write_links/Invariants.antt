use Rattle.std.proofs.Common.{◌≡◌, ◌++◌}
use Rattle.std.specs.String.{string_bytes}
use Rattle.problem_make.specs.Generated.{texts_below, made_link}
use Rattle.problem_make.proofs.making.write_links.Given as goal

-- what was written for the numbers before this one
abbrev pub invariant-loop-i : goal.invariant-loop-i
invariant-loop-i l = string_bytes l.text ≡ string_bytes l.initial.text ++ texts_below (made_link l.number) l.i
