use Rattle.std.proofs.Common.{◌≡◌, map, ◌++◌, drop}
use Rattle.proof_extract.specs.Extracting.{new_number}
use Rattle.proof_extract.proofs.renumbering.new_numbers.Given as goal

abbrev pub invariant-loop-number : goal.invariant-loop-number
invariant-loop-number l = l.made ++ map (new_number l.marks) (drop l.number-index l.numbers) ≡ map (new_number l.marks) l.numbers
