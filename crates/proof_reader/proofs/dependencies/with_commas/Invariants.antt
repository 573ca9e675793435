use Rattle.std.proofs.Common.{◌≡◌, ◌-◌, [], length}
use Rattle.dep_sets.specs.Assumptions.{IsAscending}
use Rattle.dfg_terms.specs.Reading.{commas}
use Rattle.proof_reader.specs.ProofLists.{adding_assumption}
use Rattle.proof_reader.proofs.dependencies.with_commas.Given as goal

-- what was found ascends, and the rest is still to be read
abbrev pub invariant-loop : goal.invariant-loop
invariant-loop l =
    (commas (adding_assumption l.bytes) (length l.bytes - l.counter) l.found l.tokens ≡ commas (adding_assumption l.bytes) (length l.bytes) [] l.fn.tokens)
    × IsAscending l.found
