use Rattle.std.proofs.Common.{◌≡◌, ◌++◌, drop}
use Rattle.std.specs.Prelude.{filter}
use Rattle.std.specs.List.{enumerate_from}
use Rattle.spl_truth.specs.Places.{is_eligible}
use Rattle.superposition.specs.Words.{plain}
use Rattle.superposition.proofs.premises.eligible_in.Given as goal

abbrev pub invariant-loop-place : goal.invariant-loop-place
invariant-loop-place l =
    plain l.places.items ++ filter (λ x. is_eligible l.premise.statement.clause l.premise.selected l.part x.0) (enumerate_from l.place (drop l.place l.atoms))
    ≡ filter (λ x. is_eligible l.premise.statement.clause l.premise.selected l.part x.0) (enumerate_from 0 l.atoms)
