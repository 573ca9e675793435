use Rattle.std.proofs.Common.{◌≡◌, ◌+◌, ◌*◌, length}
use Rattle.subsume.specs.Placing.{plain, plain_one}
use Rattle.subsume.proofs.Places.{StartsAt}
use Rattle.subsume.proofs.placing.+placing.Given as goal

abbrev pub decreases-place_all : goal.decreases-place_all
decreases-place_all l = 3 * length l.atoms.now

abbrev pub decreases-place_as : goal.decreases-place_as
decreases-place_as l = 3 * length l.rest.now + 1

abbrev pub decreases-place_first : goal.decreases-place_first
decreases-place_first l = 3 * length l.rest.now + 2

-- the bindings and the places in use are as before, and no earlier target serves
abbrev pub invariant-place_all-loop-place : goal.invariant-place_all-loop-place
invariant-place_all-loop-place l =
    (l.found ≡ l.initial.found) × (l.used ≡ l.initial.used) × StartsAt l.initial.found.1 l.initial.used (plain_one l.first) (plain l.rest) l.place
