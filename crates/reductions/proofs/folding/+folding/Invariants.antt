use Rattle.std.proofs.Common.{◌+◌, ◌*◌, length, take}
use Rattle.reductions.specs.Folding.{AreMapped, AreRestored, plain, remainder}
use Rattle.reductions.proofs.Searching.{Among}
use Rattle.reductions.proofs.folding.+folding.Given as goal

abbrev pub decreases-map_all : goal.decreases-map_all
decreases-map_all l = 5 * length l.atoms.now

abbrev pub decreases-map_as : goal.decreases-map_as
decreases-map_as l = 5 * length l.rest.now + 1

abbrev pub decreases-map_to : goal.decreases-map_to
decreases-map_to l = 5 * length l.rest.now + 2

abbrev pub decreases-map_to_some : goal.decreases-map_to_some
decreases-map_to_some l = 5 * length l.rest.now + 3

abbrev pub decreases-map_first : goal.decreases-map_first
decreases-map_first l = 5 * length l.rest.now + 4

-- no earlier target serves
abbrev pub invariant-map_to_some-loop-target : goal.invariant-map_to_some-loop-target
invariant-map_to_some-loop-target l =
    AreRestored (Among (λ g. AreMapped g (remainder l.into) (plain l.rest)) l.atom (take l.target-index l.targets)) l.initial.found l.found
