use Rattle.std.proofs.Common.{drop}
use Rattle.std.specs.List.{flat_map}
use Rattle.superposition.specs.Readings.{reading_of}
use Rattle.superposition.specs.Walks.{superpose_lent}
use Rattle.superposition.proofs.Composing.{LeadsOn}
use Rattle.superposition.proofs.rewriting.superpose_in_atoms.Given as goal

abbrev pub invariant-loop-k : goal.invariant-loop-k
invariant-loop-k l =
    LeadsOn (flat_map (superpose_lent l.pair.p.now l.pair.q.now (reading_of l.equation) l.part) l.atoms) l.fn.out.items
    (flat_map (superpose_lent l.pair.p.now l.pair.q.now (reading_of l.equation) l.part) (drop l.k l.atoms)) l.out.items
