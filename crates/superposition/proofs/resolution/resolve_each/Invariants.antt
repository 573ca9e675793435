use Rattle.std.proofs.Common.{drop}
use Rattle.std.specs.List.{flat_map}
use Rattle.calculus.specs.Inferences.{resolve}
use Rattle.superposition.proofs.Composing.{LeadsOn}
use Rattle.superposition.proofs.resolution.resolve_each.Given as goal

abbrev pub invariant-loop-k : goal.invariant-loop-k
invariant-loop-k l =
    LeadsOn (flat_map (λ y. resolve l.part l.pair.p.now l.pair.q.now (l.first.0, l.first.1.now) (y.0, y.1.now)) l.atoms) l.fn.out.items
    (flat_map (λ y. resolve l.part l.pair.p.now l.pair.q.now (l.first.0, l.first.1.now) (y.0, y.1.now)) (drop l.k l.atoms)) l.out.items
