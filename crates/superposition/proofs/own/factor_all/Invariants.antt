use Rattle.std.proofs.Common.{drop}
use Rattle.std.specs.List.{flat_map}
use Rattle.superposition.specs.Readings.{factor_with}
use Rattle.superposition.proofs.Composing.{LeadsOn}
use Rattle.superposition.proofs.own.factor_all.Given as goal

abbrev pub invariant-loop-k : goal.invariant-loop-k
invariant-loop-k l =
    LeadsOn (flat_map (λ x. flat_map (λ y. factor_with l.p (x.0, x.1.now) (y.0, y.1.now)) l.atoms) l.places) l.fn.out.items
    (flat_map (λ x. flat_map (λ y. factor_with l.p (x.0, x.1.now) (y.0, y.1.now)) l.atoms) (drop l.k l.places)) l.out.items
